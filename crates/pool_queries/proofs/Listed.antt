-- The tasks and the bots of a sound pool, one by one.
use Rattle.std.proofs.Common.{◌≡◌, ℕ, ◌-◌, ◌<◌, ◌≤◌, inl, inr, List, [], ◌∷◌, ◌++◌, length, get_or, Option, Some, None, Bool, true, false, cond, refl, sym, ap, ◌∙◌, reverse, arith}
use Rattle.std.specs.Prelude.{nat_lt, ◌&&◌}
use Rattle.std.specs.List.{AllPairs, filter}
use Rattle.std.specs.Ordering.{is_lt, ordering_reverse}
use Rattle.std.specs.declared.cmp.Ordering.{Ordering}
use Rattle.std.specs.declared.cmp.Ordering.TheVariants.{Less, Equal, Greater}
use Rattle.std.specs.Cmp.Lexicographic.{nat_list_cmp_total}
use Rattle.std.proofs.lemmas.Bool.Decides.{nat_tests}
use Rattle.std.proofs.lemmas.List.{reverse-append, length-reverse, get_or-reverse, append-nil}
use Rattle.std.proofs.lemmas.List.Elements.{filter-append}
use Rattle.std.proofs.lemmas.List.Sorted.{ranks_by}
use Rattle.dimensions.specs.Order.{is_text_below, text_cmp, sorted_by}
use Rattle.dimensions.proofs.Orders.{text_order, texts-tied}
use Rattle.dimensions.proofs.Tests.{and-other}
use Rattle.swarm_model.specs.declared.task_state.TaskState.{TaskState}
use Rattle.swarm_model.specs.declared.task_row.TaskRow.{TaskRow}
use Rattle.swarm_model.specs.declared.bot_row.BotRow.{BotRow}
use Rattle.swarm_model.specs.declared.pool_state.PoolState.{PoolState}
use Rattle.swarm_model.specs.Effects.{no_of_task, no_of_bot}
use Rattle.swarm_model.specs.Finding.{is_wanted}
use Rattle.swarm_model.specs.Numbers.{AreNumbered}
use Rattle.swarm_model.specs.Pages.{is_older, is_listed, listed_tasks, is_named_before, is_after, listed_bots}
use Rattle.swarm_model.specs.Soundness.{IsSound}
use Rattle.swarm_model.proofs.Numbers.{number_at}
use Rattle.pool_queries.proofs.Sorted.{Differ, Rises-sorted_by, below-trans, below-itself}
use Rattle.pool_queries.proofs.Beyond.{Precedes, beyond_first}
use Rattle.pool_queries.proofs.Pages.{GoesOn}

-- ---- tasks, the newest first

and-not : (t u : Bool) → u ≡ false → (t && u) ≡ false
and-not true u h = h
and-not false u h = refl

is_below : (m n : ℕ) → m < n → nat_lt m n ≡ true
is_below m n less = grind (arith, nat_tests)

not_below : (m n : ℕ) → n ≤ m → nat_lt m n ≡ false
not_below m n le = grind (arith, nat_tests)

older_more : (c : Option ℕ) (a b : TaskRow) → b.no < a.no → is_older c a ≡ true → is_older c b ≡ true
older_more None a b less h = refl
older_more (Some below) a b less h = grind (arith, nat_tests)

-- where the task behind this one is looked for
abbrev pub below_task : TaskRow → Option ℕ
below_task task = Some task.no

module _ (wanted : Option TaskState) where
  newer_precedes : (a b : TaskRow) → b.no < a.no → Precedes (is_listed wanted) below_task a b
  newer_precedes a b less =
      record {
        passed = and-not (is_wanted wanted a) (nat_lt a.no b.no) (not_below a.no b.no (omega arith));
        stays = λ c h. ap (λ t. is_wanted wanted b && t) (is_below b.no a.no less ∙ sym (older_more c a b less (and-other (is_wanted wanted a) (is_older c a) h)));
      }

  listed-itself : (a : TaskRow) → is_listed wanted (below_task a) a ≡ false
  listed-itself a = and-not (is_wanted wanted a) (nat_lt a.no a.no) (not_below a.no a.no (omega arith))

-- the numbers fall from each task to the next
falling : (wanted : Option TaskState) (tasks : List TaskRow) → AreNumbered no_of_task 1 tasks → AllPairs (Precedes (is_listed wanted) below_task) (reverse tasks)
falling wanted tasks numbered i j d less low =
    let n = length tasks in
    let size : j < n = omega (arith, low, length-reverse tasks) in
    let first = number_at no_of_task 1 (n - 1 - i) tasks d numbered (omega arith) in
    let second = number_at no_of_task 1 (n - 1 - j) tasks d numbered (omega arith) in
    let is_first = ap no_of_task (get_or-reverse tasks i d (omega arith)) in
    let is_second = ap no_of_task (get_or-reverse tasks j d size) in
    newer_precedes wanted (get_or (reverse tasks) i d) (get_or (reverse tasks) j d) (omega (arith, first, second, is_first, is_second))

pub filter-reverse : {X : Type 0} (test : X → Bool) (xs : List X) → filter test (reverse xs) ≡ reverse (filter test xs)
filter-reverse test [] = refl
filter-reverse {X} test (x ∷ xs) =
    ap (filter test) (reverse-append (x ∷ []) xs) ∙ filter-append test (reverse xs) (x ∷ []) ∙ by_test (test x) (filter-reverse test xs)
  where
    by_test : (t : Bool) → filter test (reverse xs) ≡ reverse (filter test xs) → filter test (reverse xs) ++ cond t (x ∷ []) [] ≡ reverse (cond t (x ∷ filter test xs) (filter test xs))
    by_test true e = ap (λ (ys : List X). ys ++ x ∷ []) e ∙ sym (reverse-append (x ∷ []) (filter test xs))
    by_test false e = append-nil (filter test (reverse xs)) ∙ e

pub tasks_go_on : (s : PoolState) → IsSound s → (wanted : Option TaskState) → GoesOn (listed_tasks s wanted) below_task
tasks_go_on s sound wanted c row more is =
    sym (filter-reverse (is_listed wanted (below_task row)) s.tasks)
    ∙ beyond_first (is_listed wanted) below_task (listed-itself wanted) c (reverse s.tasks) row more (falling wanted s.tasks sound.tasks_numbered) (filter-reverse (is_listed wanted c) s.tasks ∙ is)

-- ---- bots, by their names

abbrev pub name_of : BotRow → List ℕ
name_of bot = bot.name

named_precedes : (a b : BotRow) → is_named_before a b ≡ true → Precedes is_after name_of a b
named_precedes a b low =
    record {
      passed = text_order.one_way a.name b.name low;
      stays = λ c h. low ∙ sym (below-trans is_text_below text_order c a.name b.name h low);
    }

one_below : (a b : List ℕ) → (a ≡ b → ⊥) → Differ is_text_below a b
one_below a b apart = by_order (text_cmp a b) refl
  where
    by_order : (o : Ordering) → text_cmp a b ≡ o → Differ is_text_below a b
    by_order Less e = inl (ap is_lt e)
    by_order Equal e = absurd (apart (texts-tied a b e))
    by_order Greater e = inr (ap is_lt (nat_list_cmp_total.antisymm b a ∙ ap ordering_reverse e))

-- bots of one name are one
names_differ : (s : PoolState) → IsSound s → AllPairs (Differ is_named_before) s.bots
names_differ s sound i j d less low =
    let a = get_or s.bots i d in
    let b = get_or s.bots j d in
    let first = number_at no_of_bot 1 i s.bots d sound.bots_numbered (omega arith) in
    let second = number_at no_of_bot 1 j s.bots d sound.bots_numbered low in
    one_below a.name b.name (λ e. omega (arith, first, second, sound.names i d (omega arith) j d low e))

pub bots_go_on : (s : PoolState) → IsSound s → GoesOn (listed_bots s) name_of
bots_go_on s sound c row more is =
    let sorted = sorted_by is_named_before s.bots in
    let rises = Rises-sorted_by is_named_before (ranks_by nat_list_cmp_total name_of) s.bots (names_differ s sound) in
    beyond_first is_after name_of (λ a. below-itself is_text_below text_order a.name) c sorted row more
    (λ i j d less low. named_precedes (get_or sorted i d) (get_or sorted j d) (rises i j d less low)) is

-- A bot of a sound pool runs the task whose row says so.
use Rattle.std.proofs.Common.{◌≡◌, ℕ, ◌+◌, ◌≤◌, ◌==◌, Bool, true, false, cond, List, [], ◌∷◌, map, length, refl, ap, sym, ◌∙◌, subst, arith, Option, Some, None, IfSome, find, eqb-true}
use Rattle.std.specs.List.{All}
use Rattle.std.specs.Option.{option_map, option_map_or}
use Rattle.std.proofs.lemmas.Bool.{eq-eqb, eqb-false}
use Rattle.std.proofs.lemmas.Option.{same_Some}
use Rattle.std.proofs.lemmas.List.Elements.{All-head, All-tail, All-weaker}
use Rattle.base_lines.specs.Types.{TaskRow, BotRow, PoolState}
use Rattle.swarm_model.specs.Numbers.{AreNumbered}
use Rattle.swarm_model.specs.Effects.{no_of_task}
use Rattle.swarm_model.specs.Soundness.{IsSound, IsSoundBot, Agree, runner}
use Rattle.base_lines.specs.Computed.{runs_on, run_among, with_run}

runs_true : (number : ℕ) (r : Option ℕ) → option_map_or (λ (bot : ℕ). bot == number) r false ≡ true → r ≡ Some number
runs_true number None e = absurd (cc (e))
runs_true number (Some bot) e = ap (λ (k : ℕ). Some k) (eqb-true bot number e)

runs_found : (number : ℕ) (r : Option ℕ) → r ≡ Some number → option_map_or (λ (bot : ℕ). bot == number) r false ≡ true
runs_found number None e = absurd (cc (e))
runs_found number (Some bot) e = eq-eqb bot number (same_Some _ _ e)

module _ (bot : BotRow) where
  abbrev test : TaskRow → Bool
  test = runs_on bot.no

  -- the row that is found is the one that the bot names
  is_found : (tasks : List TaskRow) (x : TaskRow) → All (Agree bot) tasks → find test tasks ≡ Some x → bot.task ≡ Some x.no
  is_found [] x agree e = absurd (cc (e))
  is_found (y ∷ ys) x agree e = by_test (test y) refl e (is_found ys x (All-tail (Agree bot) y ys agree))
    where
      by_test : (b : Bool) → test y ≡ b → cond b (Some y) (find test ys) ≡ Some x → (find test ys ≡ Some x → bot.task ≡ Some x.no) → bot.task ≡ Some x.no
      by_test true t g rest =
          (let same : y ≡ x = same_Some _ _ g in
          (All-head (Agree bot) y ys agree).1 (runs_true bot.no (runner y) t) ∙ ap (λ (z : TaskRow). Some z.no) same)
      by_test false t g rest = rest g

  -- a row that the bot doesn't run has another number than the one that it names
  is_other : (t : ℕ) (y : TaskRow) → Agree bot y → test y ≡ false → bot.task ≡ Some t → (b : Bool) → (y.no == t) ≡ b → b ≡ false
  is_other t y agree fails named false g = refl
  is_other t y agree fails named true g =
      absurd (let here = agree.0 (named ∙ ap (λ (k : ℕ). Some k) (sym (eqb-true y.no t g))) in cc (fails, runs_found bot.no (runner y) here))

  first_none : (y : TaskRow) (ys : List TaskRow) (b : Bool) → test y ≡ b → cond b (Some y) (find test ys) ≡ None → (test y ≡ false) × (find test ys ≡ None)
  first_none y ys true t e = absurd (cc (e))
  first_none y ys false t e = (t, e)

  -- where none is found, the bot names none of the rows
  is_none_of : (n t : ℕ) (tasks : List TaskRow) → All (Agree bot) tasks → AreNumbered no_of_task n tasks → find test tasks ≡ None → bot.task ≡ Some t → n ≤ t → n + length tasks ≤ t
  is_none_of n t [] agree numbered e named low = omega (arith, low)
  is_none_of n t (y ∷ ys) agree numbered e named low =
      let none = first_none y ys (test y) refl e in
      let apart = eqb-false y.no t (is_other t y (All-head (Agree bot) y ys agree) none.0 named (y.no == t) refl) in
      let number = numbered.0 in
      let rest = is_none_of (n + 1) t ys (All-tail (Agree bot) y ys agree) numbered.1 none.1 named (omega (arith, low, apart, number)) in
      omega (arith, rest)

  run_again : (tasks : List TaskRow) → All (Agree bot) tasks → AreNumbered no_of_task 1 tasks → IfSome bot.task (λ t. (1 ≤ t) × (t ≤ length tasks)) → run_among tasks bot.no ≡ bot.task
  run_again tasks agree numbered there = by_found (find test tasks) refl
    where
      names_none : find test tasks ≡ None → (r : Option ℕ) → bot.task ≡ r → None ≡ r
      names_none e None g = refl
      names_none e (Some t) g =
          (let within : (1 ≤ t) × (t ≤ length tasks) = subst (λ (r : Option ℕ). IfSome r (λ t. (1 ≤ t) × (t ≤ length tasks))) g there in
          let past = is_none_of 1 t tasks agree numbered e g within.0 in
          absurd (omega (arith, past, within.1)))

      by_found : (r : Option TaskRow) → find test tasks ≡ r → option_map (λ (task : TaskRow). task.no) r ≡ bot.task
      by_found None e = names_none e bot.task refl
      by_found (Some x) e = sym (is_found tasks x agree e)

  bot_again : (tasks : List TaskRow) → All (Agree bot) tasks → AreNumbered no_of_task 1 tasks → IfSome bot.task (λ t. (1 ≤ t) × (t ≤ length tasks)) → with_run tasks bot ≡ bot
  bot_again tasks agree numbered there = λ i. record bot { task = run_again tasks agree numbered there i }

-- so all bots
bots_again : (tasks : List TaskRow) (bots : List BotRow) → AreNumbered no_of_task 1 tasks → All (λ bot. All (Agree bot) tasks) bots → All (λ bot. IfSome bot.task (λ t. (1 ≤ t) × (t ≤ length tasks))) bots →
    map (with_run tasks) bots ≡ bots
bots_again tasks [] numbered agree there = refl
bots_again tasks (bot ∷ bots) numbered agree there =
    let first = bot_again bot tasks (All-head (λ (b : BotRow). All (Agree b) tasks) bot bots agree) numbered (All-head (λ (b : BotRow). IfSome b.task (λ t. (1 ≤ t) × (t ≤ length tasks))) bot bots there) in
    let rest =
    bots_again tasks bots numbered (All-tail (λ (b : BotRow). All (Agree b) tasks) bot bots agree) (All-tail (λ (b : BotRow). IfSome b.task (λ t. (1 ≤ t) × (t ≤ length tasks))) bot bots there) in
    cc (first, rest)

pub runs_again : (s : PoolState) → IsSound s → map (with_run s.tasks) s.bots ≡ s.bots
runs_again s o = bots_again s.tasks s.bots o.tasks_numbered o.runs (All-weaker (IsSoundBot s) (λ bot. IfSome bot.task (λ t. (1 ≤ t) × (t ≤ length s.tasks))) (λ bot h. h.has_task) s.bots o.bots)

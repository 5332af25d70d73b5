-- The task that comes next in the queues is the first of the rows that wait for the bot.
use Rattle.std.proofs.Common.{◌≡◌, ℕ, ◌==◌, ◌&&◌, ◌||◌, not, Bool, true, false, cond, List, [], ◌∷◌, ◌⊎◌, inl, inr, filter, refl, sym, ap, ◌∙◌, subst, arith, Option, Some, None}
use Rattle.std.specs.Prelude.{nat_lt}
use Rattle.std.specs.List.{fold}
use Rattle.std.specs.Option.{option_map, option_and_then}
use Rattle.std.proofs.lemmas.Bool.{cases_Bool, cond-true, cond-false, false≢true, and_parts, and_from}
use Rattle.std.proofs.lemmas.Bool.Decides.{nat_tests}
use Rattle.std.proofs.lemmas.Option.{same_Some}
use Rattle.index_laws.specs.Types.{QueueSet, BotDims, Slice, Pending, TaskRow, PoolState, Waiting}
use Rattle.dimensions.specs.Matching.{matches}
use Rattle.swarm_model.specs.Finding.{has_state, task_of}
use Rattle.swarm_model.specs.Slices.{current_slice, takes_slice, is_kept_from, waits_for, goes_before, foremost, first}
use Rattle.swarm_model.specs.Soundness.{IsSound}
use Rattle.pool_laws.proofs.Lists.{Among, here, later, filter_is, filter_has}
use Rattle.pool_laws.proofs.Rows.{one_task, find_task}
use Rattle.dim_queue.specs.Order.{goes_first}
use Rattle.dim_queue.specs.Taking.{taker, may_take}
use Rattle.dim_queue.specs.Plain.{QueueState, Waits, IsNextOf}
use Rattle.index_laws.specs.Keys.{HasKey}
use Rattle.index_laws.specs.TaskQueues.{AreQueued, waiting_of, place_in, FirstIsNext}
use Rattle.index_laws.proofs.Keys.{among_of, contains_of}

abbrev Place : Type 0
Place = Waiting × QueueSet

-- ---- the order of tasks

abbrev below : (r n q l : ℕ) → Bool
below r n q l = nat_lt r q || (r == q && nat_lt n l)

-- where neither of two goes before the other, their numbers are one
below_tie : (r n q l : ℕ) → below r n q l ≡ false → below q l r n ≡ false → n ≡ l
below_tie r n q l g h = grind (arith, nat_tests)

abbrev NotBefore : TaskRow → Option TaskRow → Type 0
NotBefore d None = Unit {0}
NotBefore d (Some x) = goes_before x d ≡ false

-- no other row stands at the place of this one in the order
abbrev Alone : TaskRow → TaskRow → Type 0
Alone d x = goes_before x d ≡ false → goes_before d x ≡ false → x ≡ d

abbrev AloneIf : TaskRow → Option TaskRow → Type 0
AloneIf d None = Unit {0}
AloneIf d (Some x) = Alone d x

-- a search finds the row that goes before all others
found : (d : TaskRow) (best : Option TaskRow) (xs : List TaskRow) → NotBefore d best → AloneIf d best → ((x : TaskRow) → Among x xs → (goes_before x d ≡ false) × Alone d x) →
    (best ≡ Some d) ⊎ Among d xs → fold foremost best xs ≡ Some d
found d best [] h a all (inl e) = e
found d best [] h a all (inr i) = elim i [ ]
found d best (x ∷ xs) h a all it = found d (foremost best x) xs (step best h) (alone best a) (λ y b. all y (later b)) (by_place it)
  where
    x_is : (goes_before x d ≡ false) × Alone d x
    x_is = all x here

    step : (b : Option TaskRow) → NotBefore d b → NotBefore d (foremost b x)
    step None g = x_is.0
    step (Some y) g = elim (cases_Bool (goes_before x y)) [
      | inl t ↦ subst (NotBefore d) (sym (cond-true (goes_before x y) (Some x) (Some y) t)) x_is.0
      | inr f ↦ subst (NotBefore d) (sym (cond-false (goes_before x y) (Some x) (Some y) f)) g
    ]

    alone : (b : Option TaskRow) → AloneIf d b → AloneIf d (foremost b x)
    alone None g = x_is.1
    alone (Some y) g = elim (cases_Bool (goes_before x y)) [
      | inl t ↦ subst (AloneIf d) (sym (cond-true (goes_before x y) (Some x) (Some y) t)) x_is.1
      | inr f ↦ subst (AloneIf d) (sym (cond-false (goes_before x y) (Some x) (Some y) f)) g
    ]

    -- the best so far stays, where it is the row
    stays : (b : Option TaskRow) → b ≡ Some d → foremost b x ≡ Some d
    stays None e = absurd (cc)
    stays (Some y) e =
        (let same : y ≡ d = cc in
        let behind : goes_before x y ≡ false = subst (λ (z : TaskRow). goes_before x z ≡ false) (sym same) x_is.0 in
        cond-false (goes_before x y) (Some x) (Some y) behind ∙ e)

    -- the next row is taken, where it is the row
    taken : (b : Option TaskRow) → NotBefore d b → AloneIf d b → x ≡ d → foremost b x ≡ Some d
    taken None g l e = ap (λ (z : TaskRow). Some z) e
    taken (Some y) g l e = elim (cases_Bool (goes_before x y)) [
      | inl t ↦ cond-true (goes_before x y) (Some x) (Some y) t ∙ ap (λ (z : TaskRow). Some z) e
      | inr f ↦
          let behind : goes_before d y ≡ false = subst (λ (z : TaskRow). goes_before z y ≡ false) e f in
          cond-false (goes_before x y) (Some x) (Some y) f ∙ ap (λ (z : TaskRow). Some z) (l g behind)
    ]

    in_rest : (z : TaskRow) → Among z (x ∷ xs) → z ≡ d → (foremost best x ≡ Some d) ⊎ Among d xs
    in_rest z here e = inl (taken best h a e)
    in_rest z (later i) e = inr (subst (λ (r : TaskRow). Among r xs) e i)

    by_place : (best ≡ Some d) ⊎ Among d (x ∷ xs) → (foremost best x ≡ Some d) ⊎ Among d xs
    by_place (inl e) = inl (stays best e)
    by_place (inr i) = in_rest d i refl

none_left : (xs : List TaskRow) → ((x : TaskRow) → Among x xs → ⊥) → xs ≡ []
none_left [] h = refl
none_left (x ∷ xs) h = absurd (h x here)

-- ---- the queues

-- a pending row of the number and the priority, which waits with the set
record IsPending (tasks : List TaskRow) (w : Waiting) (set : QueueSet) : Type 0 where
  task : TaskRow
  among : Among task tasks
  pending : has_state Pending task ≡ true
  slice : Slice
  current : current_slice task ≡ Some slice
  placed : place_in task slice ≡ (w, set)

-- a row with a place in the queues is pending
pending : (tasks : List TaskRow) (w : Waiting) (set : QueueSet) → HasKey waiting_of tasks (w, set) → IsPending tasks w set
pending tasks w set k = by_test (has_state Pending k.task) refl k.keyed
  where
    by_slice : has_state Pending k.task ≡ true → (r : Option Slice) → current_slice k.task ≡ r → option_map (place_in k.task) r ≡ Some (w, set) → IsPending tasks w set
    by_slice p None q h = absurd (cc (h))
    by_slice p (Some slice) q h = record { task = k.task; among = among_of tasks k.task k.among; pending = p; slice = slice; current = q; placed = same_Some _ _ h }

    by_test : (c : Bool) → has_state Pending k.task ≡ c → cond c (option_map (place_in k.task) (current_slice k.task)) None ≡ Some (w, set) → IsPending tasks w set
    by_test true p h = by_slice p (current_slice k.task) refl h
    by_test false p h = absurd (cc (h))

module _ (s : PoolState) (o : IsSound s) (queues : List QueueState) (queued : AreQueued queues s.tasks) (number : ℕ) (bot : BotDims) where
  abbrev waiting : TaskRow → Waiting
  waiting task = record { priority = task.request.priority; number = task.no }

  -- where a row waits that waits for the bot
  record IsIn (x : TaskRow) : Type 0 where
    set : QueueSet
    stands : Waits queues (waiting x) set
    fits : may_take (taker number bot) set ≡ true

  in_queue : (x : TaskRow) → Among x s.tasks → waits_for number bot x ≡ true → IsIn x
  in_queue x a w = by_slice (current_slice x) refl both.0
    where
      two : (has_state Pending x ≡ true) × ((takes_slice bot (current_slice x) && not (is_kept_from number x)) ≡ true)
      two = and_parts (has_state Pending x) (takes_slice bot (current_slice x) && not (is_kept_from number x)) w

      both : (takes_slice bot (current_slice x) ≡ true) × (not (is_kept_from number x) ≡ true)
      both = and_parts (takes_slice bot (current_slice x)) (not (is_kept_from number x)) two.1

      by_slice : (r : Option Slice) → current_slice x ≡ r → takes_slice bot r ≡ true → IsIn x
      by_slice None e t = absurd (false≢true t)
      by_slice (Some slice) e t =
          (let keyed : waiting_of x ≡ Some (place_in x slice) = cond-true (has_state Pending x) (option_map (place_in x) (current_slice x)) None two.0 ∙ ap (option_map (place_in x)) e in
          record {
            set = (place_in x slice).1;
            stands = (queued.each (waiting x) (place_in x slice).1).1 (record { task = x; among = contains_of s.tasks x a; keyed = keyed });
            fits = and_from (not (is_kept_from number x)) (matches bot slice.properties.dimensions) both.1 t;
          })

  first_is : (next : Option Waiting) → IsNextOf queues (taker number bot) next → option_and_then (λ (w : Waiting). task_of s w.number) next ≡ first s number bot
  first_is None none =
      ap (fold foremost None) (sym (none_left (filter (waits_for number bot) s.tasks) (λ x a.
      let f = filter_is (waits_for number bot) s.tasks x a in
      let l = in_queue x f.among f.passes in
      false≢true (sym (none (waiting x) l.set l.stands) ∙ l.fits))))
  first_is (Some w) is =
      let p = pending s.tasks w is.set ((queued.each w is.set).0 is.waits) in
      let task = p.task in
      let w_is : waiting task ≡ w = ap (λ (k : Place). k.0) p.placed in
      let alike : (place_in task p.slice).1 ≡ is.set = ap (λ (k : Place). k.1) p.placed in
      let fits = and_parts (not (is_kept_from number task)) (matches bot p.slice.properties.dimensions) (subst (λ (d : QueueSet). may_take (taker number bot) d ≡ true) (sym alike) is.fits) in
      let takes : takes_slice bot (current_slice task) ≡ true = subst (λ (r : Option Slice). takes_slice bot r ≡ true) (sym p.current) fits.1 in
      let waits : waits_for number bot task ≡ true = and_from (has_state Pending task) (takes_slice bot (current_slice task) && not (is_kept_from number task)) p.pending (and_from (takes_slice bot (current_slice task)) (not (is_kept_from number task)) takes fits.0) in
      let row : task_of s w.number ≡ Some task = find_task s o task w.number p.among (ap (λ (v : Waiting). v.number) w_is) in
      let others : (x : TaskRow) → Among x (filter (waits_for number bot) s.tasks) → (goes_before x task ≡ false) × Alone task x = λ x b.
      let f = filter_is (waits_for number bot) s.tasks x b in
      let l = in_queue x f.among f.passes in
      let behind : goes_before x task ≡ false = subst (λ (v : Waiting). goes_first (waiting x) v ≡ false) (sym w_is) (is.first (waiting x) l.set l.stands l.fits) in
      (behind, λ g h. one_task s o x task f.among p.among (below_tie x.request.priority x.no task.request.priority task.no g h)) in
      row ∙ sym (found task None (filter (waits_for number bot) s.tasks) tt tt others (inr (filter_has (waits_for number bot) s.tasks task p.among waits)))

pub first_is_next : FirstIsNext
first_is_next s o queues queued number bot next is = first_is s o queues queued number bot next is

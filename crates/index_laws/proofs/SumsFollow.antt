-- After an entry a sum over the rows differs by what the touched row adds to it.
use Rattle.std.proofs.Common.{◌≡◌, ℕ, ◌+◌, ◌==◌, Bool, true, false, cond, List, [], ◌∷◌, ◌++◌, map, find, refl, sym, ap, ◌∙◌, subst, arith, Option, Some, None, eqb-true}
use Rattle.std.specs.List.{sum_by}
use Rattle.std.specs.Option.{option_map_or}
use Rattle.std.proofs.lemmas.Bool.{eq-eqb, cond-true, cond-false, false_from_ne_true}
use Rattle.std.proofs.lemmas.List.Sums.{sum_by-cons, sum_by-append}
use Rattle.index_laws.specs.Types.{TaskRow, PoolState, Entry}
use Rattle.swarm_model.specs.Numbers.{AreNumbered}
use Rattle.swarm_model.specs.Finding.{task_of}
use Rattle.swarm_model.specs.Effects.{no_of_task, task_after, added_tasks, after}
use Rattle.swarm_model.specs.History.{MayFollow}
use Rattle.swarm_model.specs.Soundness.{IsSound}
use Rattle.pool_laws.proofs.Lists.{Among, here, later, Found, find_is, has_number, number_within}
use Rattle.pool_laws.proofs.EntryPreconditions.{finds}
use Rattle.pool_laws.proofs.Numbers.{task_no, tasks_numbered}
use Rattle.index_laws.specs.Touched.{touched_task}
use Rattle.index_laws.specs.StateCounts.{touched_row}
use Rattle.index_laws.specs.RowSums.{weight_of_row, SumsFollow}
use Rattle.index_laws.proofs.Untouched.{same_task, added_touched}

module _ {R : Type 0} (no : R → ℕ) (weight : R → ℕ) (n : ℕ) where
  -- what a row of another number adds
  abbrev other : R → ℕ
  other x = cond (no x == n) 0 (weight x)

  -- what the row of the number adds
  abbrev own : List R → ℕ
  own xs = option_map_or weight (find (has_number no n) xs) 0

  -- where no row has the number, all are others
  all_others : (xs : List R) → ((y : R) → Among y xs → (no y == n) ≡ false) → sum_by other xs ≡ sum_by weight xs
  all_others [] h = refl
  all_others (x ∷ xs) h =
      let left = sum_by-cons other x xs in
      let right = sum_by-cons weight x xs in
      let rest = all_others xs (λ y a. h y (later a)) in
      let first : other x ≡ weight x = cond-false (no x == n) 0 (weight x) (h x here) in
      omega (arith, left, right, rest, first)

  -- the others and the row of the number are all
  summed_apart : (k : ℕ) (xs : List R) → AreNumbered no k xs → sum_by weight xs ≡ sum_by other xs + own xs
  summed_apart k [] are = refl
  summed_apart k (x ∷ xs) are = by_number (no x == n) refl (summed_apart (k + 1) xs are.1)
    where
      left : sum_by other (x ∷ xs) ≡ other x + sum_by other xs
      left = sum_by-cons other x xs

      right : sum_by weight (x ∷ xs) ≡ weight x + sum_by weight xs
      right = sum_by-cons weight x xs

      past : (no x == n) ≡ true → (y : R) → Among y xs → (no y == n) ≡ false
      past t y a =
          (let low = (number_within no (k + 1) xs are.1 y a).0 in
          let is : no x ≡ k = are.0 in
          let at : no x ≡ n = eqb-true (no x) n t in
          false_from_ne_true (no y == n) (λ e. let same : no y ≡ n = eqb-true (no y) n e in omega (arith, low, is, at, same)))

      by_number : (c : Bool) → (no x == n) ≡ c → sum_by weight xs ≡ sum_by other xs + own xs → sum_by weight (x ∷ xs) ≡ sum_by other (x ∷ xs) + own (x ∷ xs)
      by_number true t rest_apart =
          (let rest = all_others xs (past t) in
          let first : other x ≡ 0 = cond-true (no x == n) 0 (weight x) t in
          let its : own (x ∷ xs) ≡ weight x = ap (λ (c : Bool). option_map_or weight (cond c (Some x) (find (has_number no n) xs)) 0) t in
          omega (arith, left, right, rest, first, its))
      by_number false t rest =
          (let first : other x ≡ weight x = cond-false (no x == n) 0 (weight x) t in
          let its : own (x ∷ xs) ≡ own xs = ap (λ (c : Bool). option_map_or weight (cond c (Some x) (find (has_number no n) xs)) 0) t in
          omega (arith, left, right, rest, first, its))

  module _ (f : R → R) where
    others_kept : (xs : List R) → ((x : R) → Among x xs → other (f x) ≡ other x) → sum_by other (map f xs) ≡ sum_by other xs
    others_kept [] h = refl
    others_kept (x ∷ xs) h =
        let left = sum_by-cons other (f x) (map f xs) in
        let right = sum_by-cons other x xs in
        let rest = others_kept xs (λ y a. h y (later a)) in
        let first : other (f x) ≡ other x = h x here in
        omega (arith, left, right, rest, first)

    no_others : (ys : List R) → ((y : R) → Among y ys → no y ≡ n) → sum_by other ys ≡ 0
    no_others [] h = refl
    no_others (y ∷ ys) h =
        let all = sum_by-cons other y ys in
        let rest = no_others ys (λ z a. h z (later a)) in
        let first : other y ≡ 0 = cond-true (no y == n) 0 (weight y) (eq-eqb (no y) n (h y here)) in
        omega (arith, all, rest, first)

    module _ (rows added : List R) (old : AreNumbered no 1 rows) (new : AreNumbered no 1 (map f rows ++ added)) (keeps : (x : R) → Among x rows → no (f x) ≡ no x)
        (same : (x : R) → Among x rows → (no x ≡ n → ⊥) → f x ≡ x) (its : (y : R) → Among y added → no y ≡ n) where
      other_same : (x : R) → Among x rows → other (f x) ≡ other x
      other_same x a = by_test (no x == n) refl
        where
          by_test : (c : Bool) → (no x == n) ≡ c → other (f x) ≡ other x
          by_test true t = cond-true (no (f x) == n) 0 (weight (f x)) (ap (λ (k : ℕ). k == n) (keeps x a) ∙ t) ∙ sym (cond-true (no x == n) 0 (weight x) t)
          by_test false t = ap other (same x a (λ e. let some : (no x == n) ≡ true = eq-eqb (no x) n e in cc (t, some)))

      -- the sum differs by what the row of the number adds
      sum_moves : sum_by weight (map f rows ++ added) + own rows ≡ sum_by weight rows + own (map f rows ++ added)
      sum_moves =
          let after_all = summed_apart 1 (map f rows ++ added) new in
          let before_all = summed_apart 1 rows old in
          let both = sum_by-append other (map f rows) added in
          let kept = others_kept rows other_same in
          let none = no_others added its in
          omega (arith, after_all, before_all, both, kept, none)

-- no row has the number 0
none_at_zero : {R : Type 0} (number : R → ℕ) (xs : List R) → AreNumbered number 1 xs → find (has_number number 0) xs ≡ None
none_at_zero {R = R} number xs are = by_found (find (has_number number 0) xs) refl
  where
    by_found : (r : Option R) → find (has_number number 0) xs ≡ r → r ≡ None
    by_found None g = refl
    by_found (Some x) g =
        (let f : Found (has_number number 0) xs x = find_is (has_number number 0) xs x g in
        let low = (number_within number 1 xs are x f.among).0 in let is : number x ≡ 0 = eqb-true (number x) 0 f.passes in absurd (omega (arith, low, is)))

module _ (s : PoolState) (e : Entry) (o : IsSound s) (follows : MayFollow s e) (weight : TaskRow → ℕ) where
  abbrev change : TaskRow → TaskRow
  change = task_after s e.moment e.kind

  -- what the row of a number adds before and after the entry
  moved_at : (n : ℕ) → ((x : TaskRow) → Among x s.tasks → (x.no ≡ n → ⊥) → change x ≡ x) → ((y : TaskRow) → Among y (added_tasks e.moment e.kind) → y.no ≡ n) →
      sum_by weight (after s e).tasks + weight_of_row weight (task_of s n) ≡ sum_by weight s.tasks + weight_of_row weight (task_of (after s e) n)
  moved_at n same its =
      sum_moves no_of_task weight n change s.tasks (added_tasks e.moment e.kind) o.tasks_numbered (tasks_numbered s e o follows) (task_no s e.moment e.kind o (finds s e follows)) same its

  sums : (touched : Option ℕ) → touched_task s e.kind ≡ touched →
      sum_by weight (after s e).tasks + weight_of_row weight (touched_row s touched) ≡ sum_by weight s.tasks + weight_of_row weight (touched_row (after s e) touched)
  sums (Some n) t =
      moved_at n (λ x a u. same_task s o e.moment e.kind (finds s e follows) x a (λ q. let is : Some n ≡ Some x.no = sym t ∙ q in u (cc (is))))
      (λ y a. let q : Some n ≡ Some y.no = sym t ∙ added_touched s e.moment e.kind y a in cc (q))
  sums None t =
      subst (λ (r : Option TaskRow). sum_by weight (after s e).tasks + weight_of_row weight None ≡ sum_by weight s.tasks + weight_of_row weight r) (none_at_zero no_of_task (after s e).tasks (tasks_numbered s e o follows))
      (subst (λ (r : Option TaskRow). sum_by weight (after s e).tasks + weight_of_row weight r ≡ sum_by weight s.tasks + weight_of_row weight (task_of (after s e) 0)) (none_at_zero no_of_task s.tasks o.tasks_numbered)
      (moved_at 0 (λ x a u. same_task s o e.moment e.kind (finds s e follows) x a (λ q. let is : None ≡ Some x.no = sym t ∙ q in cc (is)))
      (λ y a. absurd (let q : None ≡ Some y.no = sym t ∙ added_touched s e.moment e.kind y a in cc (q)))))

pub sums_follow : SumsFollow
sums_follow s e o follows weight = sums s e o follows weight (touched_task s e.kind) refl

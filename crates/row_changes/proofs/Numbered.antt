-- Rows that have the numbers 1, 2 and so on, found and changed at their places.
use Rattle.std.proofs.Common.{◌≡◌, ℕ, ◌+◌, ◌<◌, ◌≤◌, List, [], ◌∷◌, ◌++◌, map, length, get_or, set, arith, zero, suc, ◌∙◌, refl, Bool, true, false, subst}
use Rattle.std.specs.Prelude.{◌==◌, if◌then◌else◌, Some, None, Option, slice_get, IfSome}
use Rattle.std.proofs.lemmas.Grind.{common_steps}
use Rattle.std.proofs.lemmas.List.{get_or_default}
use Rattle.std.proofs.lemmas.Option.{slice_get_read, slice_get_past}
use Rattle.swarm_model.specs.Numbers.{AreNumbered, change_at}
use Rattle.swarm_model.proofs.Numbers.{number_at}
use Rattle.row_changes.specs.Rows.{row_of, StandsAt, HoldsAt}
use Rattle.row_changes.proofs.Changed.{at_place}

module _ {R : Type 0} (number_of : R → ℕ) where
  pub find_before : (n number : ℕ) (rows : List R) → AreNumbered number_of n rows → number < n → row_of number_of number rows ≡ None
  find_before n number [] counts below = refl
  find_before n number (row ∷ rows) counts below =
      let h : number_of row ≡ n = counts.0 in
      let t = find_before (n + 1) number rows counts.1 (omega arith) in grind (arith, common_steps)

  find_at : (n place : ℕ) (rows : List R) → AreNumbered number_of n rows → row_of number_of (n + place) rows ≡ slice_get rows place
  find_at n place [] counts = grind (arith, common_steps)
  find_at n zero (row ∷ rows) counts = let h : number_of row ≡ n = counts.0 in grind (arith, common_steps)
  find_at n (suc place) (row ∷ rows) counts =
      let h : number_of row ≡ n = counts.0 in
      let t = find_at (n + 1) place rows counts.1 in grind (arith, common_steps)

  pub none_at_zero : (rows : List R) → AreNumbered number_of 1 rows → row_of number_of 0 rows ≡ None
  none_at_zero rows numbered = find_before 1 0 rows numbered (omega arith)

  row_at : (rows : List R) (number place : ℕ) → AreNumbered number_of 1 rows → number ≡ place + 1 → row_of number_of number rows ≡ slice_get rows place
  row_at rows number place numbered is =
      let e : 1 + place ≡ number = omega (arith, is) in
      subst (λ (k : ℕ). row_of number_of k rows ≡ slice_get rows place) e (find_at 1 place rows numbered)

  pub none_past : (rows : List R) (number place : ℕ) → AreNumbered number_of 1 rows → number ≡ place + 1 → length rows ≤ place → row_of number_of number rows ≡ None
  none_past rows number place numbered is past = row_at rows number place numbered is ∙ slice_get_past rows place past

  -- the row of a number is the one at its place
  pub found : (rows : List R) (number place : ℕ) (row : R) → AreNumbered number_of 1 rows → StandsAt rows number place → row ≡ get_or rows place row → row_of number_of number rows ≡ Some row
  found rows number place row numbered stands is =
      row_at rows number place numbered stands.number_is ∙ slice_get_read rows (length rows) place row refl stands.within is

  -- a change at the number is a change at the place
  pub changed : (rows : List R) (number place : ℕ) (change : R → R) (row : R) → AreNumbered number_of 1 rows → StandsAt rows number place → row ≡ get_or rows place row →
      map (change_at number_of number change) rows ≡ set rows place (change row)
  changed rows number place change row numbered stands is =
      let e : number ≡ 1 + place = omega (arith, stands.number_is) in
      at_place number_of change number 1 place rows row e stands.within numbered is

  -- where there is no row of the number, a change at it changes none
  pub changed_none : (rows : List R) (number : ℕ) (change : R → R) → row_of number_of number rows ≡ None → map (change_at number_of number change) rows ≡ rows
  changed_none [] number change none = refl
  changed_none (row ∷ rows) number change none = by_test (number_of row == number) none (changed_none rows number change)
    where
      by_test : (same : Bool) → (if same then Some row else row_of number_of number rows) ≡ None →
          (row_of number_of number rows ≡ None → map (change_at number_of number change) rows ≡ rows) →
          ((if same then change row else row) ∷ map (change_at number_of number change) rows) ≡ (row ∷ rows)
      by_test true h rest = absurd (cc (h))
      by_test false h rest = let e = rest h in cc

  -- what holds of the row that is found holds of each row of the number
  pub holds_at : (P : R → Type 0) (rows : List R) (number : ℕ) → AreNumbered number_of 1 rows → IfSome (row_of number_of number rows) P → HoldsAt number_of number P rows
  holds_at P rows number numbered holds = λ k d low is.
      let row = get_or rows k d in
      let stands : StandsAt rows number k = record { within = low; number_is = omega (arith, number_at number_of 1 k rows d numbered low, is) } in
      let here = found rows number k row numbered stands (get_or_default rows k d row low) in
      subst (λ (o : Option R). IfSome o P) here holds

  kept_number : (number : ℕ) (change : R → R) (row : R) → number_of (change row) ≡ number_of row → number_of (change_at number_of number change row) ≡ number_of row
  kept_number number change row keeps = by_test (number_of row == number)
    where
      by_test : (same : Bool) → number_of (if same then change row else row) ≡ number_of row
      by_test true = keeps
      by_test false = refl

  -- a change of all rows that leaves their numbers
  pub numbered-map : (f : R → R) → ((row : R) → number_of (f row) ≡ number_of row) → (n : ℕ) (rows : List R) → AreNumbered number_of n rows → AreNumbered number_of n (map f rows)
  numbered-map f keeps n [] counts = tt
  numbered-map f keeps n (row ∷ rows) counts = (keeps row ∙ counts.0, numbered-map f keeps (n + 1) rows counts.1)

  -- the numbers stay
  pub still_numbered : (number : ℕ) (change : R → R) (rows : List R) → ((row : R) → number_of (change row) ≡ number_of row) → AreNumbered number_of 1 rows →
      AreNumbered number_of 1 (map (change_at number_of number change) rows)
  still_numbered number change rows keeps numbered =
      numbered-map (change_at number_of number change) (λ row. kept_number number change row (keeps row)) 1 rows numbered

  pub numbered-push : (n : ℕ) (rows : List R) (row : R) → AreNumbered number_of n rows → number_of row ≡ n + length rows → AreNumbered number_of n (rows ++ row ∷ [])
  numbered-push n [] row counts is = (omega (arith, is), tt)
  numbered-push n (first ∷ rows) row counts is = (counts.0, numbered-push (n + 1) rows row counts.1 (omega (arith, is)))

  -- a row more has the next number
  pub pushed_numbered : (rows : List R) (row : R) → AreNumbered number_of 1 rows → number_of row ≡ length rows + 1 → AreNumbered number_of 1 (rows ++ row ∷ [])
  pushed_numbered rows row numbered is = numbered-push 1 rows row numbered (omega (arith, is))

-- Tasks that are numbered by their places.
use Rattle.std.proofs.Common.{◌≡◌, ℕ, zero, suc, ◌+◌, ◌<◌, ◌==◌, Bool, true, false, cond, List, [], ◌∷◌, find, length, Some, None, slice_get, refl, ap, ◌∙◌, arith}
use Rattle.std.proofs.lemmas.Option.{slice_get-get_or}
use Rattle.std.proofs.lemmas.Bool.Decides.{nat_tests}
use Rattle.swarm_model.specs.declared.task_row.TaskRow.{TaskRow}
use Rattle.swarm_model.specs.Numbers.{AreNumbered}
use Rattle.swarm_model.specs.Effects.{no_of_task}
use Rattle.swarm_model.specs.Finding.{is_task}

-- the task of a number stands at its place
pub find_at : (n : ℕ) (rows : List TaskRow) (place : ℕ) → AreNumbered no_of_task n rows → find (is_task (place + n)) rows ≡ slice_get rows place
find_at n [] place numbered = refl
find_at n (x ∷ rows) zero numbered = ap (λ (k : ℕ). find (is_task k) (x ∷ rows)) zero_more ∙ by_test (x.no == n) (grind (arith, nat_tests, numbered.0))
  where
    zero_more : 0 + n ≡ n
    zero_more = omega arith

    by_test : (t : Bool) → t ≡ true → cond t (Some x) (find (is_task n) rows) ≡ Some x
    by_test t e = rw e refl
find_at n (x ∷ rows) (suc place) numbered = by_test (x.no == suc place + n) (grind (arith, nat_tests, numbered.0)) (find_at (n + 1) rows place numbered.1)
  where
    by_test : (t : Bool) → t ≡ false → find (is_task (place + (n + 1))) rows ≡ slice_get rows place → cond t (Some x) (find (is_task (suc place + n)) rows) ≡ slice_get rows place
    by_test t e rest = rw e (ap (λ (k : ℕ). find (is_task k) rows) (omega arith) ∙ rest)

-- there is one at each place
pub some_at : (rows : List TaskRow) (place : ℕ) → place < length rows → slice_get rows place ≡ None → ⊥
some_at [] place low none = absurd (omega (arith, low))
some_at (x ∷ rows) place low none = let some = slice_get-get_or (x ∷ rows) place x low in absurd (cc (some, none))

pub find_number : (rows : List TaskRow) (number place : ℕ) → AreNumbered no_of_task 1 rows → number ≡ place + 1 → find (is_task number) rows ≡ slice_get rows place
find_number rows number place numbered is = ap (λ (n : ℕ). find (is_task n) rows) is ∙ find_at 1 rows place numbered

-- Of tasks that are numbered by their places, those below a number are the first ones.
use Rattle.std.proofs.Common.{◌≡◌, ℕ, suc, ◌+◌, ◌-◌, Bool, true, false, List, [], ◌∷◌, take, filter, Option, Some, refl, arith, rules, nat_lt}
use Rattle.std.proofs.Math.Seq.{take-nil}
use Rattle.std.proofs.lemmas.Bool.Decides.{nat_tests}
use Rattle.swarm_model.specs.declared.task_state.TaskState.{TaskState}
use Rattle.swarm_model.specs.declared.task_row.TaskRow.{TaskRow}
use Rattle.swarm_model.specs.Numbers.{AreNumbered}
use Rattle.swarm_model.specs.Effects.{no_of_task}
use Rattle.swarm_model.specs.Finding.{is_wanted}
use Rattle.swarm_model.specs.Pages.{is_listed}

take_one : (k m : ℕ) (t : TaskRow) (ts : List TaskRow) → k ≡ suc m → take k (t ∷ ts) ≡ t ∷ take m ts
take_one k m t ts e = rw e

take_none : (k : ℕ) (ts : List TaskRow) → k ≡ 0 → take k ts ≡ []
take_none k ts e = rw e

below_step : (b : Bool) (wanted : Option TaskState) (below n : ℕ) (t : TaskRow) (ts : List TaskRow) → nat_lt n below ≡ b → t.no ≡ n →
    filter (is_listed wanted (Some below)) ts ≡ filter (is_wanted wanted) (take (below - (n + 1)) ts) →
    filter (is_listed wanted (Some below)) (t ∷ ts) ≡ filter (is_wanted wanted) (take (below - n) (t ∷ ts))
below_step true wanted below n t ts e same ih =
    let more : below - n ≡ suc (below - (n + 1)) = grind (arith, nat_tests, e) in
    let first = take_one (below - n) (below - (n + 1)) t ts more in
    rw first (grind (rules, ih, same, e))
below_step false wanted below n t ts e same ih =
    let none = take_none (below - n) (t ∷ ts) (grind (arith, nat_tests, e)) in
    let none_left = take_none (below - (n + 1)) ts (grind (arith, nat_tests, e)) in
    rw none (grind (rules, ih, same, e, none_left))

pub filter-is_listed : (wanted : Option TaskState) (below n : ℕ) (ts : List TaskRow) → AreNumbered no_of_task n ts →
    filter (is_listed wanted (Some below)) ts ≡ filter (is_wanted wanted) (take (below - n) ts)
filter-is_listed wanted below n [] numbered = rw (take-nil {A = TaskRow} (below - n))
filter-is_listed wanted below n (t ∷ ts) numbered =
    below_step (nat_lt n below) wanted below n t ts refl numbered.0 (filter-is_listed wanted below (n + 1) ts numbered.1)

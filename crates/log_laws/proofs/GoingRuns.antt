-- A run that is named by its task and its try, and goes on.
use Rattle.std.proofs.Common.{◌≡◌, ◌⊎◌, inl, inr, ℕ, ◌==◌, ◌||◌, Bool, true, false, Option, Some, ap, sym, ◌∙◌, subst, eqb-true}
use Rattle.log_laws.specs.Types.{Attempt, TaskRow, PoolState}
use Rattle.swarm_model.specs.Answers.{named_task, has_try}
use Rattle.swarm_model.specs.Finding.{is_final}
use Rattle.pool_laws.proofs.EntryPreconditions.{IsNamed, IsLost, IsWhole, named_is}

-- the row that is shown is the task's own, since a run that was lost is over
pub going_row : (s : PoolState) (number try_no : ℕ) (row : TaskRow) → named_task s number try_no ≡ Some row → is_final row.state ≡ false → IsWhole s number row
going_row s number try_no row e going = by_shown (named_is s number try_no row e).shows
  where
    f : IsNamed s number try_no row
    f = named_is s number try_no row e

    by_shown : (f.task ≡ row) ⊎ IsLost f.task row → IsWhole s number row
    by_shown (inl same) = subst (IsWhole s number) same (record { there = f.there; among = f.among; named = f.named })
    by_shown (inr lost) = absurd (let over : is_final row.state ≡ true = ap (λ (x : TaskRow). is_final x.state) (sym lost.shows) in cc (over, going))

-- and its run has the try that is named
pub going_try : (s : PoolState) (number try_no : ℕ) (row : TaskRow) (run : Attempt) → named_task s number try_no ≡ Some row → (try_no == 0) ≡ false → row.attempt ≡ Some run → run.try_no ≡ try_no
going_try s number try_no row run e no_zero attempted =
    let has = (named_is s number try_no row e).has in
    let named : has_try try_no (Some run) ≡ true = sym (ap (λ (b : Bool). b || has_try try_no (Some run)) no_zero) ∙ ap (λ (o : Option Attempt). try_no == 0 || has_try try_no o) (sym attempted) ∙ has in
    eqb-true run.try_no try_no named

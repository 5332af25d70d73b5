-- Changes that leave a row's number.
use Rattle.std.proofs.Common.{ℕ, refl}
use Rattle.swarm_model.specs.declared.entry.Outcome.{Outcome}
use Rattle.swarm_model.specs.declared.entry.Outcome.TheVariants as outcome
use Rattle.swarm_model.specs.Effects.{expired_slice}
use Rattle.task_rows.specs.Inside.{KeepsNumber}

pub expired_slice_keeps : (moment : ℕ) (to : Outcome) → KeepsNumber (expired_slice moment to)
expired_slice_keeps moment (outcome.Slice place) task = refl
expired_slice_keeps moment (outcome.Ended state) task = refl

-- Each entry is looked up.
use Rattle.std.proofs.Common.{refl}
use Rattle.pool_laws.proofs.WorkedBase.{task_moves}
use Rattle.pool_laws.proofs.from_bases.a_base_is_told.Goals as goal

pub returns : goal.returns
returns c = record { happens = task_moves; told = refl; running = refl }

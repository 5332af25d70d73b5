-- Each entry is looked up.
use Rattle.std.proofs.Common.{refl}
use Rattle.pool_laws.proofs.Worked.{runs_end}
use Rattle.pool_laws.proofs.laws.a_run_ends.Goals as goal

pub returns : goal.returns
returns c = record { happens = runs_end; killed = refl; canceled = refl }

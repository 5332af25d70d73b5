-- Each entry is looked up.
use Rattle.std.proofs.Common.{refl}
use Rattle.pool_laws.proofs.Worked.{run_is_retried}
use Rattle.pool_laws.proofs.laws.a_run_is_retried.Goals as goal

pub returns : goal.returns
returns c = record { happens = run_is_retried; claimants = refl; completed = refl }

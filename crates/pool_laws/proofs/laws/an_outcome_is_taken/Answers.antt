-- Each entry is looked up.
use Rattle.std.proofs.Common.{refl}
use Rattle.pool_laws.proofs.Worked.{outcome_is_taken}
use Rattle.pool_laws.proofs.laws.an_outcome_is_taken.Goals as goal

pub returns : goal.returns
returns c = record { happens = outcome_is_taken; completed = refl }

-- Each entry is looked up.
use Rattle.std.proofs.Common.{refl}
use Rattle.pool_laws.proofs.Worked.{output_is_reported}
use Rattle.pool_laws.proofs.laws.an_output_is_reported.Goals as goal

pub returns : goal.returns
returns c = record { happens = output_is_reported; again = refl; length = refl }

-- No entry adds more to the rows than it weighs.
use Rattle.std.proofs.Common.{refl}
use Rattle.pool_laws.proofs.Weights.{weight_after, weight_bounded}
use Rattle.pool_laws.proofs.bases.weight_is_bounded.Goals as goal

pub returns : goal.returns
returns c = record { opening = λ settings. refl; entry = weight_after; log = weight_bounded }

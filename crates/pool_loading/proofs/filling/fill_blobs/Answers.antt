-- All places that a pool may have were gone through.
use Rattle.std.proofs.Common.{arith}
use Rattle.std.proofs.lemmas.Grind.{common_steps}
use Rattle.std.proofs.lemmas.Option.{slice_get-get_or}
use Rattle.pool_loading.proofs.filling.fill_blobs.Goals as goal

pub returns-clause-held : goal.returns-clause-held
returns-clause-held g c = λ k d inside.
    c.loop-at.invariant.filled.rows k _ (grind (arith, common_steps)) (slice_get-get_or _ k d inside)

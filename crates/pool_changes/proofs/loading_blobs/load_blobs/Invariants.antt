use Rattle.pool_changes.specs.Loads.{AreLoaded}
use Rattle.pool_changes.proofs.loading_blobs.load_blobs.Given as goal

abbrev pub invariant-loop-place : goal.invariant-loop-place
invariant-loop-place l = AreLoaded l.base l.place l.blobs

-- The machine stays one of the only pool, with all of its blobs.
use Rattle.std.proofs.Common.{◌≡◌, [], ◌∷◌}
use Rattle.pool_loading.specs.Records.{AreFilled}
use Rattle.test_rows.proofs.batches.playing.play_over.Given as goal

abbrev pub invariant-loop-row : goal.invariant-loop-row
invariant-loop-row g l = record {
  one : l.settings.pools ≡ (g.M.Machine.kept l.machine).pool.settings ∷ [];
  filled : AreFilled (g.M.Machine.kept l.machine);
}

use Rattle.std.proofs.Common.{◌≡◌, length}
use Rattle.run_folders.proofs.kept_caches.KeptCaches.sizes.Given as goal

abbrev pub invariant-loop-cache : goal.invariant-loop-cache
invariant-loop-cache g l = length l.sizes ≡ l.cache-index

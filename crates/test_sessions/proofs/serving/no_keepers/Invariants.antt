use Rattle.std.proofs.Common.{◌≡◌, length}
use Rattle.test_sessions.proofs.serving.no_keepers.Given as goal

abbrev pub invariant-loop-pool : goal.invariant-loop-pool
invariant-loop-pool l = length l.keepers.items ≡ l._pool-index

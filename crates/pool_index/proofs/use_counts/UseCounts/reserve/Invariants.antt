use Rattle.std.proofs.Common.{ℕ, ◌<◌, get_or, []}
use Rattle.pool_index.specs.Uses.{IsListed, SameUses, StaysListed}
use Rattle.pool_index.proofs.use_counts.UseCounts.reserve.Given as goal

abbrev pub invariant-loop-digest : goal.invariant-loop-digest
invariant-loop-digest l = record {
  same : SameUses l.fn.self l.self;
  kept : StaysListed l.fn.self l.self;
  listed : (k : ℕ) → k < l.digest-index → IsListed l.self (get_or l.digests k []);
}

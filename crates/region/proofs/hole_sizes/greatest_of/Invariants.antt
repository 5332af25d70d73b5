use Rattle.std.proofs.Common.{ℕ, ◌≡◌, ◌≤◌, ◌<◌, ◌⊎◌, get_or}
use Rattle.region.proofs.hole_sizes.greatest_of.Given as goal

abbrev pub invariant-loop-size : goal.invariant-loop-size
invariant-loop-size l = record {
  bound : (k : ℕ) → k < l.size-index → get_or l.sizes k 0 ≤ l.greatest;
  reached : (l.greatest ≡ 0) ⊎ ((k : ℕ) × (k < l.size-index) × (get_or l.sizes k 0 ≡ l.greatest));
}

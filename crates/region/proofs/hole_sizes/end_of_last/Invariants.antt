use Rattle.std.proofs.Common.{ℕ, ◌≡◌, ◌≤◌, ◌<◌, get_or}
use Rattle.region.proofs.hole_sizes.end_of_last.Given as goal

abbrev pub invariant-loop-at : goal.invariant-loop-at
invariant-loop-at l = record {
  from : l.from ≤ l.at;
  inside : l.at ≤ l.to;
  passed : (k : ℕ) → l.at ≤ k → k < l.to → get_or l.numbers k 0 ≡ 0;
}

abbrev pub decreases-loop-at : goal.decreases-loop-at
decreases-loop-at l = l.at

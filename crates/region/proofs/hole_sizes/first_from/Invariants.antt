use Rattle.std.proofs.Common.{ℕ, length, ◌-◌, ◌≤◌, ◌<◌, get_or}
use Rattle.region.proofs.hole_sizes.first_from.Given as goal

abbrev pub invariant-loop-at : goal.invariant-loop-at
invariant-loop-at l = record {
  from : l.from ≤ l.at;
  inside : l.at ≤ length l.numbers;
  passed : (k : ℕ) → l.from ≤ k → k < l.at → get_or l.numbers k 0 < l.least;
}

abbrev pub decreases-loop-at : goal.decreases-loop-at
decreases-loop-at l = length l.numbers - l.at

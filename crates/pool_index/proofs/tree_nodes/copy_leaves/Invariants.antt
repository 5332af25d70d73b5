use Rattle.std.proofs.Common.{◌≡◌, ℕ, ◌<◌, ◌≤◌, drop, None}
use Rattle.pool_index.specs.Deadlines.{deadline_at}
use Rattle.pool_index.specs.TreeNodes.{IsTreeExcept}
use Rattle.pool_index.proofs.tree_nodes.copy_leaves.Given as goal

abbrev pub invariant-loop-at : goal.invariant-loop-at
invariant-loop-at l = record {
  tree : IsTreeExcept 0 l.width l.nodes;
  done : (k : ℕ) → k < l.at → deadline_at l.leaves k ≡ deadline_at (drop l.width l.nodes) k;
  empty : (k : ℕ) → l.at ≤ k → deadline_at (drop l.width l.nodes) k ≡ None;
}

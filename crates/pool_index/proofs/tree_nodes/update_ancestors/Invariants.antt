use Rattle.std.proofs.Common.{◌≡◌, ◌*◌, ◌/◌, ◌<◌, drop}
use Rattle.pool_index.specs.TreeNodes.{IsTreeExcept}
use Rattle.pool_index.proofs.tree_nodes.update_ancestors.Given as goal

abbrev pub invariant-loop-at : goal.invariant-loop-at
invariant-loop-at l = record {
  inside : l.at < 2 * l.width;
  tree : IsTreeExcept (l.at / 2) l.width l.nodes;
  leaves : drop l.width l.nodes ≡ drop l.width l.fn.nodes;
}

abbrev pub decreases-loop-at : goal.decreases-loop-at
decreases-loop-at l = l.at

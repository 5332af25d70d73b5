-- What a deadline tree keeps: its leaves are the upper half of its nodes.
use Rattle.std.specs.Prelude.{◌≡◌, ◌*◌, List, Option, drop, vec_len}
use Rattle.swarm_model.specs.declared.deadline.Deadline.{Deadline}
use Rattle.pool_index.specs.declared.deadline_tree.DeadlineTree.TheInside.{Inside}
use Rattle.pool_index.specs.TreeNodes.{IsTreeExcept}

-- the deadlines at all places
abbrev pub leaves_of : Inside → List (Option Deadline)
leaves_of tree = drop tree.width tree.nodes.items

-- as many leaves as inner nodes (the first node of the array is not used), each inner node right
pub record IsTree (tree : Inside) : Type 0 where
  pub size : vec_len tree.nodes ≡ 2 * tree.width
  pub nodes_of : IsTreeExcept 0 tree.width tree.nodes.items

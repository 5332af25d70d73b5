use Rattle.std.proofs.Common.{◌∙◌}
use Rattle.std.proofs.lemmas.List.{drop-set-add}
use Rattle.pool_index.proofs.tree_nodes.set_leaf.Goals as goal

pub returns-clause-leaves : goal.returns-clause-leaves
returns-clause-leaves c = c.update_ancestors.ensures.leaves ∙ drop-set-add c.args.width c.args.nodes.now c.args.at c.args.end

use Rattle.std.proofs.Common.{◌/◌, subst, sym, ◌∙◌, set, Option, arith}
use Rattle.std.proofs.lemmas.List.{drop-set-lt}
use Rattle.swarm_model.specs.declared.deadline.Deadline.{Deadline}
use Rattle.pool_index.specs.TreeNodes.{IsTreeExcept}
use Rattle.pool_index.proofs.TreeRoot.{updated}
use Rattle.pool_index.proofs.tree_nodes.update_ancestors.Goals as goal

pub loop-at-preserved : goal.loop-at-preserved
loop-at-preserved c =
    let at = c.loop-at.at / 2 in
    record {
      inside = omega arith;
      tree =
          subst (λ (x : Option Deadline). IsTreeExcept (at / 2) c.args.width (set c.loop-at.nodes at x)) (sym c.sooner_of.ensures)
          (updated c.loop-at.nodes c.args.width at (omega arith) (omega arith) (omega arith) c.loop-at.invariant.tree);
      leaves = drop-set-lt c.args.width c.loop-at.nodes at c.sooner_of.result (omega arith) ∙ c.loop-at.invariant.leaves;
    }

use Rattle.std.proofs.Common.{◌≡◌, ◌*◌, List, length, drop, subst, sym, arith, Option, None}
use Rattle.std.proofs.lemmas.List.{get_or_read}
use Rattle.swarm_model.specs.declared.deadline.Deadline.{Deadline}
use Rattle.pool_index.specs.Deadlines.{IsFirstOf}
use Rattle.pool_index.proofs.TreeRoot.{first_is}
use Rattle.pool_index.proofs.Earliest.{fold_first}
use Rattle.pool_index.proofs.deadline_tree.DeadlineTree.first.Goals as goal

pub returns-else-self-eq0-clause-first : goal.returns-else-self-eq0-clause-first
returns-else-self-eq0-clause-first c =
    let tree = c.self.inside in
    let size : length tree.nodes.items ≡ 2 * tree.width = omega (arith, tree.nodes.ok.0, c.self.invariant.size) in
    let root = first_is tree.nodes.items tree.width c.self.invariant.nodes_of size (omega arith) in
    subst (λ (e : List (Option Deadline)). IsFirstOf e c.index.result.now) c.self.view_is
    (subst (λ (r : Option Deadline). IsFirstOf (drop tree.width tree.nodes.items) r) (sym (get_or_read tree.nodes.items 1 c.index.result.now (omega arith) c.index.ensures None)) root)

pub returns-else-self-eq0-clause-fold : goal.returns-else-self-eq0-clause-fold
returns-else-self-eq0-clause-fold c = sym (fold_first c.args.self.now c.index.result.now (returns-else-self-eq0-clause-first c))

use Rattle.std.proofs.Common.{rules, sym, subst}
use Rattle.std.specs.Prelude.{MatchBool, not}
use Rattle.std.specs.List.{Contains}
use Rattle.block_list.proofs.Rising.{not_found, found}
use Rattle.swarm_model.specs.Deadlines.{is_earlier}
use Rattle.pool_index.proofs.DeadlineOrder.{strict}
use Rattle.pool_index.proofs.deadline_queue.contains.Goals as goal

pub returns-in-None : goal.returns-in-None
returns-in-None c =
    not_found is_earlier strict c.args.deadlines.now.items c.requires c.args.deadline (λ a r f called. (search rules, search rules)) _ c.at_partition.ensures (search rules)

pub returns-in-Some : goal.returns-in-Some
returns-in-Some c =
    subst (λ b. MatchBool (not b) (Contains c.args.deadlines.now.items c.args.deadline) (Contains c.args.deadlines.now.items c.args.deadline → ⊥)) (sym c.is_earlier.ensures)
    (found is_earlier strict c.args.deadlines.now.items c.requires c.args.deadline (λ a r f called. (search rules, search rules)) _ c.at_partition.ensures _ (search rules))

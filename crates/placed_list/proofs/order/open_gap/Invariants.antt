use Rattle.std.proofs.Common.{◌-◌, ◌+◌, ◌/◌, ◌≤◌}
use Rattle.placed_list.specs.declared.order.TheConstants.{BLOCK}
use Rattle.placed_list.proofs.Gaps.{Gapped}
use Rattle.placed_list.proofs.order.open_gap.Given as goal

abbrev pub invariant-loop-at : goal.invariant-loop-at
invariant-loop-at l = (l.gap ≤ l.at) × (l.at ≤ l.len / BLOCK) × Gapped (l.len + 1) l.at l.initial.blocks.items l.blocks.items

abbrev pub decreases-loop-at : goal.decreases-loop-at
decreases-loop-at l = l.at - l.gap

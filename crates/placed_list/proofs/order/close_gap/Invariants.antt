use Rattle.std.proofs.Common.{◌+◌}
use Rattle.placed_list.proofs.Gaps.{Gapped}
use Rattle.placed_list.proofs.order.close_gap.Given as goal

abbrev pub invariant-loop-at : goal.invariant-loop-at
invariant-loop-at l = Gapped (l.len + 1) l.at l.initial.blocks.items l.blocks.items

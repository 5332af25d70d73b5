use Rattle.std.proofs.Common.{◌≡◌, ◌≤◌, [], length}
use Rattle.std.specs.List.{All}
use Rattle.placed_list.specs.Blocks.{HaveRoom}
use Rattle.placed_list.proofs.order.empty_blocks.Given as goal

abbrev pub invariant-loop : goal.invariant-loop
invariant-loop l = (length l.blocks.items ≡ l.counter) × (l.count ≤ l.blocks.cap) × All (λ block. block.items ≡ []) l.blocks.items × HaveRoom l.blocks.items

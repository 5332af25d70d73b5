-- All blocks are empty.
use Rattle.std.proofs.Common.{sym, ap, length, List, ℕ, arith}
use Rattle.placed_list.proofs.Gaps.{none_filled, no_places}
use Rattle.placed_list.proofs.order.Order.with_capacity.Goals as goal

pub invariant_of-result : goal.invariant_of-result
invariant_of-result c =
    let blocks = c.in_ok-empty_blocks.field-0.items in
    record {
      count = sym (ap (λ (l : List ℕ). length l) (no_places blocks c.in_ok-empty_blocks.ensures.empty));
      filled = none_filled blocks c.in_ok-empty_blocks.ensures.empty;
      room = c.in_ok-empty_blocks.ensures.room;
      few = omega (arith, c.in_ok-empty_blocks.ensures.count, c.div_ceil.ensures);
    }

pub returns-clause-items : goal.returns-clause-items
returns-clause-items c = no_places c.in_ok-empty_blocks.field-0.items c.in_ok-empty_blocks.ensures.empty

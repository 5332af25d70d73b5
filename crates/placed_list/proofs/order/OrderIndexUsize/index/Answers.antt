-- The blocks before that of an index are full.
use Rattle.std.proofs.Common.{◌<◌, ◌%◌, ◌∙◌, ap, length, get_or, arith}
use Rattle.std.specs.VecDeque.{deque_len}
use Rattle.placed_list.specs.declared.order.TheConstants.{BLOCK}
use Rattle.placed_list.specs.Blocks.{Block}
use Rattle.placed_list.specs.Plain.{OrderState}
use Rattle.placed_list.proofs.BlockEdits.{block_within, offset_within, place_at}
use Rattle.placed_list.proofs.order.OrderIndexUsize.index.Goals as goal

pub index-requires : goal.index-requires
index-requires c =
    let order = c.self.inside in
    let under : c.args.index < order.len = omega (arith, c.requires, c.self.invariant.count, ap (λ (s : OrderState). length s.items) c.self.view_is) in
    omega (arith, block_within order.len c.args.index order.blocks.items c.self.invariant.filled under)

pub index-requires-2 : goal.index-requires-2
index-requires-2 c =
    let order = c.self.inside in
    let under : c.args.index < order.len = omega (arith, c.requires, c.self.invariant.count, ap (λ (s : OrderState). length s.items) c.self.view_is) in
    omega (arith, offset_within order.len c.args.index order.blocks.items c.self.invariant.filled under c.index.result.now, ap deque_len c.index.ensures)

pub returns : goal.returns
returns c =
    let order = c.self.inside in
    let index = c.args.index in
    let block = c.index.result.now in
    let place = c.index-2.result.now in
    let under : index < order.len = omega (arith, c.requires, c.self.invariant.count, ap (λ (s : OrderState). length s.items) c.self.view_is) in
    c.index-2.ensures ∙ ap (λ (b : Block). get_or b.items (index % BLOCK) place) c.index.ensures
    ∙ place_at order.len index order.blocks.items c.self.invariant.filled under block place
    ∙ ap (λ (s : OrderState). get_or s.items index place) c.self.view_is

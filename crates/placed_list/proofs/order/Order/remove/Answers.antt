-- The place leaves a gap in its block.
use Rattle.std.proofs.Common.{◌≡◌, ◌<◌, ◌+◌, ◌-◌, ◌/◌, ◌%◌, ◌∙◌, ℕ, List, sym, ap, subst, length, get_or, set, arith}
use Rattle.std.specs.List.{remove}
use Rattle.std.specs.VecDeque.{deque_len}
use Rattle.std.proofs.lemmas.List.{length-set}
use Rattle.std.proofs.lemmas.List.Edits.{length-remove}
use Rattle.placed_list.specs.declared.order.TheConstants.{BLOCK}
use Rattle.placed_list.specs.Blocks.{Block, places_in, HaveGap}
use Rattle.placed_list.specs.Plain.{OrderState}
use Rattle.placed_list.proofs.Gaps.{size_at, gap-set}
use Rattle.placed_list.proofs.BlockEdits.{block_within, offset_within, place_at, places-remove}
use Rattle.placed_list.proofs.order.Order.remove.Goals as goal

pub index_mut-requires : goal.index_mut-requires
index_mut-requires c =
    let order = c.self.inside in
    let under : c.args.index < order.len = omega (arith, c.requires, c.self.invariant.count, ap (λ (s : OrderState). length s.items) c.self.view_is) in
    omega (arith, block_within order.len c.args.index order.blocks.items c.self.invariant.filled under)

pub take_out-place-requires : goal.take_out-place-requires
take_out-place-requires c =
    let order = c.self.inside in
    let under : c.args.index < order.len = omega (arith, c.requires, c.self.invariant.count, ap (λ (s : OrderState). length s.items) c.self.view_is) in
    omega (arith, offset_within order.len c.args.index order.blocks.items c.self.invariant.filled under c.index_mut.result.now, ap deque_len c.index_mut.ensures.value)

pub close_gap-requires-clause-gap : goal.close_gap-requires-clause-gap
close_gap-requires-clause-gap c =
    let order = c.self.inside in
    let at = c.args.index / BLOCK in
    let blocks = order.blocks.items in
    let was = c.index_mut.result.now in
    let block = c.take_out-place.new.block in
    let under : c.args.index < order.len = omega (arith, c.requires, c.self.invariant.count, ap (λ (s : OrderState). length s.items) c.self.view_is) in
    let low = block_within order.len c.args.index blocks c.self.invariant.filled under in
    let all : order.len - 1 + 1 ≡ order.len = omega (arith, under) in
    subst (λ (n : ℕ). HaveGap n at (set blocks at block)) (sym all)
    (gap-set order.len at blocks block low (omega (arith, c.take_out-place.ensures.len, size_at blocks at was low, ap deque_len c.index_mut.ensures.value)) c.self.invariant.filled)

pub close_gap-requires-clause-enough : goal.close_gap-requires-clause-enough
close_gap-requires-clause-enough c =
    let order = c.self.inside in
    let blocks = order.blocks.items in
    let under : c.args.index < order.len = omega (arith, c.requires, c.self.invariant.count, ap (λ (s : OrderState). length s.items) c.self.view_is) in
    let last : order.len - 1 < order.len = omega (arith, under) in
    omega (arith, block_within order.len (order.len - 1) blocks c.self.invariant.filled last, length-set blocks (c.args.index / BLOCK) c.take_out-place.new.block)

pub invariant_of-self : goal.invariant_of-self
invariant_of-self c =
    let order = c.self.inside in
    let index = c.args.index in
    let at = index / BLOCK in
    let blocks = order.blocks.items in
    let was = c.index_mut.result.now in
    let block = c.take_out-place.new.block in
    let under : index < order.len = omega (arith, c.requires, c.self.invariant.count, ap (λ (s : OrderState). length s.items) c.self.view_is) in
    let edit = places-remove order.len index blocks c.self.invariant.filled under block was (c.take_out-place.ensures.items ∙ ap (λ (b : Block). remove b.items (index % BLOCK)) c.index_mut.ensures.value) in
    let count : length (places_in c.close_gap.new.blocks.items) ≡ length (remove (places_in blocks) index) = ap (λ (l : List ℕ). length l) (c.close_gap.ensures.places ∙ edit) in
    record {
      count = omega (arith, count, length-remove (places_in blocks) index (omega (arith, under, c.self.invariant.count)), c.self.invariant.count);
      filled = c.close_gap.ensures.filled;
      room = c.close_gap.ensures.room;
      few = omega (arith, c.close_gap.ensures.count, length-set blocks at block, c.self.invariant.few);
    }

pub returns-clause-value : goal.returns-clause-value
returns-clause-value c =
    let order = c.self.inside in
    let index = c.args.index in
    let was = c.index_mut.result.now in
    let under : index < order.len = omega (arith, c.requires, c.self.invariant.count, ap (λ (s : OrderState). length s.items) c.self.view_is) in
    let place = c.take_out-place.result in
    c.take_out-place.ensures.value ∙ ap (λ (b : Block). get_or b.items (index % BLOCK) place) c.index_mut.ensures.value
    ∙ place_at order.len index order.blocks.items c.self.invariant.filled under was place
    ∙ ap (λ (s : OrderState). get_or s.items index place) c.self.view_is

pub returns-clause-items : goal.returns-clause-items
returns-clause-items c =
    let order = c.self.inside in
    let index = c.args.index in
    let was = c.index_mut.result.now in
    let under : index < order.len = omega (arith, c.requires, c.self.invariant.count, ap (λ (s : OrderState). length s.items) c.self.view_is) in
    c.close_gap.ensures.places
    ∙ places-remove order.len index order.blocks.items c.self.invariant.filled under c.take_out-place.new.block was
    (c.take_out-place.ensures.items ∙ ap (λ (b : Block). remove b.items (index % BLOCK)) c.index_mut.ensures.value)
    ∙ ap (λ (s : OrderState). remove s.items index) c.self.view_is

-- The place comes to its block, in which there is a gap.
use Rattle.std.proofs.Common.{◌≡◌, ◌<◌, ◌≤◌, ◌+◌, ◌/◌, ◌%◌, ◌∙◌, ℕ, List, sym, ap, length, get_or, arith}
use Rattle.std.specs.List.{insert}
use Rattle.std.specs.VecDeque.{deque_len, deque_capacity}
use Rattle.std.proofs.lemmas.List.{length-set}
use Rattle.std.proofs.lemmas.List.Edits.{length-insert}
use Rattle.std.proofs.lemmas.List.Elements.{All-set}
use Rattle.placed_list.specs.declared.order.TheConstants.{BLOCK}
use Rattle.placed_list.specs.Blocks.{Block, places_in}
use Rattle.placed_list.specs.Plain.{OrderState}
use Rattle.placed_list.proofs.Gaps.{size_at, filled-set}
use Rattle.placed_list.proofs.BlockEdits.{places-insert}
use Rattle.placed_list.proofs.order.Order.insert_reserved.Goals as goal

pub invariant_of-self : goal.invariant_of-self
invariant_of-self c =
    let order = c.self.inside in
    let index = c.args.index in
    let at = index / BLOCK in
    let blocks = c.open_gap.new.blocks.items in
    let was = c.index_mut.result.now in
    let block = c.put.new.block in
    let was_is : was ≡ get_or blocks at was = c.index_mut.ensures.value in
    let old = ap (λ (s : OrderState). length s.items) c.self.view_is in
    let upto : index ≤ order.len = omega (arith, c.requires.index, c.self.invariant.count, old) in
    let more = ap (λ (s : OrderState). s.room) c.self.view_is in
    let low : at < length blocks = omega (arith, c.requires.room, c.self.invariant.count, old, more, upto, c.open_gap.ensures.count) in
    let same = ap (λ (l : List ℕ). length l) c.open_gap.ensures.places in
    let edit = places-insert order.len index blocks c.open_gap.ensures.gap low upto block was c.args.place (c.put.ensures.items ∙ ap (λ (b : Block). insert b.items (index % BLOCK) c.args.place) was_is) in
    record {
      count = sym (ap (λ (l : List ℕ). length l) edit ∙ length-insert (places_in blocks) index c.args.place (omega (arith, upto, same, c.self.invariant.count)) ∙ omega (arith, same, c.self.invariant.count));
      filled = filled-set (order.len + 1) at blocks block low (omega (arith, c.put.ensures.len, size_at blocks at was low, ap deque_len was_is)) c.open_gap.ensures.gap;
      room = All-set (λ b. BLOCK ≤ deque_capacity b) blocks at block (omega (arith, c.put.ensures.room, c.open_gap.ensures.room at was low, ap deque_capacity was_is)) c.open_gap.ensures.room;
      few = omega (arith, length-set blocks at block, c.open_gap.ensures.count, c.self.invariant.few);
    }

pub returns-clause-items : goal.returns-clause-items
returns-clause-items c =
    let order = c.self.inside in
    let index = c.args.index in
    let at = index / BLOCK in
    let blocks = c.open_gap.new.blocks.items in
    let was = c.index_mut.result.now in
    let was_is : was ≡ get_or blocks at was = c.index_mut.ensures.value in
    let old = ap (λ (s : OrderState). length s.items) c.self.view_is in
    let upto : index ≤ order.len = omega (arith, c.requires.index, c.self.invariant.count, old) in
    let more = ap (λ (s : OrderState). s.room) c.self.view_is in
    let low : at < length blocks = omega (arith, c.requires.room, c.self.invariant.count, old, more, upto, c.open_gap.ensures.count) in
    places-insert order.len index blocks c.open_gap.ensures.gap low upto c.put.new.block was c.args.place (c.put.ensures.items ∙ ap (λ (b : Block). insert b.items (index % BLOCK) c.args.place) was_is)
    ∙ ap (λ (l : List ℕ). insert l index c.args.place) c.open_gap.ensures.places
    ∙ ap (λ (s : OrderState). insert s.items index c.args.place) c.self.view_is

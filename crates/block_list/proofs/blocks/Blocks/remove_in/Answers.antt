use Rattle.std.proofs.Common.{◌<◌, length, subst, sym, arith}
use Rattle.block_list.proofs.Changes.{at_head, set_head, at_behind, set_behind}
use Rattle.block_list.proofs.blocks.Blocks.remove_in.Goals as goal

pub remove-requires : goal.remove-requires
remove-requires g c =
    let blocks = c.args.self.now in
    let within = subst (λ b. c.args.place.offset < length b.items) (at_head blocks.head blocks.rest.items c.args.place.block c.if-place-eq0.true) (c.requires.item blocks.head) in
    omega (arith, within, blocks.head.ok.0)

pub remove-requires-else-place-eq0 : goal.remove-requires-else-place-eq0
remove-requires-else-place-eq0 g c =
    let blocks = c.args.self.now in
    let block = c.index_mut-block.result.now in
    let within = subst (λ b. c.args.place.offset < length b.items) (at_behind blocks.head blocks.rest.items c.args.place.block block c.if-place-eq0.false c.index_mut-block.ensures.value) (c.requires.item block) in
    omega (arith, within, block.ok.0)

pub returns-then-place-eq0-clause-block : goal.returns-then-place-eq0-clause-block
returns-then-place-eq0-clause-block g c =
    let blocks = c.args.self.now in
    let after = c.remove.new.self in
    record {
      before = blocks.head;
      after = after;
      stood = at_head blocks.head blocks.rest.items c.args.place.block c.if-place-eq0.true;
      put = sym (set_head blocks.head blocks.rest.items c.args.place.block after c.if-place-eq0.true);
      changes = record { items = c.remove.ensures.items; count = omega (arith, c.remove.ensures.len, after.ok.0, blocks.head.ok.0); memory = c.remove.ensures.capacity };
    }

pub returns-else-place-eq0-clause-block : goal.returns-else-place-eq0-clause-block
returns-else-place-eq0-clause-block g c =
    let blocks = c.args.self.now in
    let block = c.index_mut-block.result.now in
    let after = c.remove-else-place-eq0.new.self in
    record {
      before = block;
      after = after;
      stood = at_behind blocks.head blocks.rest.items c.args.place.block block c.if-place-eq0.false c.index_mut-block.ensures.value;
      put = sym (set_behind blocks.head blocks.rest.items c.args.place.block after c.if-place-eq0.false);
      changes = record { items = c.remove-else-place-eq0.ensures.items; count = omega (arith, c.remove-else-place-eq0.ensures.len, after.ok.0, block.ok.0); memory = c.remove-else-place-eq0.ensures.capacity };
    }

use Rattle.std.proofs.Common.{◌≤◌, length, subst, sym}
use Rattle.block_list.specs.Blocks.{block_size, all_of, MayGrow}
use Rattle.block_list.proofs.Changes.{at_head, set_head, at_behind, set_behind, holds_at, room_at}
use Rattle.block_list.proofs.blocks.Blocks.insert_in.Goals as goal

pub insert_or_split-requires : goal.insert_or_split-requires
insert_or_split-requires g c =
    let blocks = c.args.self.now in
    let at = at_head blocks.head blocks.rest.items c.args.place.block c.if-place-eq0.true in
    let low = c.requires.place.block in
    record {
      size = holds_at (λ b. length b.items ≤ block_size) (all_of blocks) c.args.place.block blocks.head low at c.requires.blocks.most;
      grow = holds_at MayGrow (all_of blocks) c.args.place.block blocks.head low at c.requires.ready.grow;
      empty = c.requires.empty;
      room = λ full. (room_at blocks c.args.spare.now c.args.place.block blocks.head low at c.requires.ready full).0;
      offset = subst (λ b. c.args.place.offset ≤ length b.items) at (c.requires.place.offset blocks.head);
    }

pub insert_or_split-requires-else-place-eq0 : goal.insert_or_split-requires-else-place-eq0
insert_or_split-requires-else-place-eq0 g c =
    let blocks = c.args.self.now in
    let block = c.index_mut-block.result.now in
    let at = at_behind blocks.head blocks.rest.items c.args.place.block block c.if-place-eq0.false c.index_mut-block.ensures.value in
    let low = c.requires.place.block in
    record {
      size = holds_at (λ b. length b.items ≤ block_size) (all_of blocks) c.args.place.block block low at c.requires.blocks.most;
      grow = holds_at MayGrow (all_of blocks) c.args.place.block block low at c.requires.ready.grow;
      empty = c.requires.empty;
      room = λ full. (room_at blocks c.args.spare.now c.args.place.block block low at c.requires.ready full).0;
      offset = subst (λ b. c.args.place.offset ≤ length b.items) at (c.requires.place.offset block);
    }

pub returns-then-place-eq0-clause-block : goal.returns-then-place-eq0-clause-block
returns-then-place-eq0-clause-block g c =
    let blocks = c.args.self.now in
    record {
      before = blocks.head;
      after = c.insert_or_split.new.block;
      stood = at_head blocks.head blocks.rest.items c.args.place.block c.if-place-eq0.true;
      put = sym (set_head blocks.head blocks.rest.items c.args.place.block c.insert_or_split.new.block c.if-place-eq0.true);
      changes = c.insert_or_split.ensures;
    }

pub returns-else-place-eq0-clause-block : goal.returns-else-place-eq0-clause-block
returns-else-place-eq0-clause-block g c =
    let blocks = c.args.self.now in
    let block = c.index_mut-block.result.now in
    record {
      before = block;
      after = c.insert_or_split-else-place-eq0.new.block;
      stood = at_behind blocks.head blocks.rest.items c.args.place.block block c.if-place-eq0.false c.index_mut-block.ensures.value;
      put = sym (set_behind blocks.head blocks.rest.items c.args.place.block c.insert_or_split-else-place-eq0.new.block c.if-place-eq0.false);
      changes = c.insert_or_split-else-place-eq0.ensures;
    }

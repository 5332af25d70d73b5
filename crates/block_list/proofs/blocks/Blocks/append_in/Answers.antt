use Rattle.std.proofs.Common.{◌+◌, ◌≤◌, subst, sym}
use Rattle.std.specs.Prelude.{vec_len, vec_capacity}
use Rattle.block_list.proofs.Changes.{at_head, set_head, at_behind, set_behind}
use Rattle.block_list.proofs.blocks.Blocks.append_in.Goals as goal

pub append_reserved-requires : goal.append_reserved-requires
append_reserved-requires g c =
    let blocks = c.args.self.now in
    subst (λ b. vec_len b + vec_len c.args.back.now ≤ vec_capacity b) (at_head blocks.head blocks.rest.items c.args.number c.if-number-eq0.true) (c.requires.room blocks.head)

pub append_reserved-requires-else-number-eq0 : goal.append_reserved-requires-else-number-eq0
append_reserved-requires-else-number-eq0 g c =
    let blocks = c.args.self.now in
    let block = c.index_mut-block.result.now in
    subst (λ b. vec_len b + vec_len c.args.back.now ≤ vec_capacity b) (at_behind blocks.head blocks.rest.items c.args.number block c.if-number-eq0.false c.index_mut-block.ensures.value)
    (c.requires.room block)

pub returns-then-number-eq0-clause-block : goal.returns-then-number-eq0-clause-block
returns-then-number-eq0-clause-block g c =
    let blocks = c.args.self.now in
    record {
      before = blocks.head;
      after = c.append_reserved.new.front;
      stood = at_head blocks.head blocks.rest.items c.args.number c.if-number-eq0.true;
      put = sym (set_head blocks.head blocks.rest.items c.args.number c.append_reserved.new.front c.if-number-eq0.true);
      changes = record { items = c.append_reserved.ensures.items; memory = c.append_reserved.ensures.capacity };
    }

pub returns-else-number-eq0-clause-block : goal.returns-else-number-eq0-clause-block
returns-else-number-eq0-clause-block g c =
    let blocks = c.args.self.now in
    let block = c.index_mut-block.result.now in
    let after = c.append_reserved-else-number-eq0.new.front in
    record {
      before = block;
      after = after;
      stood = at_behind blocks.head blocks.rest.items c.args.number block c.if-number-eq0.false c.index_mut-block.ensures.value;
      put = sym (set_behind blocks.head blocks.rest.items c.args.number after c.if-number-eq0.false);
      changes = record { items = c.append_reserved-else-number-eq0.ensures.items; memory = c.append_reserved-else-number-eq0.ensures.capacity };
    }

use Rattle.std.proofs.Common.{◌≡◌, length, take, ap, sym, ◌∙◌, arith}
use Rattle.block_list.proofs.Pieces.{insert_low, insert_high}
use Rattle.block_list.proofs.block.insert_half.Goals as goal

pub returns-then-offset-le-HALF_SIZE-clause-items : goal.returns-then-offset-le-HALF_SIZE-clause-items
returns-then-offset-le-HALF_SIZE-clause-items g c =
    let items = c.args.block.now.items in
    let size : length (take 64 items) ≡ 64 = sym (ap length c.move_half.ensures.block) ∙ sym c.move_half.new.block.ok.0 ∙ c.move_half.ensures.len in
    rw (c.insert_reserved.ensures.items, c.move_half.ensures.block, c.move_half.ensures.spare) (insert_low items 64 c.args.offset c.args.item (omega (arith, size, c.if-offset-le-HALF_SIZE.true)))

pub returns-else-offset-le-HALF_SIZE-clause-items : goal.returns-else-offset-le-HALF_SIZE-clause-items
returns-else-offset-le-HALF_SIZE-clause-items g c =
    let items = c.args.block.now.items in
    let size : length (take 64 items) ≡ 64 = sym (ap length c.move_half.ensures.block) ∙ sym c.move_half.new.block.ok.0 ∙ c.move_half.ensures.len in
    rw (c.insert_reserved-else-offset-le-HALF_SIZE.ensures.items, c.move_half.ensures.block, c.move_half.ensures.spare)
    (insert_high items 64 c.args.offset c.args.item size (omega (arith, c.if-offset-le-HALF_SIZE.false)))

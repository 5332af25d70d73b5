use Rattle.std.proofs.Common.{ap, sym, subst, ◌∙◌, arith}
use Rattle.std.specs.Prelude.{vec_items}
use Rattle.std.specs.List.{All}
use Rattle.block_list.specs.Blocks.{all_of, items_of, IsBlock}
use Rattle.block_list.proofs.Pieces.{flat_map-take_out}
use Rattle.block_list.proofs.Changes.{removed, removed_blocks, ready_without, ready_with_fewer, from_all, All-remove}
use Rattle.block_list.proofs.blocks.Blocks.remove.Goals as goal

pub join_small-requires-clause-blocks : goal.join_small-requires-clause-blocks
join_small-requires-clause-blocks g c =
    removed_blocks (all_of c.args.self.now) (all_of c.remove_in.new.self) c.args.place.block c.args.place.offset c.requires.place.block c.requires.blocks (c.is_single.ensures.other c.if-is_single.false) c.requires.item c.remove_in.ensures.block

pub returns-else-is_single-clause-items : goal.returns-else-is_single-clause-items
returns-else-is_single-clause-items g c =
    c.join_small.ensures.items
    ∙ removed (all_of c.args.self.now) (all_of c.remove_in.new.self) c.args.place.block c.args.place.offset c.requires.place.block c.requires.item c.remove_in.ensures.block

pub returns-else-is_single-clause-ready : goal.returns-else-is_single-clause-ready
returns-else-is_single-clause-ready g c ready =
    c.join_small.ensures.ready (ready_without c.args.self.now c.remove_in.new.self c.args.spare.now c.args.place.block c.args.place.offset c.requires.place.block c.remove_in.ensures.block c.remove_in.ensures.count c.remove_in.ensures.capacity ready)

pub returns-then-is_single-clause-items : goal.returns-then-is_single-clause-items
returns-then-is_single-clause-items g c =
    let blocks = all_of c.args.self.now in
    let head = c.args.self.now.head in
    let one = c.is_single.ensures.one c.if-is_single.true head in
    let first = c.requires.item head in
    ap items_of c.take_out-emptied.ensures.blocks ∙ flat_map-take_out vec_items blocks c.args.place.block c.args.place.offset head c.requires.place.block one (omega (arith, one, first))

pub returns-then-is_single-clause-blocks : goal.returns-then-is_single-clause-blocks
returns-then-is_single-clause-blocks g c =
    let blocks = all_of c.args.self.now in
    let all = All-remove IsBlock blocks c.args.place.block (c.requires.blocks.all (c.is_single.ensures.beside c.if-is_single.true)) in
    from_all (all_of c.take_out-emptied.new.self) (subst (All IsBlock) (sym c.take_out-emptied.ensures.blocks) all)

pub returns-then-is_single-clause-ready : goal.returns-then-is_single-clause-ready
returns-then-is_single-clause-ready g c ready =
    let blocks = all_of c.args.self.now in
    let more = c.is_single.ensures.beside c.if-is_single.true in
    let all = All-remove IsBlock blocks c.args.place.block (c.requires.blocks.all more) in
    ready_with_fewer c.args.self.now c.take_out-emptied.new.self c.args.spare.now c.keep_spare.new.spare more (subst (All IsBlock) (sym c.take_out-emptied.ensures.blocks) all) c.take_out-emptied.ensures.count c.take_out-emptied.ensures.capacity c.keep_spare.ensures.capacity ready

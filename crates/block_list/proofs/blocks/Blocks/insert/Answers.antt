use Rattle.std.proofs.Common.{◌≡◌, suc, [], ap, sym, ◌∙◌, arith}
use Rattle.std.specs.Prelude.{vec_items}
use Rattle.std.specs.List.{insert}
use Rattle.std.proofs.lemmas.List.{nil_from_length}
use Rattle.block_list.specs.Blocks.{all_of}
use Rattle.block_list.proofs.Pieces.{flat_map-insert_none}
use Rattle.block_list.proofs.Changes.{inserted, inserted_blocks, split_blocks}
use Rattle.block_list.proofs.blocks.Blocks.insert.Goals as goal

pub returns-then-not-is_empty-clause-items : goal.returns-then-not-is_empty-clause-items
returns-then-not-is_empty-clause-items g c =
    let spare = c.insert_in.new.spare in
    let new = all_of c.insert_in.new.self in
    let is = inserted (all_of c.args.self.now) new c.args.place.block c.args.place.offset c.requires.place.block c.args.item spare c.requires.place.offset c.insert_in.ensures.block in
    let items = c.insert_reserved.ensures.items ∙ ap (insert c.insert_in.new.self.rest.items c.args.place.block) c.replace-block.ensures.value in
    rw items is

pub returns-then-not-is_empty-clause-blocks : goal.returns-then-not-is_empty-clause-blocks
returns-then-not-is_empty-clause-blocks g c =
    let spare = c.insert_in.new.spare in
    let new = all_of c.insert_in.new.self in
    let good = split_blocks (all_of c.args.self.now) new c.args.place.block c.args.place.offset c.requires.place.block c.args.item spare c.requires.blocks c.insert_in.ensures.block (grind (arith, c.is_empty.ensures, c.if-not-is_empty.true, spare.ok.0)) in
    let items = c.insert_reserved.ensures.items ∙ ap (insert c.insert_in.new.self.rest.items c.args.place.block) c.replace-block.ensures.value in
    rw items good

pub returns-else-not-is_empty-clause-items : goal.returns-else-not-is_empty-clause-items
returns-else-not-is_empty-clause-items g c =
    let spare = c.insert_in.new.spare in
    let new = all_of c.insert_in.new.self in
    let is = inserted (all_of c.args.self.now) new c.args.place.block c.args.place.offset c.requires.place.block c.args.item spare c.requires.place.offset c.insert_in.ensures.block in
    let none : spare.items ≡ [] = nil_from_length spare.items (grind (arith, c.is_empty.ensures, c.if-not-is_empty.false, spare.ok.0)) in
    sym (flat_map-insert_none vec_items new (suc c.args.place.block) spare none) ∙ is

pub returns-else-not-is_empty-clause-blocks : goal.returns-else-not-is_empty-clause-blocks
returns-else-not-is_empty-clause-blocks g c =
    inserted_blocks (all_of c.args.self.now) (all_of c.insert_in.new.self) c.args.place.block c.args.place.offset c.requires.place.block c.args.item c.insert_in.new.spare c.requires.blocks c.insert_in.ensures.block

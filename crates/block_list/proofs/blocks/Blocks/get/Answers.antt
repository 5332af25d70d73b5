use Rattle.std.proofs.Common.{◌∷◌, List, sym, ap, ◌∙◌}
use Rattle.std.specs.Prelude.{vec_items, slice_get}
use Rattle.block_list.proofs.Pieces.{slice_get-flat_map, copied}
use Rattle.block_list.proofs.blocks.Blocks.get.Goals as goal

pub returns-clause-value : goal.returns-clause-value
returns-clause-value g c =
    let blocks = c.args.self.now.head ∷ c.args.self.now.rest.items in
    let head = c.args.self.now.head in
    let read = copied c.block.result.now c.args.place.offset c.get.result _ c.get.ensures.lookup.3 c.get.ensures.lookup.1 in
    read
    ∙ ap (λ (l : List g.row.T.Denot). slice_get l c.args.place.offset) (c.block.ensures head)
    ∙ sym (slice_get-flat_map vec_items blocks c.args.place.block c.args.place.offset head c.requires.place.block (c.requires.item head))

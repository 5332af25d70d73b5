use Rattle.std.proofs.Common.{◌≡◌, ap, ◌∙◌}
use Rattle.std.specs.Prelude.{slice_get}
use Rattle.std.specs.Option.{option_copied}
use Rattle.block_list.specs.Blocks.{items_of, all_of}
use Rattle.block_list.proofs.Searches.{at_place}
use Rattle.block_list.proofs.block_list.BlockList.at_partition.Goals as goal

pub returns : goal.returns
returns g c p h =
    let blocks = all_of c.self.inside.blocks in
    let is : items_of blocks ≡ c.args.self.now.items = ap (λ s. s.items) c.self.view_is in
    let value = c.get.ensures.value ∙ ap (slice_get (items_of blocks)) c.item_place.ensures.index in
    let answer = at_place p blocks c.search-place.result (λ index. option_copied c.get.result ≡ slice_get (items_of blocks) index) c.search-place.ensures.place (c.search-place.ensures.partition p h) value in
    rw is at answer

use Rattle.std.proofs.Common.{◌≡◌, ap}
use Rattle.std.specs.List.{insert}
use Rattle.block_list.specs.Blocks.{items_of, all_of}
use Rattle.block_list.proofs.Searches.{at_place}
use Rattle.block_list.proofs.block_list.BlockList.insert_at_partition.Goals as goal

pub returns-clause-items : goal.returns-clause-items
returns-clause-items g c p h =
    let blocks = all_of c.self.inside.blocks in
    let is : items_of blocks ≡ c.args.self.now.items = ap (λ s. s.items) c.self.view_is in
    let new = items_of (all_of c.insert.new.self) in
    let answer = at_place p blocks c.search-place.result (λ index. new ≡ insert (items_of blocks) index c.args.item) c.search-place.ensures.place (c.search-place.ensures.partition p h) c.insert.ensures.items in
    rw is at answer

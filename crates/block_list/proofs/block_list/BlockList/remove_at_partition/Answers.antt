use Rattle.std.proofs.Common.{◌≡◌, ap, sym, ◌∙◌, Some, None}
use Rattle.std.specs.Prelude.{slice_get}
use Rattle.std.specs.List.{remove}
use Rattle.block_list.specs.Blocks.{items_of, all_of, index_of}
use Rattle.block_list.proofs.Pieces.{past_from_none, remove_past}
use Rattle.block_list.proofs.Searches.{at_place}
use Rattle.block_list.proofs.block_list.BlockList.remove_at_partition.Goals as goal

pub returns-in-None-clause-items : goal.returns-in-None-clause-items
returns-in-None-clause-items g c p h =
    let blocks = all_of c.self.inside.blocks in
    let items = items_of blocks in
    let is : items ≡ c.args.self.now.items = ap (λ s. s.items) c.self.view_is in
    let none : None ≡ slice_get items (index_of blocks c.search.result) = c.in-None.ensures.value ∙ ap (slice_get items) c.item_place-place.ensures.index in
    let same : items ≡ remove items (index_of blocks c.search.result) = sym (remove_past items (index_of blocks c.search.result) (past_from_none items (index_of blocks c.search.result) (sym none))) in
    let answer = at_place p blocks c.search.result (λ index. (None ≡ slice_get items index) × (items ≡ remove items index)) c.search.ensures.place (c.search.ensures.partition p h) (none, same) in
    rw is at answer

pub returns-in-Some-clause-items : goal.returns-in-Some-clause-items
returns-in-Some-clause-items g c p h =
    let blocks = all_of c.self.inside.blocks in
    let items = items_of blocks in
    let is : items ≡ c.args.self.now.items = ap (λ s. s.items) c.self.view_is in
    let new = items_of (all_of c.remove.new.self) in
    let value : Some c.in-Some.item.now ≡ slice_get items (index_of blocks c.search.result) = c.in-Some.ensures.value ∙ ap (slice_get items) c.item_place-place.ensures.index in
    let removed : new ≡ remove items (index_of blocks c.search.result) = c.remove.ensures.items ∙ ap (remove items) c.item_place-place.ensures.index in
    let answer = at_place p blocks c.search.result (λ index. (Some c.in-Some.item.now ≡ slice_get items index) × (new ≡ remove items index)) c.search.ensures.place (c.search.ensures.partition p h) (value, removed) in
    rw is at answer

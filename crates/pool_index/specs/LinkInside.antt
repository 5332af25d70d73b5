-- What an index of links keeps.
use Rattle.std.specs.Prelude.{◌<◌, ◌^◌, IfSome, vec_len, vec_capacity}
use Rattle.pool_index.specs.declared.link_index.LinkIndex.TheInside.{Inside}
use Rattle.pool_index.specs.SortedLinks.{Key, AreSorted}
use Rattle.pool_index.specs.Links.{LinksState}

abbrev pub state_of : {L : Type 0} → Inside L → LinksState L
state_of index = record { links = index.links.items; ready = index.ready }

-- there is room for one link more
pub record HasRoom {L : Type 0} (index : Inside L) : Type 0 where
  pub links_room : vec_len index.links < vec_capacity index.links
  pub order_room : 0 < index.order.room
  pub small : vec_len index.links < 2 ^ 32

-- the places are sorted by the keys, and there is room for the link that is ready
pub record IsLinkIndex {L : Type 0} (key : L → Key) (index : Inside L) : Type 0 where
  pub sorted : AreSorted key index.links.items index.order.items
  pub prepared : IfSome index.ready (λ _. HasRoom index)

-- What the list keeps, and what contracts see of it.
use Rattle.std.specs.Prelude.{◌≡◌, true, [], if◌then◌else◌}
use Rattle.block_list.specs.declared.block_list.BlockList.TheInside.{Inside}
use Rattle.block_list.specs.Plain.{BlockListState}
use Rattle.block_list.specs.Blocks.{items_of, all_of, AreBlocks, IsReady}

module _ {T : Type 0} where
  abbrev pub state_of : Inside T → BlockListState T
  state_of list = record { items = items_of (all_of list.blocks); room = if list.ready then 1 else 0 }

  -- the spare block has no items, and what is said to be ready is
  pub record IsKept (list : Inside T) : Type 0 where
    pub blocks : AreBlocks (all_of list.blocks)
    pub spare : list.spare.items ≡ []
    pub ready : list.ready ≡ true → IsReady list.blocks list.spare

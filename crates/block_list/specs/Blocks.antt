-- A list in blocks: the head block, and the blocks behind it.
use Rattle.std.specs.Prelude.{◌≡◌, ◌⊎◌, ℕ, suc, ◌+◌, ◌<◌, ◌≤◌, List, [], ◌∷◌, ◌++◌, length, take, slice_index_or, slice_set, Vec, vec_items, vec_len, vec_capacity}
use Rattle.std.specs.List.{All, flat_map, insert, remove}
use Rattle.std.specs.declared.alloc.Global.{Global}
use Rattle.block_list.specs.declared.place.Place.{Place}
use Rattle.block_list.specs.declared.blocks.Blocks.{Blocks}

-- how many items a block has at most
abbrev pub block_size : ℕ
block_size = 128

module _ {T Z : Type 0} where
  -- the items of all blocks, in order
  abbrev pub items_of : List (Vec T Z) → List T
  items_of blocks = flat_map vec_items blocks

  -- how many items stand before the place
  abbrev pub index_of : List (Vec T Z) → Place → ℕ
  index_of blocks place = length (items_of (take place.block blocks)) + place.offset

  -- the place lies in a block, or behind its last item
  pub record IsPlace (blocks : List (Vec T Z)) (place : Place) : Type 0 where
    pub block : place.block < length blocks
    pub offset : (d : Vec T Z) → place.offset ≤ length (slice_index_or blocks place.block d).items

  -- an item stands at the place
  abbrev pub HasItem : List (Vec T Z) → Place → Type 0
  HasItem blocks place = (d : Vec T Z) → place.offset < length (slice_index_or blocks place.block d).items

  -- a block and the one behind it have no more items together than one block may have
  abbrev pub FitTogether : List (Vec T Z) → ℕ → Type 0
  FitTogether blocks number = (d : Vec T Z) → length (slice_index_or blocks number d).items + length (slice_index_or blocks (suc number) d).items ≤ block_size

  -- a place behind the last item of a block is the end of the list
  abbrev pub IsItemPlace : List (Vec T Z) → Place → Type 0
  IsItemPlace blocks place = (d : Vec T Z) → length (slice_index_or blocks place.block d).items ≤ place.offset → suc place.block ≡ length blocks

  -- a block has items, and memory for as many as it may have
  pub record IsBlock (block : Vec T Z) : Type 0 where
    pub some : 0 < length block.items
    pub most : length block.items ≤ block_size
    pub memory : block_size ≤ vec_capacity block

  -- each block is one, but that a block that is alone may have no items, and less memory
  pub record AreBlocks (blocks : List (Vec T Z)) : Type 0 where
    pub most : All (λ block. length block.items ≤ block_size) blocks
    pub all : 1 < length blocks → All IsBlock blocks

  -- a block that may take an item takes it without memory
  abbrev pub MayGrow : Vec T Z → Type 0
  MayGrow block = length block.items < block_size → vec_len block < vec_capacity block

  -- an item is put into a block, and what moves out of it into the spare block
  pub record TakesItem (offset : ℕ) (item : T) (spare old new : Vec T Z) : Type 0 where
    pub items : new.items ++ spare.items ≡ insert old.items offset item
    pub some : 0 < length new.items
    pub most : length new.items ≤ block_size
    pub memory : vec_capacity old ≤ vec_capacity new
    pub moved : (spare.items ≡ []) ⊎ ((length old.items ≡ block_size) × IsBlock spare)

  -- an item is taken out of a block
  pub record LosesItem (offset : ℕ) (old new : Vec T Z) : Type 0 where
    pub items : new.items ≡ remove old.items offset
    pub count : length new.items + 1 ≡ length old.items
    pub memory : vec_capacity new ≡ vec_capacity old

  -- items are put behind those of a block
  pub record TakesAll (back : List T) (old new : Vec T Z) : Type 0 where
    pub items : new.items ≡ old.items ++ back
    pub memory : vec_capacity old ≤ vec_capacity new

  -- one block changes, in a way that a relation says
  pub record ChangesBlock (number : ℕ) (Changes : Vec T Z → Vec T Z → Type 0) (old new : List (Vec T Z)) : Type 0 where
    pub before : Vec T Z
    pub after : Vec T Z
    pub stood : slice_index_or old number before ≡ before
    pub put : new ≡ slice_set old number after
    pub changes : Changes before after

module _ {T : Type 0} where
  -- the head block and the blocks behind it
  abbrev pub all_of : Blocks T → List (Vec T Global)
  all_of blocks = blocks.head ∷ blocks.rest.items

  -- there is memory for an item: in the block that is alone, or in each block and in the spare block
  pub record IsReady (blocks : Blocks T) (spare : Vec T Global) : Type 0 where
    pub grow : All MayGrow (all_of blocks)
    pub room : ((length (all_of blocks) ≡ 1) × All (λ block. length block.items < block_size) (all_of blocks)) ⊎ ((block_size ≤ vec_capacity spare) × (vec_len blocks.rest < vec_capacity blocks.rest))

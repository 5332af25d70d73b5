-- Places in blocks.
use Rattle.std.specs.Prelude.{◌≡◌, ◌≢◌, ℕ, ◌+◌, ◌-◌, ◌*◌, ◌≤◌, min, List, map, length, slice_index}
use Rattle.std.specs.List.{All, flat_map}
use Rattle.std.specs.VecDeque.{deque_len, deque_capacity}
use Rattle.std.specs.declared.alloc.Global.{Global}
use Rattle.std.specs.declared.collections.VecDeque.{VecDeque}
use Rattle.placed_list.specs.declared.order.TheConstants.{BLOCK}

abbrev pub Block : Type 0
Block = VecDeque ℕ Global

-- the places of the blocks, one block after the other
abbrev pub places_in : List Block → List ℕ
places_in blocks = flat_map (λ block. block.items) blocks

-- how many places each block has
abbrev pub sizes : List Block → List ℕ
sizes blocks = map deque_len blocks

-- how many of so many places block k has, where each block before it is full
abbrev pub part : ℕ → ℕ → ℕ
part count k = min BLOCK (count - BLOCK * k)

-- all blocks are full but the last that has places
abbrev pub AreFilled : ℕ → List Block → Type 0
AreFilled count blocks = (k : ℕ) → slice_index (sizes blocks) k ≡ part count k

-- the same, but one place is missing in this block
pub record HaveGap (count gap : ℕ) (blocks : List Block) : Type 0 where
  pub short : slice_index (sizes blocks) gap + 1 ≡ part count gap
  pub others : (k : ℕ) → k ≢ gap → slice_index (sizes blocks) k ≡ part count k

-- no block needs memory until it is full
abbrev pub HaveRoom : List Block → Type 0
HaveRoom blocks = All (λ block. BLOCK ≤ deque_capacity block) blocks

-- a place went from one block to another, and the places are the same in the same order
pub record IsMoved (from to : ℕ) (old new : List Block) : Type 0 where
  pub places : places_in new ≡ places_in old
  pub fewer : slice_index (sizes new) from + 1 ≡ slice_index (sizes old) from
  pub more : slice_index (sizes new) to ≡ slice_index (sizes old) to + 1
  pub others : (k : ℕ) → k ≢ from → k ≢ to → slice_index (sizes new) k ≡ slice_index (sizes old) k
  pub count : length new ≡ length old
  pub room : HaveRoom old → HaveRoom new

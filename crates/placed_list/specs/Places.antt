-- Items by their places.
use Rattle.std.specs.Prelude.{◌≡◌, ℕ, ◌+◌, ◌≤◌, ◌<◌, nat_eq, List, length, slice_get}
use Rattle.std.specs.List.{All, count_by, filter_map}

-- the items that lie at these places
abbrev pub items_at : {T : Type 0} → List T → List ℕ → List T
items_at items places = filter_map (slice_get items) places

-- of so many places each is in the order or free, and none is there twice
pub record ArePlaces (count : ℕ) (order free : List ℕ) : Type 0 where
  pub in_order : All (λ place. place < count) order
  pub are_free : All (λ place. place < count) free
  pub once : (place : ℕ) → count_by (nat_eq place) order + count_by (nat_eq place) free ≤ 1
  pub all : length order + length free ≡ count

-- Links with keys, and the places of links in the order of their keys.
use Rattle.std.specs.Prelude.{◌≡◌, ◌≢◌, ℕ, Bool, Option, Some, None, ◌<◌, List, [], length, map, slice_index_or, slice_get}
use Rattle.std.specs.List.{AllPairs, Contains, HoldsAt, find}
use Rattle.std.specs.List.Sorted.{IsSortedBy}
use Rattle.std.specs.Option.{option_map_or}
use Rattle.std.specs.Ordering.{is_lt}
use Rattle.std.specs.declared.cmp.Ordering.{Ordering}
use Rattle.std.specs.declared.cmp.Ordering.TheVariants.{Less}
use Rattle.dimensions.specs.Alike.{same_pair}
use Rattle.dimensions.specs.Order.{pair_cmp, is_below}

-- the key of a link: two texts
abbrev pub Key : Type 0
Key = List ℕ × List ℕ

-- a digest as a key
abbrev pub digest_key : List ℕ → Key
digest_key digest = ([], digest)

-- the key at a place
abbrev pub key_at : List Key → ℕ → Key
key_at keys place = slice_index_or keys place ([], [])

abbrev pub is_key_below : List Key → ℕ → ℕ → Bool
is_key_below keys a b = is_below (key_at keys a) (key_at keys b)

-- the places of all keys, the lower key first; no two keys are the same
pub record AreByKey (keys : List Key) (order : List ℕ) : Type 0 where
  pub rising : IsSortedBy (is_key_below keys) order
  pub low : (i : ℕ) → i < length order → slice_index_or order i 0 < length keys
  pub each : (k : ℕ) → k < length keys → Contains order k
  pub apart : AllPairs (λ a b. a ≢ b) keys

abbrev pub AreSorted : {L : Type 0} → (L → Key) → List L → List ℕ → Type 0
AreSorted key links order = AreByKey (map key links) order

-- how the key of the link at a place compares with a key; a place past the end counts as less
abbrev pub order_at : {L : Type 0} → (L → Key) → List L → Key → ℕ → Ordering
order_at key links sought place = option_map_or (λ link. pair_cmp (key link) sought) (slice_get links place) Less

-- the link at a place has a key below this one
abbrev pub is_before : {L : Type 0} → (L → Key) → List L → Key → ℕ → Bool
is_before key links sought place = is_lt (order_at key links sought place)

-- the link at a place has the key
pub record HasKeyAt {L : Type 0} (key : L → Key) (links : List L) (sought : Key) (place : ℕ) : Type 0 where
  pub within : place < length links
  pub is : HoldsAt (λ link. key link ≡ sought) links place

-- no link has the key
pub record HasNoKey {L : Type 0} (key : L → Key) (links : List L) (sought : Key) : Type 0 where
  pub none : (link : L) → Contains links link → key link ≡ sought → ⊥

-- a link with the key is one of these
pub record HasKey {L : Type 0} (key : L → Key) (links : List L) (sought : Key) (link : L) : Type 0 where
  pub among : Contains links link
  pub is : key link ≡ sought

-- the link with the key
abbrev pub link_of : {L : Type 0} → (L → Key) → List L → Key → Option L
link_of key links sought = find (λ link. same_pair (key link) sought) links

-- the link with a key is this one, and those with other keys are the same as before
pub record Sets {L : Type 0} (key : L → Key) (sought : Key) (link : L) (old new : List L) : Type 0 where
  pub own : link_of key new sought ≡ Some link
  pub others : (other : Key) → other ≢ sought → link_of key new other ≡ link_of key old other

-- a link that has taken in another one, or the other one where there is none
abbrev pub taken_in : {L : Type 0} → (L → L → L) → L → Option L → L
taken_in merged other None = other
taken_in merged other (Some link) = merged link other

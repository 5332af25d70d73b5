-- The slots of a store, sorted by digest, with the bytes to which they point.
use Rattle.std.specs.Prelude.{true, ◌≡◌, ℕ, ◌+◌, ◌*◌, ◌≤◌, ◌<◌, ◌++◌, List, [], slice_index_or, map, take, drop, length, Some, None, ◌⊎◌, if◌then◌else◌}
use Rattle.std.specs.Bool.{OnTrue}
use Rattle.std.specs.List.{All}
use Rattle.std.specs.List.Sorted.{IsStrictlySortedBy}
use Rattle.std.specs.declared.cmp.Ordering.TheVariants.{Less, Greater}
use Rattle.sha2.specs.Sha256.{sha256}
use Rattle.blob_rows.specs.declared.extent.Extent.{Extent}
use Rattle.blob_rows.specs.Extents.{extent_at, AreApart}
use Rattle.blob_rows.specs.Digests.{digest_cmp}
use Rattle.blob_rows.specs.BlobRows.{units_of}
use Rattle.region.specs.Plain.{RegionState}
use Rattle.region.specs.FreeUnits.{IsFreeBeside}
use Rattle.content_store.specs.declared.slot.Slot.{Slot}
use Rattle.content_store.specs.Contents.{Content}
use Rattle.content_store.specs.Plain.{ContentStoreState}

-- ---- parts of the bytes

-- so many bytes from a place on
abbrev pub part : ℕ → ℕ → List ℕ → List ℕ
part start size bytes = take size (drop start bytes)

-- a content in its place among the bytes
abbrev pub with_part : ℕ → List ℕ → List ℕ → List ℕ
with_part start content bytes = take start bytes ++ (content ++ drop (start + length content) bytes)

-- two parts of bytes that share none
abbrev pub AreBeside : ℕ → ℕ → ℕ → ℕ → Type 0
AreBeside start size other other_size = (other + other_size ≤ start) ⊎ (start + size ≤ other)

-- a content was written at its place; parts of bytes beside it stay as they were
pub record IsWritten (old new : List ℕ) (start : ℕ) (content : List ℕ) : Type 0 where
  pub there : part start (length content) new ≡ content
  pub long : start + length content ≤ length new
  pub others : (other size : ℕ) → other + size ≤ length old → AreBeside start (length content) other size → part other size new ≡ part other size old
  pub keeps : length old ≤ length new

-- ---- the slots

abbrev pub digest_of : Slot → List ℕ
digest_of slot = slot.digest

abbrev pub extent_of_slot : Slot → Extent
extent_of_slot slot = extent_at (units_of slot.size) slot.at

abbrev pub part_of : List ℕ → Slot → List ℕ
part_of bytes slot = part (slot.at * 64) slot.size bytes

-- the content that a slot stands for
abbrev pub content_in : List ℕ → Slot → Content
content_in bytes slot =
    record {
      digest = slot.digest;
      size = slot.size;
      number = slot.number;
      extent = extent_of_slot slot;
      bytes = if slot.is_filled then Some (part_of bytes slot) else None;
    }

abbrev pub state_in : ℕ → ℕ → List ℕ → List Slot → ContentStoreState
state_in units names bytes slots = record { units = units; names = names; held = map (content_in bytes) slots }

-- the slot, once its bytes came
abbrev pub filled_slot : Slot → Slot
filled_slot slot = record slot { is_filled = true }

-- the name stands at this place of the names
pub record IsAt (names : List (List ℕ)) (name : List ℕ) (index : ℕ) : Type 0 where
  pub within : index < length names
  pub is : slice_index_or names index [] ≡ name

-- the name is not there, and belongs between those before this place and the others
pub record BelongsAt (names : List (List ℕ)) (name : List ℕ) (index : ℕ) : Type 0 where
  pub within : index ≤ length names
  pub below : (k : ℕ) → k < index → digest_cmp (slice_index_or names k []) name ≡ Less
  pub above : (k : ℕ) → index ≤ k → k < length names → digest_cmp (slice_index_or names k []) name ≡ Greater

-- the slots are sorted by digest, and their extents are those in use in the region: apart, inside, and beside its free units
pub record AreLaidOut (region : RegionState) (slots : List Slot) : Type 0 where
  pub sorted : IsStrictlySortedBy digest_cmp (map digest_of slots)
  pub apart : AreApart (map extent_of_slot slots)
  pub inside : All (λ slot. slot.at + units_of slot.size ≤ region.units) slots
  pub beside : IsFreeBeside region (map extent_of_slot slots)

-- the bytes of a slot are there, and have its digest
pub record IsThere (bytes : List ℕ) (slot : Slot) : Type 0 where
  pub within : slot.at * 64 + slot.size ≤ length bytes
  pub named : sha256 (part_of bytes slot) ≡ slot.digest

-- the bytes of each slot that is filled are there
abbrev pub AreThere : List ℕ → List Slot → Type 0
AreThere bytes slots = All (λ slot. OnTrue slot.is_filled (IsThere bytes slot)) slots

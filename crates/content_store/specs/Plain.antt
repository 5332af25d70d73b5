-- What contracts see of a content store, and what its calls answer.
use Rattle.std.specs.Prelude.{ℕ, nat_le, List, map, length, Option, if◌then◌else◌}
use Rattle.std.specs.Option.{option_map_or}
use Rattle.sha2.specs.Sha256.{sha256}
use Rattle.blob_rows.specs.Places.{least_place}
use Rattle.blob_rows.specs.Extents.{extent_at}
use Rattle.blob_rows.specs.declared.held.Held.{Held}
use Rattle.blob_rows.specs.declared.held.Held.TheVariants.{Placed, Present, NoNames, NoRoom}
use Rattle.blob_rows.specs.declared.filled.Filled.{Filled}
use Rattle.blob_rows.specs.declared.filled.Filled.TheVariants.{Done, Differs, Unknown}
use Rattle.blob_rows.specs.BlobRows.{units_of}
use Rattle.blob_rows.specs.Digests.{same_digest}
use Rattle.content_store.specs.Contents.{Content, extent_of, is_held, is_held_with_size, unfilled_content, with_content, filled_with}

-- a region of so many units, at most so many names, and what is held, sorted by digest
pub record ContentStoreState : Type 0 where
  pub units : ℕ
  pub names : ℕ
  pub held : List Content

-- where a content of this size finds its place
abbrev pub place_for : ContentStoreState → ℕ → Option ℕ
place_for store size = least_place (map extent_of store.held) store.units (units_of size)

-- what becomes of a name that is to be held
abbrev pub hold_result : ContentStoreState → List ℕ → ℕ → Held
hold_result store digest size =
    if is_held store.held digest then Present
    else if nat_le store.names (length store.held) then NoNames
    else option_map_or (λ at. Placed (extent_at (units_of size) at)) (place_for store size) NoRoom

-- what is held after that answer, where the name was given this number
abbrev pub held_after_hold : Held → List ℕ → ℕ → ℕ → List Content → List Content
held_after_hold (Placed extent) digest size number held = with_content (unfilled_content digest size number extent) held
held_after_hold Present digest size number held = held
held_after_hold NoNames digest size number held = held
held_after_hold NoRoom digest size number held = held

-- what becomes of bytes that are brought under a name
abbrev pub fill_result : List Content → List ℕ → List ℕ → Filled
fill_result held digest bytes =
    if same_digest (sha256 bytes) digest
    then (if is_held_with_size held digest (length bytes) then Done else Unknown)
    else Differs (sha256 bytes)

-- what is held after that answer
abbrev pub held_after_fill : Filled → List ℕ → List ℕ → List Content → List Content
held_after_fill Done digest bytes held = map (filled_with digest bytes) held
held_after_fill Unknown digest bytes held = held
held_after_fill (Differs actual) digest bytes held = held

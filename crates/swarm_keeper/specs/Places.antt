-- What a store in memory has of each folder and pool.
use Rattle.std.specs.Prelude.{◌≡◌, ℕ, ◌<◌, length, take, slice_index_or, Bool, true, false, List, [], ◌∷◌, Option, Some, None, if◌then◌else◌}
use Rattle.std.specs.List.{list_any}
use Rattle.swarm_keeper.specs.Tables.{Tables, nothing}
use Rattle.swarm_keeper.specs.Stores.{is_at, with_tables}
use Rattle.swarm_keeper.specs.declared.memory_store.Place.{Place}

abbrev pub is_place : List ℕ → List ℕ → Place → Bool
is_place folder pool place = is_at folder pool place.folder place.pool

-- the tables in the first place of a folder and pool
abbrev pub tables_in : List Place → List ℕ → List ℕ → Tables
tables_in [] folder pool = nothing
tables_in (place ∷ places) folder pool = if is_place folder pool place then place.tables else tables_in places folder pool

abbrev pub has_place : List Place → List ℕ → List ℕ → Bool
has_place places folder pool = list_any (is_place folder pool) places

-- the place at this index is of the folder and pool, and none before it is
pub record IsFirst (places : List Place) (folder pool : List ℕ) (at : ℕ) : Type 0 where
  pub inside : at < length places
  pub none_before : has_place (take at places) folder pool ≡ false
  pub there : (place : Place) → is_place folder pool (slice_index_or places at place) ≡ true

-- where the first place of a folder and pool stands, if there is one
abbrev pub FindsPlace : List Place → List ℕ → List ℕ → Option ℕ → Type 0
FindsPlace places folder pool None = has_place places folder pool ≡ false
FindsPlace places folder pool (Some at) = IsFirst places folder pool at

-- the tables of a folder and pool are others, and all else is the same
pub record IsReplaced (old new : List Place) (folder pool : List ℕ) (tables found : Tables) : Type 0 where
  pub told : found ≡ tables_in old folder pool
  pub kept : tables_in new ≡ with_tables folder pool tables (tables_in old)
  pub places : has_place new ≡ has_place old
  pub there : has_place old folder pool ≡ true

-- a folder and pool has a place, with these tables, and what has a place keeps it
pub record IsKept (old new : List Place) (folder pool : List ℕ) (tables : Tables) : Type 0 where
  pub kept : tables_in new ≡ with_tables folder pool tables (tables_in old)
  pub there : has_place new folder pool ≡ true
  pub places : (other_folder other_pool : List ℕ) → has_place old other_folder other_pool ≡ true → has_place new other_folder other_pool ≡ true

-- the tables of a folder and pool are taken, and it has a place
pub record IsTaken (old new : List Place) (folder pool : List ℕ) (taken : Tables) : Type 0 where
  pub told : taken ≡ tables_in old folder pool
  pub kept : tables_in new ≡ with_tables folder pool nothing (tables_in old)
  pub there : has_place new folder pool ≡ true
  pub places : (other_folder other_pool : List ℕ) → has_place old other_folder other_pool ≡ true → has_place new other_folder other_pool ≡ true

-- what is changed is the place of the folder and pool, if it has one
abbrev pub Replaces : List Place → List Place → List ℕ → List ℕ → Tables → Option Tables → Type 0
Replaces old new folder pool tables None = (has_place old folder pool ≡ false) × (new ≡ old)
Replaces old new folder pool tables (Some before) = IsReplaced old new folder pool tables before

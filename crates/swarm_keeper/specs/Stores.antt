-- What a store keeps, and how it hands out keepers and takes them back.
use Rattle.std.specs.Prelude.{◌≡◌, ◌==◌, ◌&&◌, slice_set, ℕ, Bool, false, IsTrue, List, Option, Some, None, option_map, IfSome, if◌then◌else◌, MatchBool}
use Rattle.dimensions.specs.Alike.{same}
use Rattle.sw_base.specs.Faults.{Rose}
use Rattle.sw_base.specs.declared.start_fault.StartFault.{StartFault}
use Rattle.sw_base.specs.declared.start_fault.StartFault.TheVariants as start
use Rattle.swarm_keeper.specs.Tables.{Tables, nothing}

-- What is kept of each folder and pool, and which of them have a place in the store, where the store tells it; and how
-- often a call of it failed.
pub record StoreState : Type 0 where
  pub kept : Option (List ℕ → List ℕ → Tables)
  pub places : Option (List ℕ → List ℕ → Bool)
  pub faults : ℕ

-- a store that keeps nothing, as it is made
abbrev pub new_store : StoreState
new_store = record { kept = Some (λ folder pool. nothing); places = Some (λ folder pool. false); faults = 0 }

-- a store that tells nothing, as it is made
abbrev pub untold_store : StoreState
untold_store = record { kept = None; places = None; faults = 0 }

abbrev pub is_at : List ℕ → List ℕ → List ℕ → List ℕ → Bool
is_at folder pool other_folder other_pool = same other_folder folder && same other_pool pool

-- what is kept, with these tables of the folder and pool
abbrev pub with_tables : List ℕ → List ℕ → Tables → (List ℕ → List ℕ → Tables) → List ℕ → List ℕ → Tables
with_tables folder pool t kept other_folder other_pool =
    if is_at folder pool other_folder other_pool then t else kept other_folder other_pool

-- what is kept, with a text in the place of a line of the folder and pool
abbrev pub with_line : List ℕ → List ℕ → ℕ → List ℕ → (List ℕ → List ℕ → Tables) → List ℕ → List ℕ → Tables
with_line folder pool at line kept = with_tables folder pool (record (kept folder pool) { lines = slice_set (kept folder pool).lines at line }) kept

-- the folder and pool have a place
abbrev pub HasPlace : StoreState → List ℕ → List ℕ → Type 0
HasPlace store folder pool = IfSome store.places (λ places. IsTrue (places folder pool))

-- what has a place keeps it
abbrev pub PlacesStay : StoreState → StoreState → Type 0
PlacesStay old new = (folder pool : List ℕ) → HasPlace old folder pool → HasPlace new folder pool

-- a keeper has what was kept of the folder and pool, which is then in the store no more, and has not failed
pub record IsAttached (old new : StoreState) (folder pool : List ℕ) (tables : Option Tables) (faults : ℕ) : Type 0 where
  pub told : tables ≡ option_map (λ kept. kept folder pool) old.kept
  pub unfailed : faults ≡ 0
  pub kept : new.kept ≡ option_map (with_tables folder pool nothing) old.kept
  pub place : HasPlace new folder pool
  pub same_faults : new.faults ≡ old.faults

-- nothing is attached: without memory all stays, and a failed call is counted
abbrev pub NotAttached : StoreState → StoreState → StartFault → Type 0
NotAttached old new start.Memory = new ≡ old
NotAttached old new start.Failed = (new.kept ≡ old.kept) × Rose old.faults new.faults

-- the store has the tables of a keeper again; a failure is counted where the keeper has failed
pub record Detaches (old new : StoreState) (folder pool : List ℕ) (tables : Option Tables) (faults : ℕ) : Type 0 where
  pub kept : IfSome tables (λ t. new.kept ≡ option_map (with_tables folder pool t) old.kept)
  pub counted : MatchBool (faults == 0) (old.faults ≡ new.faults) (Rose old.faults new.faults)

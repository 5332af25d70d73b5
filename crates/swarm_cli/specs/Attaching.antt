-- The keepers of a server's pools, attached one after the other, and given back.
use Rattle.std.specs.Prelude.{◌≡◌, ◌==◌, ◌+◌, ℕ, Bool, false, List, [], ◌∷◌, ◌++◌, map, Option, None, option_map, is_some, IsSome, IfSome, IsSomeAnd, IsTrue, MatchBool}
use Rattle.std.specs.List.{list_any, list_all, AllByRecursion}
use Rattle.sw_base.specs.Faults.{Rose}
use Rattle.swarm_cli.specs.Types.{StartFault, PoolSettings}
use Rattle.sw_base.specs.declared.start_fault.StartFault.TheVariants as start
use Rattle.swarm_keeper.specs.Tables.{Tables}
use Rattle.swarm_keeper.specs.Stores.{StoreState, HasPlace, IsAttached, is_at}

-- what is kept of each folder and pool
abbrev pub Kept : Type 0
Kept = List ℕ → List ℕ → Tables

-- the records of a pool in the folder, where a store tells them
abbrev pub told_of : Option Kept → List ℕ → PoolSettings → Option Tables
told_of told folder pool = option_map (λ kept. kept folder pool.name) told

-- the records of each pool, in their order
abbrev pub told_records : Option Kept → List ℕ → List PoolSettings → List (Option Tables)
told_records told folder pools = map (told_of told folder) pools

-- a folder and a name are those of one of the pools' records
abbrev pub is_one_of : List ℕ → List PoolSettings → List ℕ → List ℕ → Bool
is_one_of folder pools other_folder other_name = list_any (λ pool. is_at folder pool.name other_folder other_name) pools

-- where a store tells what it keeps, it goes on telling, and all but the pools' records stay
abbrev pub KeepsOthers : List ℕ → List PoolSettings → Option Kept → Option Kept → Type 0
KeepsOthers folder pools old new = IfSome old (λ before. IsSomeAnd new (λ after.
    (other_folder other_name : List ℕ) → is_one_of folder pools other_folder other_name ≡ false → after other_folder other_name ≡ before other_folder other_name))

-- a count of faults rose where the keepers' is not 0, and else is the same
abbrev pub CountsKeepers : ℕ → ℕ → ℕ → Type 0
CountsKeepers faults old new = MatchBool (faults == 0) (old ≡ new) (Rose old new)

-- one more keeper was handed out
pub record AttachesOne (old new : StoreState) (folder name : List ℕ) (tables_before tables_after : List (Option Tables)) (faults_before faults_after : ℕ) : Type 0 where
  pub tables : Option Tables
  pub faults : ℕ
  pub attached : IsAttached old new folder name tables faults
  pub tables_are : tables_after ≡ tables_before ++ tables ∷ []
  pub faults_are : faults_after ≡ faults_before + faults

-- keepers were handed out for the pools, which have what was kept of each, and of which none has failed
pub record AttachesAll (old new : StoreState) (folder : List ℕ) (pools : List PoolSettings) (tables : List (Option Tables)) (faults : ℕ) : Type 0 where
  pub told : tables ≡ told_records old.kept folder pools
  pub untold : old.kept ≡ None → new.kept ≡ None
  pub unfailed : faults ≡ 0
  pub places : AllByRecursion (λ pool. HasPlace new folder pool.name) pools
  pub others : KeepsOthers folder pools old.kept new.kept
  pub same_faults : new.faults ≡ old.faults

-- the keepers of the pools were taken back, which had these tables; where all of them are told, the store has them again
pub record DetachesAll (old new : StoreState) (folder : List ℕ) (pools : List PoolSettings) (tables : List (Option Tables)) (faults : ℕ) : Type 0 where
  pub told : IsSome old.kept → IsTrue (list_all is_some tables) → told_records new.kept folder pools ≡ tables
  pub others : IsTrue (list_all is_some tables) → KeepsOthers folder pools old.kept new.kept
  pub counted : CountsKeepers faults old.faults new.faults

-- nothing is attached: what the store tells is as it was, and a failed call is counted
pub record AttachesNone (old new : StoreState) (fault : StartFault) : Type 0 where
  pub kept : IsSome old.kept → new.kept ≡ old.kept
  pub failed : fault ≡ start.Failed → Rose old.faults new.faults

-- What an entry, and the end of a task, change of the uses of digests.
use Rattle.std.specs.Prelude.{◌≡◌, ℕ, ◌+◌, ◌≤◌, ◌<◌, ◌^◌, ⊤, List, Option, Some, IfSome}
use Rattle.std.specs.List.{All}
use Rattle.std.specs.Option.{option_map_or}
use Rattle.swarm_machine.specs.Types.{Slice, Chunk, EntryKind, UseLink}
use Rattle.swarm_model.specs.declared.entry.EntryKind.TheVariants as kind
use Rattle.pool_index.specs.Uses.{uses_of, IsListed}
use Rattle.index_laws.specs.TaskUses.{uses_of_slices, chunk_use}

-- ---- what is listed before an entry

-- the digest of each input of a slice is listed
abbrev pub AreInputsListed : List UseLink → Slice → Type 0
AreInputsListed links slice = All (λ file. IsListed links file.digest) slice.properties.inputs

-- the digests that an entry of this kind brings are listed; that of a chunk also where it does not go on
abbrev pub AreListedFor : List UseLink → EntryKind → Type 0
AreListedFor links (kind.New t who request state slice from) = All (AreInputsListed links) request.task_slices
AreListedFor links (kind.Update b t try_no chunk last) = IfSome chunk (λ c. IsListed links c.digest)
AreListedFor links entry = ⊤

-- ---- what an entry brings

-- a chunk that goes on from the output is the entry's own
abbrev pub IsChunkOf : EntryKind → Option Chunk → Type 0
IsChunkOf (kind.Update b t try_no chunk last) fresh = IfSome fresh (λ c. chunk ≡ Some c)
IsChunkOf entry fresh = ⊤

-- one use of the digest of a chunk, where there is one
abbrev pub uses_of_chunk : Option Chunk → List ℕ → ℕ
uses_of_chunk chunk digest = option_map_or (chunk_use digest) chunk 0

-- the uses that an entry of this kind brings, whose chunk, where it goes on from the output, is given
abbrev pub uses_brought : Option Chunk → EntryKind → List ℕ → ℕ
uses_brought fresh (kind.New t who request state slice from) digest = uses_of_slices digest request.task_slices
uses_brought fresh (kind.Update b t try_no chunk last) digest = uses_of_chunk fresh digest
uses_brought fresh entry digest = 0

-- ---- how counts change

-- each digest has so many uses more
pub record AddsUses (more : List ℕ → ℕ) (old new : List UseLink) : Type 0 where
  pub gained : (digest : List ℕ) → uses_of new digest ≡ uses_of old digest + more digest

-- each digest has so many uses less
pub record RemovesUses (less : List ℕ → ℕ) (old new : List UseLink) : Type 0 where
  pub lost : (digest : List ℕ) → uses_of new digest + less digest ≡ uses_of old digest

-- so many uses more can be counted
pub record HasRoomFor (more : List ℕ → ℕ) (links : List UseLink) : Type 0 where
  pub small : (digest : List ℕ) → uses_of links digest + more digest < 2 ^ 32

-- each digest has so many uses at least
pub record HasUsesFor (less : List ℕ → ℕ) (links : List UseLink) : Type 0 where
  pub used : (digest : List ℕ) → less digest ≤ uses_of links digest

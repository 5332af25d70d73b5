-- What a keeper keeps.
use Rattle.std.specs.Prelude.{◌≡◌, ◌≢◌, ℕ, Bool, not, ◌≤◌, IsTrue, List, [], ◌∷◌, ◌++◌, Option, Some, None, option_map, Result, Err}
use Rattle.std.specs.List.{find, filter}
use Rattle.dimensions.specs.Alike.{same}
use Rattle.sw_base.specs.Faults.{Rose}
use Rattle.swarm_keeper.specs.declared.keeper.KeeperFault.{KeeperFault}
use Rattle.swarm_keeper.specs.declared.keeper.KeeperFault.TheVariants.{Failed}

-- The lines of a base, how many entries came before it, the lines of the log since then, and the bytes of blobs by their
-- digests. Tables of the first version have neither a base nor a count: they are those with no lines of a base and the
-- count 0.
pub record Tables : Type 0 where
  pub base : List (List ℕ)
  pub count : ℕ
  pub lines : List (List ℕ)
  pub blobs : List (List ℕ × List ℕ)

abbrev pub nothing : Tables
nothing = record { base = []; count = 0; lines = []; blobs = [] }

abbrev pub is_of : List ℕ → List ℕ × List ℕ → Bool
is_of digest blob = same blob.0 digest

abbrev pub is_other : List ℕ → List ℕ × List ℕ → Bool
is_other digest blob = not (same blob.0 digest)

-- the bytes of a digest
abbrev pub bytes_of : List (List ℕ × List ℕ) → List ℕ → Option (List ℕ)
bytes_of blobs digest = option_map (λ blob. blob.1) (find (is_of digest) blobs)

-- without the blob that is removed
abbrev pub without : Option (List ℕ) → List (List ℕ × List ℕ) → List (List ℕ × List ℕ)
without None blobs = blobs
without (Some digest) blobs = filter (is_other digest) blobs

-- with the blob that is added, in place of one of its name
abbrev pub with_blob : Option (List ℕ) → List ℕ → List (List ℕ × List ℕ) → List (List ℕ × List ℕ)
with_blob None bytes blobs = blobs
with_blob (Some digest) bytes blobs = filter (is_other digest) blobs ++ (digest, bytes) ∷ []

abbrev pub appended : List ℕ → Option (List ℕ) → List ℕ → Option (List ℕ) → Tables → Tables
appended line add bytes remove t = record t { lines = t.lines ++ line ∷ []; blobs = with_blob add bytes (without remove t.blobs) }

-- another base before which so many entries came, and no lines; the blobs stay
abbrev pub replaced : List (List ℕ) → ℕ → Tables → Tables
replaced base count t = record t { base = base; count = count; lines = [] }

-- a count never falls; a failure raises it, and a sure keeper has none
pub record Counts {A : Type 0} (sure : Bool) (old new : ℕ) (result : Result A KeeperFault) : Type 0 where
  pub never_falls : old ≤ new
  pub failed : result ≡ Err Failed → Rose old new
  pub none : IsTrue sure → new ≡ old
  pub sure_never : IsTrue sure → result ≢ Err Failed

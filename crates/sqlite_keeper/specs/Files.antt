-- What stands in the file of a pool, and what its records know of it.
use Rattle.std.specs.Prelude.{◌≡◌, ◌==◌, ◌&&◌, ◌<◌, ◌-◌, suc, ℕ, Bool, List, [], ◌∷◌, ◌++◌, ⊤, option_copied, length, take, Option, Some, None, option_map, Result, Ok, Err, IfSome, ◌⊎◌}
use Rattle.sqlite.specs.declared.error.Error.{Error}
use Rattle.swarm_keeper.specs.Tables.{Tables, bytes_of, without, with_blob}
use Rattle.sqlite_keeper.specs.declared.changes.Change.{Change}
use Rattle.sqlite_keeper.specs.declared.changes.BlobChange.{BlobChange}
use Rattle.sqlite_keeper.specs.declared.changes.LineChange.{LineChange}
use Rattle.sqlite_keeper.specs.declared.changes.LineChange.TheVariants.{Add, DropLast}
use Rattle.sqlite_keeper.specs.declared.known.Known.{Known}
use Rattle.sqlite_keeper.specs.declared.known.BlobBefore.{BlobBefore}
use Rattle.sqlite_keeper.specs.declared.known.Begun.{Begun}
use Rattle.sqlite_keeper.specs.declared.standing.Standing.{Standing}
use Rattle.sqlite_keeper.specs.declared.standing.Standing.TheVariants.{Open, Shut, Lost}

-- the same tables, but for the order of their blobs
pub record Alike (a b : Tables) : Type 0 where
  pub base : a.base ≡ b.base
  pub count : a.count ≡ b.count
  pub lines : a.lines ≡ b.lines
  pub bytes : (digest : List ℕ) → bytes_of a.blobs digest ≡ bytes_of b.blobs digest

-- how much is known of tables
pub record Knows (known : Known) (t : Tables) : Type 0 where
  pub count : known.count ≡ t.count
  pub base_lines : known.base_lines ≡ length t.base
  pub lines : known.lines ≡ length t.lines

abbrev pub has_numbers_of : Known → Known → Bool
has_numbers_of a b = a.count == b.count && a.base_lines == b.base_lines && a.lines == b.lines

-- a call in one transaction: where it fails, all of it may stand, or nothing
abbrev pub Changes : Result (Unit {0}) Error → Option Tables → Option Tables → (Tables → Tables) → Type 0
Changes (Ok done) before after call = after ≡ option_map call before
Changes (Err error) before after call = (after ≡ before) ⊎ (after ≡ option_map call before)

-- blobs with these bytes of a digest, or without it
abbrev pub with_bytes : List ℕ → Option (List ℕ) → List (List ℕ × List ℕ) → List (List ℕ × List ℕ)
with_bytes digest None blobs = without (Some digest) blobs
with_bytes digest (Some bytes) blobs = with_blob (Some digest) bytes blobs

abbrev pub put_back : Option BlobBefore → List (List ℕ × List ℕ) → List (List ℕ × List ℕ)
put_back None blobs = blobs
put_back (Some blob) blobs = with_bytes blob.digest blob.bytes blobs

abbrev pub put : Option BlobChange → List (List ℕ × List ℕ) → List (List ℕ × List ℕ)
put None blobs = blobs
put (Some blob) blobs = with_bytes blob.digest (option_copied blob.bytes) blobs

-- with one more line, or without the last
abbrev pub line_changed : LineChange → List (List ℕ) → List (List ℕ)
line_changed (Add line) lines = lines ++ line.now ∷ []
line_changed (DropLast number) lines = take (number - 1) lines

-- a line that is dropped is the last one, by its number
abbrev pub IsLast : LineChange → ℕ → Type 0
IsLast (Add line) lines = ⊤
IsLast (DropLast number) lines = number ≡ lines

abbrev pub changed_by : Change → Tables → Tables
changed_by change t = record t { lines = line_changed change.line t.lines; blobs = put change.second (put change.first t.blobs) }

-- without the last line, and with the blobs of before
abbrev pub taken_out : Begun → Tables → Tables
taken_out begun t = record t { lines = take (length t.lines - 1) t.lines; blobs = put_back begun.removed (put_back begun.added t.blobs) }

-- what tables have of a blob
abbrev pub blob_before : Tables → List ℕ → BlobBefore
blob_before t digest = record { digest = digest; bytes = bytes_of t.blobs digest }

-- what is kept of a call that adds a line as it begins
pub record Begins (begun : Begun) (known : Known) (add remove : Option (List ℕ)) (t : Tables) : Type 0 where
  pub count : begun.known.count ≡ known.count
  pub base_lines : begun.known.base_lines ≡ known.base_lines
  pub lines : begun.known.lines ≡ suc known.lines
  pub added : begun.added ≡ option_map (blob_before t) add
  pub removed : begun.removed ≡ option_map (blob_before t) remove

-- where what stands has the line of a call that failed, it can be taken out
pub record CanTakeOut (known : Known) (stands kept : Tables) (begun : Begun) : Type 0 where
  pub more : known.lines < begun.known.lines
  pub taken : Knows begun.known stands → Alike (taken_out begun stands) kept

-- a file that is open has what was kept
pub record IsOpen (known : Known) (begun : Option Begun) (stands kept : Tables) : Type 0 where
  pub knows : Knows known kept
  pub alike : Alike stands kept
  pub unbegun : begun ≡ None

-- one that is shut has it where it has as much, or with the line of the call that failed
pub record IsShut (known : Known) (begun : Option Begun) (stands kept : Tables) : Type 0 where
  pub knows : Knows known kept
  pub alike : Knows known stands → Alike stands kept
  pub can : IfSome begun (CanTakeOut known stands kept)

-- of one that is lost nothing more is said
abbrev pub Holds : Standing → Known → Option Begun → Tables → Tables → Type 0
Holds Open known begun stands kept = IsOpen known begun stands kept
Holds Shut known begun stands kept = IsShut known begun stands kept
Holds Lost known begun stands kept = Unit {0}

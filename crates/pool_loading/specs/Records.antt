-- Kept records, and the machine that they are loaded into.
use Rattle.std.specs.Prelude.{◌≡◌, ◌⊎◌, ℕ, List, [], ◌∷◌, ◌++◌, length, map, take, slice_get, Option, Some, None, option_map, IfSome, IsSomeAnd, IsTrue, is_some, Result, Ok, Err}
use Rattle.std.specs.List.{All}
use Rattle.pool_loading.specs.Types.{Text, Done, BlobRow, PoolSettings, PoolState, Entry, BaseRows}
use Rattle.swarm_keeper.specs.Tables.{Tables, bytes_of}
use Rattle.swarm_model.specs.BaseRules.{IsBase}
use Rattle.swarm_model.specs.Bases.{Base}
use Rattle.swarm_model.specs.Bytes.{filled}
use Rattle.swarm_model.specs.History.{replay, IsLegal}
use Rattle.swarm_model.specs.MachineState.{MachineState, IsHistory}
use Rattle.entry_lines.specs.Lines.{entry_of_line}
use Rattle.base_lines.specs.Reading.{read_lines, base_of}
use Rattle.pool_loading.specs.declared.store_part.StorePart.{StorePart}
use Rattle.pool_loading.specs.declared.store_part.StorePart.TheVariants as part

-- ---- where the log begins

-- as rows of a pool, where each line was read
abbrev pub rows_told : PoolSettings → Result BaseRows ℕ → Option PoolState
rows_told settings (Ok rows) = Some (base_of settings rows)
rows_told settings (Err at) = None

-- the rows that the lines of a base tell, of a pool with these settings; no lines tell a pool without rows
abbrev pub base_in : PoolSettings → List Text → Option PoolState
base_in settings lines = rows_told settings (read_lines lines)

-- the rows that are told are those from which a pool of these settings may open, after so many entries
pub record HasBase (settings : PoolSettings) (t : Tables) (base : PoolState) : Type 0 where
  pub told : base_in settings t.base ≡ Some base
  pub is_base : IsBase settings t.count base

-- they are not
pub record HasNoBase (settings : PoolSettings) (t : Tables) : Type 0 where
  pub rows : PoolState
  pub told : base_in settings t.base ≡ Some rows
  pub no_base : IsBase settings t.count rows → ⊥

-- ---- the log since

-- the lines are those of the log's entries, in order
abbrev pub AreLinesOf : List (List ℕ) → List Entry → Type 0
AreLinesOf lines log = map entry_of_line lines ≡ map Some log

-- the records are those of a machine: those of where its log begins, its lines, and the bytes of its blobs
pub record AreRecords (kept : MachineState) (t : Tables) : Type 0 where
  pub base : base_in kept.pool.settings t.base ≡ Some kept.start.rows
  pub count : t.count ≡ kept.start.count
  pub lines : AreLinesOf t.lines kept.log
  pub blobs : (digest : List ℕ) → IsTrue (is_some (kept.held digest)) → bytes_of t.blobs digest ≡ kept.held digest

-- the bytes that are held of a blob are its own: those of its digest and size
abbrev pub IsFilled : MachineState → BlobRow → Type 0
IsFilled kept row = option_map (filled kept.pool row.digest) (kept.held row.digest) ≡ Some Done

-- so it is with each blob
abbrev pub AreFilled : MachineState → Type 0
AreFilled kept = All (IsFilled kept) kept.pool.blobs

-- a machine of these settings was made of the records
pub record IsLoaded (settings : PoolSettings) (tables : Option Tables) (kept : MachineState) : Type 0 where
  pub settings_are : kept.pool.settings ≡ settings
  pub history : IsHistory kept
  pub held : AreFilled kept
  pub records : IfSome tables (AreRecords kept)

-- the line is of no entry that is legal at the end of the log
abbrev pub IsRefused : PoolState → List Entry → List ℕ → Type 0
IsRefused base log line = (entry : Entry) → entry_of_line line ≡ Some entry → IsLegal base (log ++ entry ∷ []) → ⊥

-- the lines before are those of a legal log, and the line at this place is of no entry that is legal there
pub record IsFirstRefused (base : PoolState) (lines : List (List ℕ)) (at : ℕ) : Type 0 where
  pub log : List Entry
  pub read : AreLinesOf (take at lines) log
  pub legal : IsLegal base log
  pub line : List ℕ
  pub there : slice_get lines at ≡ Some line
  pub refused : IsRefused base log line

-- bytes are kept under the digest, and they are those of a blob of the pool
abbrev pub HasBytes : Tables → PoolState → List ℕ → Type 0
HasBytes t s digest = IsSomeAnd (bytes_of t.blobs digest) (λ bytes. filled s digest bytes ≡ Done)

-- all lines are those of a legal log, and some blob that it leaves has not its bytes
pub record LacksBytes (base : PoolState) (t : Tables) : Type 0 where
  pub log : List Entry
  pub read : AreLinesOf t.lines log
  pub legal : IsLegal base log
  pub place : ℕ
  pub row : BlobRow
  pub there : slice_get (replay base log).blobs place ≡ Some row
  pub without : HasBytes t (replay base log) row.digest → ⊥

-- ---- which records are refused

-- The first line of the base that is none of its place is at this place; or none is, there are so many, and what they
-- tell is no base. Where they tell one, the first line of the log that is refused is at this place; or none is, there
-- are so many, and a blob lacks its bytes.
abbrev pub AreRefusedAt : PoolSettings → Tables → StorePart → ℕ → Type 0
AreRefusedAt settings t part.Base at = (read_lines t.base ≡ Err at) ⊎ ((at ≡ length t.base) × HasNoBase settings t)
AreRefusedAt settings t part.Lines at =
    (base : PoolState) × HasBase settings t base × (IsFirstRefused base t.lines at ⊎ ((at ≡ length t.lines) × LacksBytes base t))

-- ---- what the next start finds

-- the machine's log begins there and is this one, and its rows are those to which they lead
pub record HasHistory (start : Base) (log : List Entry) (kept : MachineState) : Type 0 where
  pub begins : kept.start ≡ start
  pub log_is : kept.log ≡ log
  pub rows : kept.pool ≡ replay start.rows log

-- The records are refused at no place; each machine that is made of them has this history; and each blob that it leaves
-- has its bytes in them.
pub record Restores (settings : PoolSettings) (start : Base) (log : List Entry) (t : Tables) : Type 0 where
  pub accepted : (which : StorePart) (at : ℕ) → AreRefusedAt settings t which at → ⊥
  pub same : (kept : MachineState) → IsLoaded settings (Some t) kept → HasHistory start log kept
  pub bytes : All (λ row. HasBytes t (replay start.rows log) row.digest) (replay start.rows log).blobs

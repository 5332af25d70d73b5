-- How the blobs of a machine get their bytes.
use Rattle.std.specs.Prelude.{◌≡◌, ◌<◌, ℕ, List, Option, Some, IfSome, IsTrue, is_some, slice_get}
use Rattle.pool_loading.specs.Types.{BlobRow, Done, PoolState}
use Rattle.swarm_keeper.specs.Tables.{Tables, bytes_of}
use Rattle.swarm_model.specs.Bytes.{HeldBytes, filled, with_bytes}
use Rattle.swarm_model.specs.MachineState.{MachineState}
use Rattle.pool_loading.specs.Records.{HasBytes, IsFilled}

-- rows and log stay, and where the log begins
pub record KeepsLog (old new : MachineState) : Type 0 where
  pub start : new.start ≡ old.start
  pub pool : new.pool ≡ old.pool
  pub log : new.log ≡ old.log

-- what is held is in the tables
abbrev pub HoldsKept : HeldBytes → Tables → Type 0
HoldsKept held t = (digest : List ℕ) → IsTrue (is_some (held digest)) → bytes_of t.blobs digest ≡ held digest

-- the bytes of a blob are held beside what was held, and they are those in the tables
pub record HoldsMore (tables : Option Tables) (s : PoolState) (digest : List ℕ) (old new : HeldBytes) : Type 0 where
  pub bytes : List ℕ
  pub own : filled s digest bytes ≡ Done
  pub held : new ≡ with_bytes digest bytes old
  pub kept : IfSome tables (λ t. bytes_of t.blobs digest ≡ Some bytes)

-- the blobs before this place have their bytes, and what is held is in the tables
pub record IsFilledTo (tables : Option Tables) (at : ℕ) (kept : MachineState) : Type 0 where
  pub rows : (k : ℕ) (row : BlobRow) → k < at → slice_get kept.pool.blobs k ≡ Some row → IsFilled kept row
  pub held : IfSome tables (HoldsKept kept.held)

-- some blob of the pool has not its bytes in the tables
pub record LacksBlob (t : Tables) (s : PoolState) : Type 0 where
  pub place : ℕ
  pub row : BlobRow
  pub there : slice_get s.blobs place ≡ Some row
  pub without : HasBytes t s row.digest → ⊥

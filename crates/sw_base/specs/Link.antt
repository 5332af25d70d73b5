-- What calls on a link do to it.
use Rattle.std.specs.Prelude.{◌≡◌, ℕ, ◌+◌, ◌<◌, ◌≤◌, List, [], Option, Result, Ok, Err, length, take, IfOk, OnOk}
use Rattle.std.specs.Io.KnownBytes.{Consumes, Appends, IsAtEnd}
use Rattle.sw_base.specs.Faults.{CountsFault}

-- the bytes that a link has left to give, those written to it and those of them that were flushed, where it tells them,
-- and how often a read of it failed, and a write or flush
pub record LinkState : Type 0 where
  pub left : Option (List ℕ)
  pub written : Option (List ℕ)
  pub flushed : Option (List ℕ)
  pub read_faults : ℕ
  pub write_faults : ℕ

-- a link that never failed, with all that was written flushed
abbrev pub opened : Option (List ℕ) → Option (List ℕ) → LinkState
opened left written = record { left = left; written = written; flushed = written; read_faults = 0; write_faults = 0 }

-- a read or a write of it has failed
abbrev pub HasFailed : LinkState → Type 0
HasFailed link = 0 < link.read_faults + link.write_faults

-- all that was written is flushed
abbrev pub IsClean : LinkState → Type 0
IsClean s = s.flushed ≡ s.written

-- between two states of a link these bytes were taken from it and those were sent; it is not less clean where none were sent
pub record Moves (before after : LinkState) (taken sent : List ℕ) : Type 0 where
  pub read : Consumes before.left after.left taken
  pub written : Appends before.written after.written sent
  pub reads : before.read_faults ≤ after.read_faults
  pub writes : before.write_faults ≤ after.write_faults
  pub clean : sent ≡ [] → IsClean before → IsClean after

-- the side that is read stays as it is
pub record SameInput (before after : LinkState) : Type 0 where
  pub left : after.left ≡ before.left
  pub read_faults : after.read_faults ≡ before.read_faults

-- the side that is written stays as it is
pub record SameOutput (before after : LinkState) : Type 0 where
  pub written : after.written ≡ before.written
  pub flushed : after.flushed ≡ before.flushed
  pub write_faults : after.write_faults ≡ before.write_faults

-- no call on the link failed between these states
pub record NoFault (before after : LinkState) : Type 0 where
  pub reads : after.read_faults ≡ before.read_faults
  pub writes : after.write_faults ≡ before.write_faults

-- the first n bytes at Ok(n), and none at an error
abbrev pub moved : {E : Type 0} → Result ℕ E → List ℕ → List ℕ
moved (Ok n) bytes = take n bytes
moved (Err e) bytes = []

-- the first n bytes of `into` are the next n of the input, and none come only at its end; at an error nothing moved
pub record Reads {E : Type 0} (before after : LinkState) (result : Result ℕ E) (into : List ℕ) : Type 0 where
  pub bound : IfOk result (λ n. n ≤ length into)
  pub moves : Moves before after (moved result into) []
  pub end : IfOk result (λ n. n ≡ 0 → IsAtEnd after.left)
  pub faults : CountsFault result before.read_faults after.read_faults
  pub output : SameOutput before after

-- the first n bytes of `piece` were written, 1 at least; at an error nothing moved
pub record Writes {E : Type 0} (before after : LinkState) (result : Result ℕ E) (piece : List ℕ) : Type 0 where
  pub bound : IfOk result (λ n. (0 < n) × (n ≤ length piece))
  pub moves : Moves before after [] (moved result piece)
  pub faults : CountsFault result before.write_faults after.write_faults
  pub input : SameInput before after

-- all that was written is flushed, or the flush failed
pub record Flushes {T E : Type 0} (before after : LinkState) (result : Result T E) : Type 0 where
  pub moves : Moves before after [] []
  pub flushed : OnOk result (IsClean after)
  pub faults : CountsFault result before.write_faults after.write_faults
  pub input : SameInput before after

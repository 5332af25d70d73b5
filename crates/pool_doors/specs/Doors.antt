-- What a door tells, and what a call does to it.
use Rattle.std.specs.Prelude.{◌≡◌, ◌≢◌, ⊤, ℕ, Bool, true, false, ◌+◌, ◌≤◌, List, [], ◌∷◌, length, map, slice_get, Option, Some, None, option_map, is_some, Result, Ok, Err, IfSome, IsSomeAnd, IsTrue}
use Rattle.std.specs.List.{All, AllZip}
use Rattle.sha2.specs.Sha256.{sha256}
use Rattle.sw_base.specs.Faults.{Rose}
use Rattle.swarm_keeper.specs.Tables.{Tables}
use Rattle.swarm_model.specs.declared.pool_settings.Settings.{Settings}
use Rattle.swarm_model.specs.declared.pool_settings.PoolSettings.{PoolSettings}
use Rattle.swarm_model.specs.declared.entry.Entry.{Entry}
use Rattle.swarm_model.specs.declared.reply.Part.{Part}
use Rattle.swarm_model.specs.declared.reply.Reply.{Reply}
use Rattle.swarm_model.specs.declared.reply.Reply.TheVariants as reply
use Rattle.swarm_model.specs.declared.rule.Rule.{Rule}
use Rattle.swarm_model.specs.BaseRules.{IsBase}
use Rattle.swarm_model.specs.Bases.{Base, front}
use Rattle.swarm_model.specs.Finding.{blob_of}
use Rattle.swarm_model.specs.History.{replay}
use Rattle.swarm_model.specs.Points.{Call, Growth, IsPoint, IsStopped}
use Rattle.entry_lines.specs.Lines.{entry_of_line}
use Rattle.pool_doors.specs.declared.door.CallFault.{CallFault}
use Rattle.pool_doors.specs.declared.door.CallFault.TheVariants as fault
use Rattle.pool_doors.specs.declared.door.Answered.{Answered}

-- the log of each pool, by its place
abbrev pub Logs : Type 0
Logs = ℕ → List Entry

-- How a door writes: where the log at each place begins, the number that its entries bear there, and whether it writes to the logs
-- alone. And of the log at each place an identity, the numbers that were joined in the door's pass, and how many passes were made,
-- where that pass has the number 0: doors with one identity at a place write to one log. A door that writes alone tells none of that,
-- [], [] and 0.
pub record Writer : Type 0 where
  pub starts : ℕ → Base
  pub numbers : ℕ → ℕ
  pub alone : Bool
  pub logs : ℕ → List ℕ
  pub joined : ℕ → List ℕ
  pub made : ℕ → ℕ

-- The settings with which the door was made, the entries that it has seen of each pool, what its keepers
-- tell of each pool's records, in the order of the pools, how it writes, how often its keepers failed,
-- and how many calls were made on it.
pub record DoorState : Type 0 where
  pub settings : Settings
  pub seen : Logs
  pub records : List (Option Tables)
  pub writer : Writer
  pub faults : ℕ
  pub calls : ℕ

-- every other pool's log stays
abbrev pub Elsewhere : ℕ → Logs → Logs → Type 0
Elsewhere place old new = (p : ℕ) → p ≢ place → new p ≡ old p

-- where the records of a pool are told, each blob in them is one that the pool's log leaves
abbrev pub HasNoOthers : Base → Option Tables → List Entry → Type 0
HasNoOthers start told log = IfSome told (λ t. All (λ blob. IsTrue (is_some (blob_of (replay start.rows log) blob.0))) t.blobs)

-- this holds of the pool at a place
abbrev pub HasNoOthersAt : List PoolSettings → (ℕ → Base) → List (Option Tables) → Logs → ℕ → Type 0
HasNoOthersAt pools starts records logs place =
    IfSome (slice_get pools place) (λ pool. IfSome (slice_get records place) (λ told. HasNoOthers (starts place) told (logs place)))

-- wherever the records had no other blobs, they have none still
abbrev pub AddsNoOthers : DoorState → DoorState → Type 0
AddsNoOthers old new =
    (p : ℕ) → HasNoOthersAt old.settings.pools old.writer.starts old.records old.seen p → HasNoOthersAt new.settings.pools new.writer.starts new.records new.seen p

-- where the records of a pool are told, their lines are those of the log's entries, in order
abbrev pub HasLines : Option Tables → List Entry → Type 0
HasLines told log = IfSome told (λ t. map entry_of_line t.lines ≡ map Some log)

-- this holds of the pool at a place
abbrev pub HasLinesAt : List (Option Tables) → Logs → ℕ → Type 0
HasLinesAt records logs place = IfSome (slice_get records place) (λ told. HasLines told (logs place))

-- what records tell of where a log begins: the lines of the base, and how many entries led to it
abbrev pub base_told : Option Tables → Option (List (List ℕ) × ℕ)
base_told told = option_map (λ t. (t.base, t.count)) told

-- wherever the records had the lines of what was seen of the log, and no others, they have those of what is seen of it then;
-- and what they tell of where it begins stays
pub record KeepsRecords (old new : DoorState) : Type 0 where
  pub lines : (p : ℕ) → HasLinesAt old.records old.seen p → HasLinesAt new.records new.seen p
  pub bases : map base_told new.records ≡ map base_told old.records

-- bytes of the part's digest, as many as the part needs
abbrev pub IsPieceOf : Part → List ℕ → Type 0
IsPieceOf part piece = (sha256 piece ≡ part.digest) × (part.to ≤ length piece)

-- the bytes of the blobs that a reply names, in their order
abbrev pub ArePieces : Reply → List (List ℕ) → Type 0
ArePieces (reply.Stdout state parts) pieces = AllZip IsPieceOf parts pieces
ArePieces (reply.Blob digest size) pieces = (piece : List ℕ) × (pieces ≡ piece ∷ []) × (sha256 piece ≡ digest) × (length piece ≡ size)
ArePieces answered pieces = pieces ≡ []

abbrev pub is_log_full : CallFault → Bool
is_log_full fault.Memory = false
is_log_full fault.LogFull = true
is_log_full fault.Keeper = false

-- a call stops by its keeper only where the keepers' count of faults rose
abbrev pub CountsKeeper : Result Answered CallFault → ℕ → ℕ → Type 0
CountsKeeper (Err fault.Keeper) before now = Rose before now
CountsKeeper result before now = ⊤

-- the request is refused
abbrev pub IsRefusal : Reply → Type 0
IsRefusal answered = (why : Rule) × (answered ≡ reply.No why)

-- a request was answered at its point of the log; a refusal adds no entry of its own
pub record IsAnsweredCall (start : Base) (call : Call) (old new : List Entry) (growth : Growth) (answered : Answered) : Type 0 where
  pub point : IsPoint start call old new growth answered.reply
  pub refused : IsRefusal answered.reply → growth.own ≡ None
  pub front : answered.front ≡ front start new
  pub pieces : ArePieces answered.reply answered.pieces

-- a request was answered, or its call stopped
abbrev pub EndsAs : Base → Call → List Entry → List Entry → Growth → Result Answered CallFault → Type 0
EndsAs start call old new growth (Ok answered) = IsAnsweredCall start call old new growth answered
EndsAs start call old new growth (Err fault) = IsStopped start call old new growth (is_log_full fault)

-- one call of a pool, before which a door that writes alone adds nothing
pub record IsPoolCall (start : Base) (alone : Bool) (call : Call) (old new : List Entry) (growth : Growth) (result : Result Answered CallFault) : Type 0 where
  pub ends : EndsAs start call old new growth result
  pub no_others : IsTrue alone → growth.others ≡ []

-- one call, of the pool at a place
pub record IsCall (old new : DoorState) (place : ℕ) (call : Call) (result : Result Answered CallFault) : Type 0 where
  pub growth : Growth
  pub done : IsSomeAnd (slice_get old.settings.pools place) (λ pool. IsPoolCall (old.writer.starts place) old.writer.alone call (old.seen place) (new.seen place) growth result)
  pub elsewhere : Elsewhere place old.seen new.seen
  pub kept : KeepsRecords old new
  pub no_other_blobs : AddsNoOthers old new
  pub settings : new.settings ≡ old.settings
  pub writer : new.writer ≡ old.writer
  pub faults : old.faults ≤ new.faults
  pub keeper : CountsKeeper result old.faults new.faults
  pub calls : new.calls ≤ old.calls + 1

-- a door of these settings that has seen these logs, each of which begins from a base of its pool, writes alone, and was not called
pub record IsFreshDoor (settings : Settings) (logs : Logs) (door : DoorState) : Type 0 where
  pub settings_are : door.settings ≡ settings
  pub seen : (p : ℕ) → door.seen p ≡ logs p
  pub starts : (p : ℕ) → IfSome (slice_get settings.pools p) (λ pool. IsBase pool (door.writer.starts p).count (door.writer.starts p).rows)
  pub numbers : (p : ℕ) → door.writer.numbers p ≡ 0
  pub alone : IsTrue door.writer.alone
  pub calls : door.calls ≡ 0

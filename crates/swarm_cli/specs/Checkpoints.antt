-- The kept records of the pools, made to begin anew.
use Rattle.std.specs.Prelude.{◌≡◌, ℕ, ◌<◌, ◌^◌, List, ◌++◌, length, codes, decimal, string_bytes, slice_get, Option, Some, IsSome, IfSome, IsSomeAnd}
use Rattle.sw_base.specs.Faults.{Rose}
use Rattle.sw_base.specs.Link.{LinkState}
use Rattle.link_writer.specs.Printing.{Prints}
use Rattle.swarm_keeper.specs.Tables.{Tables}
use Rattle.swarm_keeper.specs.Stores.{StoreState}
use Rattle.swarm_cli.specs.Types.{Entry, Settings, PoolSettings, LoadFault, CheckpointFault, CheckpointWhy}
use Rattle.swarm_model.specs.Bases.{Base, front}
use Rattle.pool_doors.specs.Doors.{DoorState, IsFreshDoor}
use Rattle.pool_loading.specs.Records.{AreLinesOf}
use Rattle.pool_summaries.specs.Summaries.{fronts_of}
use Rattle.swarm_history.specs.Records.{AreKept, AreBasesOf, TellsStart, IsFirstBadRecord}
use Rattle.swarm_history.specs.Checkpoints.{IsCheckpointed, LeavesRestorable, anew}
use Rattle.swarm_history.specs.declared.load_fault.LoadFault.TheVariants as load
use Rattle.swarm_history.specs.declared.checkpoint_fault.CheckpointWhy.TheVariants as why
use Rattle.remote_commands.specs.Streams.{Streams, SameButConsole}
use Rattle.swarm_cli.specs.declared.checkpoint.CheckpointEnd.{CheckpointEnd}
use Rattle.swarm_cli.specs.declared.checkpoint.CheckpointEnd.TheVariants as end
use Rattle.swarm_cli.specs.Attaching.{Kept, told_records, KeepsOthers, CountsKeepers}
use Rattle.swarm_cli.specs.KeptRecords.{TellsFault, RunsUnserved}

-- ---- over keepers

-- a fresh door was made of the records of its pools
pub record IsMadeOf (settings : Settings) (records : List (Option Tables)) (door : DoorState) : Type 0 where
  pub fresh_door : IsFreshDoor settings door.seen door
  pub bases : AreBasesOf settings.pools records door.writer.starts
  pub lines : AreKept records door.seen
  pub records_are : door.records ≡ records

-- A door was made of the pools' records, and those of the pools before a place were made to begin anew: from the rows for
-- which they stood, after as many entries as there were. The others are as they were. The next start refuses none of them, and
-- finds in them these rows and no entries, and in the others what the door had.
pub record MakesAnew (settings : Settings) (place : ℕ) (records_before records_after : List (Option Tables)) : Type 0 where
  pub door : DoorState
  pub made_of : IsMadeOf settings records_before door
  pub makes : IsCheckpointed door place records_after
  pub restorable : LeavesRestorable door place records_after

-- so it is with all of them, and the text tells the front of each pool and how many tasks it has
pub record EndsMade (settings : Settings) (records_before records_after : List (Option Tables)) (text : List ℕ) : Type 0 where
  pub makes : MakesAnew settings (length settings.pools) records_before records_after
  pub text_is : text ≡ fronts_of settings.pools makes.door.writer.starts makes.door.seen

-- so it is with those before the place of a fault, which has its cause
pub record EndsStopped (settings : Settings) (records_before records_after : List (Option Tables)) (old_faults new_faults : ℕ) (fault : CheckpointFault) : Type 0 where
  pub makes : MakesAnew settings fault.place records_before records_after
  pub inside : fault.place < length settings.pools
  pub failed : fault.why ≡ why.Keeper → Rose old_faults new_faults
  pub too_long : fault.why ≡ why.CountFull → 2 ^ 31 < front (makes.door.writer.starts fault.place) (makes.door.seen fault.place)

-- no door was made, or there was no memory; the records are as they were
pub record EndsUnmade (settings : Settings) (records_before records_after : List (Option Tables)) (old_faults new_faults : ℕ) (fault : LoadFault) : Type 0 where
  pub bad : IsFirstBadRecord settings records_before fault
  pub failed : fault ≡ load.Failed → Rose old_faults new_faults
  pub same : records_after ≡ records_before

-- how a checkpoint over keepers ends, which have these records before and after, and have failed so often
abbrev pub EndsAs : CheckpointEnd → Settings → List (Option Tables) → List (Option Tables) → ℕ → ℕ → Type 0
EndsAs (end.Made text) settings before after m n = EndsMade settings before after (string_bytes text)
EndsAs (end.Stopped fault) settings before after m n = EndsStopped settings before after m n fault
EndsAs (end.Unmade fault) settings before after m n = EndsUnmade settings before after m n fault

-- ---- what is printed

-- the line for a pool whose front is above the most that a base may stand behind
abbrev pub count_line : ℕ → List ℕ
count_line place = codes "store " ++ (decimal place ++ codes " count\n")

abbrev pub TellsStop : CheckpointWhy → ℕ → LinkState → LinkState → ℕ → Type 0
TellsStop why.Memory place s t status = (status ≡ 5) × (t ≡ s)
TellsStop why.Keeper place s t status = (status ≡ 4) × (t ≡ s)
TellsStop why.CountFull place s t status = Prints (count_line place) 3 s t status

-- what is told of the end
abbrev pub TellsEnd : CheckpointEnd → LinkState → LinkState → ℕ → Type 0
TellsEnd (end.Made text) s t status = Prints (string_bytes text) 0 s t status
TellsEnd (end.Stopped fault) s t status = TellsStop fault.why fault.place s t status
TellsEnd (end.Unmade fault) s t status = TellsFault fault s t status

-- ---- over a store

-- The records of the pools in the folder, those before a place made to begin anew. Where the store tells what it keeps, it then
-- keeps these, and all other records stay; its count of faults rose where a keeper has failed.
pub record KeepsAnew (settings : Settings) (folder : List ℕ) (place : ℕ) (p q : StoreState) : Type 0 where
  pub records : List (Option Tables)
  pub faults : ℕ
  pub makes : MakesAnew settings place (told_records p.kept folder settings.pools) records
  pub told : IsSome p.kept → told_records q.kept folder settings.pools ≡ records
  pub others : KeepsOthers folder settings.pools p.kept q.kept
  pub counted : CountsKeepers faults p.faults q.faults

-- all of them begin anew, and a line for each pool is printed
pub record AllBegin (settings : Settings) (folder : List ℕ) (p q : StoreState) (o u : Streams) (status : ℕ) : Type 0 where
  pub keeps : KeepsAnew settings folder (length settings.pools) p q
  pub prints : Prints (fronts_of settings.pools keeps.makes.door.writer.starts keeps.makes.door.seen) 0 o.console u.console status
  pub only : SameButConsole o u

-- why the records of the pool at a place, and those behind it, don't: there was no memory, a keeper failed, or too many entries
-- came before, which is printed
pub data StopsThere (door : DoorState) (place old_faults new_faults : ℕ) (o u : Streams) (status : ℕ) : Type 0 where
  no_memory : status ≡ 5 → u ≡ o → StopsThere door place old_faults new_faults o u status
  failed : Rose old_faults new_faults → status ≡ 4 → u ≡ o → StopsThere door place old_faults new_faults o u status
  too_long : 2 ^ 31 < front (door.writer.starts place) (door.seen place) → Prints (count_line place) 3 o.console u.console status → SameButConsole o u
      → StopsThere door place old_faults new_faults o u status

-- those before a place begin anew
pub record SomeBegin (settings : Settings) (folder : List ℕ) (p q : StoreState) (o u : Streams) (status : ℕ) : Type 0 where
  pub place : ℕ
  pub inside : place < length settings.pools
  pub keeps : KeepsAnew settings folder place p q
  pub cause : StopsThere keeps.makes.door place p.faults q.faults o u status

-- what comes of a checkpoint of the pools' records in the folder
pub data RunsCheckpoint (settings : Settings) (folder : List ℕ) (p q : StoreState) (o u : Streams) (status : ℕ) : Type 0 where
  all_begin : AllBegin settings folder p q o u status → RunsCheckpoint settings folder p q o u status
  some_begin : SomeBegin settings folder p q o u status → RunsCheckpoint settings folder p q o u status
  none_begin : RunsUnserved settings folder p q o u status → RunsCheckpoint settings folder p q o u status

-- ---- a checkpoint that ends with status 0

-- the records stood for a base and a log; then they have the lines of the rows to which these lead, after as many entries, and
-- no line of a log, and their blobs stay
pub record IsAnew (pool : PoolSettings) (old new : Tables) : Type 0 where
  pub start : Base
  pub log : List Entry
  pub stood : TellsStart pool old start
  pub lines : AreLinesOf old.lines log
  pub new_is : new ≡ anew start log old

-- where a store tells what it keeps, so it is with each pool
abbrev pub AreAllAnew : List ℕ → List PoolSettings → Option Kept → Option Kept → Type 0
AreAllAnew folder pools old new = IfSome old (λ before. IsSomeAnd new (λ after.
    (place : ℕ) (pool : PoolSettings) → slice_get pools place ≡ Some pool → IsAnew pool (before folder pool.name) (after folder pool.name)))

abbrev pub AllBeginAnew : Type 0
AllBeginAnew =
    (settings : Settings) (folder : List ℕ) (p q : StoreState) (o u : Streams) → RunsCheckpoint settings folder p q o u 0
    → AreAllAnew folder settings.pools p.kept q.kept

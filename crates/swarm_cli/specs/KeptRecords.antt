-- A command over the kept records of the pools.
use Rattle.std.specs.Prelude.{◌≡◌, ℕ, List, ◌++◌, codes, decimal, Option, IsSome}
use Rattle.sw_base.specs.Faults.{Rose}
use Rattle.sw_base.specs.Link.{LinkState}
use Rattle.link_writer.specs.Printing.{Prints}
use Rattle.swarm_keeper.specs.Tables.{Tables}
use Rattle.swarm_keeper.specs.Stores.{StoreState}
use Rattle.swarm_cli.specs.Types.{Settings, StorePart, LoadFault}
use Rattle.pool_doors.specs.Doors.{DoorState, IsFreshDoor, HasNoOthersAt}
use Rattle.pool_loading.specs.declared.store_part.StorePart.TheVariants as part
use Rattle.swarm_history.specs.Records.{AreKept, AreBasesOf, AreRestorable, IsBadStore}
use Rattle.swarm_history.specs.declared.load_fault.LoadFault.TheVariants as load
use Rattle.remote_commands.specs.Streams.{Streams, SameButConsole}
use Rattle.swarm_cli.specs.ServerWork.{ServerWork, CarriesOutWork}
use Rattle.swarm_cli.specs.Attaching.{told_records, KeepsOthers, CountsKeepers}

-- What is done over a fresh door that was made of the pools' records. The records tell where the door's logs begin, and
-- are the lines of the logs that it had seen, and in the end of those that it has seen by then. The next start then finds
-- in them the same tasks, bots and blobs, with the bytes of each blob. Where the records of a pool had no other blobs than
-- those that its log left, they have none in the end. `faults` is how often the door's keepers have failed.
pub record DoesOver (work : ServerWork) (settings : Settings) (records_before records_after : List (Option Tables)) (faults : ℕ) (o u : Streams) (status : ℕ) : Type 0 where
  pub before : DoorState
  pub after : DoorState
  pub fresh_door : IsFreshDoor settings before.seen before
  pub bases_before : AreBasesOf settings.pools records_before before.writer.starts
  pub lines_before : AreKept records_before before.seen
  pub does : CarriesOutWork work before after o u status
  pub bases_after : AreBasesOf settings.pools records_after before.writer.starts
  pub lines_after : AreKept records_after after.seen
  pub restorable_after : AreRestorable settings.pools records_after before.writer.starts after.seen
  pub no_other_blobs : (p : ℕ) → HasNoOthersAt settings.pools before.writer.starts records_before before.seen p
      → HasNoOthersAt settings.pools before.writer.starts records_after after.seen p
  pub faults_are : after.faults ≡ faults

-- what stands between the place of the pool and that of the line
abbrev pub part_words : StorePart → List ℕ
part_words part.Base = codes " base "
part_words part.Lines = codes " "

-- the line for refused records: the place of the pool, which part of its records, and the place of the line
abbrev pub store_line : ℕ → StorePart → ℕ → List ℕ
store_line place which at = codes "store " ++ (decimal place ++ (part_words which ++ (decimal at ++ codes "\n")))

-- why no door was made of the records, and what is printed for it; nothing else was done
pub data NoDoor (settings : Settings) (records : List (Option Tables)) (old_faults new_faults : ℕ) (o u : Streams) (status : ℕ) : Type 0 where
  no_memory : status ≡ 5 → u ≡ o → NoDoor settings records old_faults new_faults o u status
  failed : Rose old_faults new_faults → status ≡ 4 → u ≡ o → NoDoor settings records old_faults new_faults o u status
  bad_store : (place : ℕ) (which : StorePart) (at : ℕ) → IsBadStore settings records place which at → Prints (store_line place which at) 3 o.console u.console status → SameButConsole o u
      → NoDoor settings records old_faults new_faults o u status

-- what is told of a fault of the load
abbrev pub TellsFault : LoadFault → LinkState → LinkState → ℕ → Type 0
TellsFault load.Memory s t status = (status ≡ 5) × (t ≡ s)
TellsFault load.Failed s t status = (status ≡ 4) × (t ≡ s)
TellsFault (load.BadStore place which at) s t status = Prints (store_line place which at) 3 s t status

-- a command over keepers, which have these records and have failed so often
pub data RunsOver (work : ServerWork) (settings : Settings) (records_before records_after : List (Option Tables)) (old_faults new_faults : ℕ) (o u : Streams) (status : ℕ) : Type 0 where
  with_door : DoesOver work settings records_before records_after new_faults o u status → RunsOver work settings records_before records_after old_faults new_faults o u status
  without_door : NoDoor settings records_before old_faults new_faults o u status → records_after ≡ records_before
      → RunsOver work settings records_before records_after old_faults new_faults o u status

-- A command was carried out over the pools' records. Where the store tells what it keeps, it then keeps what the door's
-- keepers had in the end, and all other records stay; its count of faults rose where a keeper of the door has failed.
pub record RunsServed (work : ServerWork) (settings : Settings) (folder : List ℕ) (p q : StoreState) (o u : Streams) (status : ℕ) : Type 0 where
  pub records : List (Option Tables)
  pub faults : ℕ
  pub does : DoesOver work settings (told_records p.kept folder settings.pools) records faults o u status
  pub told : IsSome p.kept → told_records q.kept folder settings.pools ≡ records
  pub others : KeepsOthers folder settings.pools p.kept q.kept
  pub counted : CountsKeepers faults p.faults q.faults

-- no door was made of the pools' records: what the store tells of all it keeps is as before
pub record RunsUnserved (settings : Settings) (folder : List ℕ) (p q : StoreState) (o u : Streams) (status : ℕ) : Type 0 where
  pub cause : NoDoor settings (told_records p.kept folder settings.pools) p.faults q.faults o u status
  pub kept : IsSome p.kept → q.kept ≡ p.kept

-- a command over the pools' records in the folder, or why it was not carried out
pub data RunsKept (work : ServerWork) (settings : Settings) (folder : List ℕ) (p q : StoreState) (o u : Streams) (status : ℕ) : Type 0 where
  served : RunsServed work settings folder p q o u status → RunsKept work settings folder p q o u status
  unserved : RunsUnserved settings folder p q o u status → RunsKept work settings folder p q o u status

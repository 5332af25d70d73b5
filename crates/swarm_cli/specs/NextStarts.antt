-- What the next command finds in the records that a command left.
use Rattle.std.specs.Prelude.{◌≡◌, ℕ, List, slice_get, Option, Some, IsSome, IfSome}
use Rattle.std.specs.List.{All}
use Rattle.sw_base.specs.Faults.{Rose}
use Rattle.swarm_keeper.specs.Stores.{StoreState}
use Rattle.swarm_cli.specs.Types.{Settings, PoolSettings}
use Rattle.swarm_model.specs.Bases.{Base}
use Rattle.swarm_model.specs.History.{replay}
use Rattle.pool_doors.specs.Doors.{Logs, DoorState}
use Rattle.pool_loading.specs.Records.{HasBytes}
use Rattle.remote_commands.specs.Streams.{Streams}
use Rattle.swarm_cli.specs.ServerWork.{ServerWork}
use Rattle.swarm_cli.specs.Attaching.{Kept, told_of}
use Rattle.swarm_cli.specs.KeptRecords.{RunsServed, RunsKept}

-- Each pool of the door begins with the rows from which its log began, and with that log, so with the tasks, bots and blobs to which
-- they lead; and what was kept has the bytes of each of these blobs.
pub record GoesOnFrom (settings : Settings) (folder : List ℕ) (kept : Option Kept) (starts : ℕ → Base) (logs : Logs) (door : DoorState) : Type 0 where
  pub starts_are : (p : ℕ) (pool : PoolSettings) → slice_get settings.pools p ≡ Some pool → door.writer.starts p ≡ starts p
  pub logs_are : (p : ℕ) (pool : PoolSettings) → slice_get settings.pools p ≡ Some pool → door.seen p ≡ logs p
  pub bytes : (p : ℕ) (pool : PoolSettings) → slice_get settings.pools p ≡ Some pool
      → IfSome (told_of kept folder pool) (λ t. All (λ row. HasBytes t (replay (starts p).rows (logs p)) row.digest) (replay (starts p).rows (logs p)).blobs)

-- the command is carried out from there, or there is no memory, or a keeper failed
pub data NextStart (work : ServerWork) (settings : Settings) (folder : List ℕ) (starts : ℕ → Base) (logs : Logs) (p q : StoreState) (o u : Streams) (status : ℕ) : Type 0 where
  goes_on : (x : RunsServed work settings folder p q o u status) → GoesOnFrom settings folder p.kept starts logs x.does.before
      → NextStart work settings folder starts logs p q o u status
  no_memory : status ≡ 5 → u ≡ o → NextStart work settings folder starts logs p q o u status
  failed : Rose p.faults q.faults → status ≡ 4 → u ≡ o → NextStart work settings folder starts logs p q o u status

-- where a store tells what it keeps, so it is of each command after one that was carried out over the records of the same pools
abbrev pub NextStartsGoOn : Type 0
NextStartsGoOn =
    (work next : ServerWork) (settings : Settings) (folder : List ℕ) (p q r : StoreState) (o u v w : Streams) (status other : ℕ) → IsSome p.kept
    → (x : RunsServed work settings folder p q o u status) → RunsKept next settings folder q r v w other
    → NextStart next settings folder x.does.before.writer.starts x.does.after.seen q r v w other

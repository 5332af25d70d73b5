-- Records that begin anew from the rows to which their logs led.
use Rattle.std.specs.Prelude.{◌≡◌, ◌≢◌, ℕ, ◌<◌, ◌≤◌, ◌^◌, nat_lt, if◌then◌else◌, List, [], ◌++◌, length, slice_get, slice_index_or, Option, Some, None, IfSome}
use Rattle.std.specs.Option.{option_map}
use Rattle.swarm_keeper.specs.Tables.{Tables, replaced}
use Rattle.swarm_history.specs.Types.{PoolSettings, Entry}
use Rattle.swarm_model.specs.Bases.{Base, front}
use Rattle.swarm_model.specs.Before.{verdict_since}
use Rattle.swarm_model.specs.History.{replay, IsCaused, IsLegal}
use Rattle.swarm_model.specs.MachineState.{MachineState}
use Rattle.base_lines.specs.Reading.{base_lines}
use Rattle.pool_loading.specs.Records.{HasBase}
use Rattle.pool_doors.specs.Doors.{Logs, DoorState}
use Rattle.swarm_history.specs.Machines.{logs_of, pools_of, start_at, starts_of}
use Rattle.swarm_history.specs.Records.{AreRestorable}

-- the records, with the rows to which the log leads as their base, and without lines
abbrev pub anew : Base → List Entry → Tables → Tables
anew start log t = replaced (base_lines (replay start.rows log)) (front start log) t

-- what follows the log is legal from those rows too, and tells the same of each task
pub record GoesOn (start : Base) (log : List Entry) : Type 0 where
  pub legal : (rest : List Entry) → IsLegal start.rows (log ++ rest) → IsLegal (replay start.rows log) rest
  pub same : (rest : List Entry) (t : ℕ) → IsCaused start.rows (log ++ rest) → verdict_since start.rows (log ++ rest) t ≡ verdict_since (replay start.rows log) rest t

-- the records of a pool begin anew; where they are told, the pool opens from them with the rows to which the log led
pub record BeginsAnew (pool : PoolSettings) (start : Base) (log : List Entry) (old new : Option Tables) : Type 0 where
  pub few : front start log ≤ 2 ^ 31
  pub told : new ≡ option_map (anew start log) old
  pub opens : IfSome new (λ t. HasBase pool t (replay start.rows log))
  pub goes_on : GoesOn start log

-- what the keeper at a place tells, nothing where there is none
abbrev pub told_at : List (Option Tables) → ℕ → Option Tables
told_at tables place = slice_index_or tables place None

-- the records at a place begin anew, and all others stay
pub record BeginsAnewAt (pools : List PoolSettings) (starts : ℕ → Base) (logs : Logs) (place : ℕ) (old new : List (Option Tables)) : Type 0 where
  pub here : (pool : PoolSettings) → slice_get pools place ≡ Some pool → BeginsAnew pool (starts place) (logs place) (told_at old place) (told_at new place)
  pub others : (p : ℕ) → p ≢ place → told_at new p ≡ told_at old p

-- the records begin anew up to a place, and from there on they are as they were
pub record AreAnewTo (pools : List PoolSettings) (starts : ℕ → Base) (logs : Logs) (place : ℕ) (old new : List (Option Tables)) : Type 0 where
  pub count : length new ≡ length pools
  pub before : (p : ℕ) (pool : PoolSettings) → p < place → slice_get pools p ≡ Some pool → BeginsAnew pool (starts p) (logs p) (told_at old p) (told_at new p)
  pub others : (p : ℕ) → place ≤ p → told_at new p ≡ told_at old p

-- so do those of a door's pools
abbrev pub IsCheckpointed : DoorState → ℕ → List (Option Tables) → Type 0
IsCheckpointed door place tables = AreAnewTo door.settings.pools door.writer.starts door.seen place door.records tables

-- ---- what the next start finds

-- a log begins anew from the rows to which it led, after as many entries
abbrev pub base_anew : Base → List Entry → Base
base_anew start log = record { rows = replay start.rows log; count = front start log }

-- where the logs begin, once those before a place began anew
abbrev pub starts_anew : ℕ → (ℕ → Base) → Logs → ℕ → Base
starts_anew place starts logs p = if nat_lt p place then base_anew (starts p) (logs p) else starts p

-- and what entries they have
abbrev pub logs_anew : ℕ → Logs → Logs
logs_anew place logs p = if nat_lt p place then [] else logs p

-- the next start refuses none of the records, and finds in them what began anew before a place, and from there on what the door had
abbrev pub LeavesRestorable : DoorState → ℕ → List (Option Tables) → Type 0
LeavesRestorable door place tables = AreRestorable door.settings.pools tables (starts_anew place door.writer.starts door.seen) (logs_anew place door.seen)

-- ---- where it stops

-- more entries led to the rows of the pool at a place than may lead to a base
abbrev pub IsCountFull : (ℕ → Base) → Logs → ℕ → Type 0
IsCountFull starts logs place = 2 ^ 31 < front (starts place) (logs place)

-- the same of machines, one for each pool
abbrev pub HasBegunAt : List MachineState → ℕ → List (Option Tables) → List (Option Tables) → Type 0
HasBegunAt machines place old new = BeginsAnewAt (pools_of machines) (start_at (starts_of machines)) (logs_of machines) place old new

abbrev pub HaveBegunTo : List MachineState → ℕ → List (Option Tables) → List (Option Tables) → Type 0
HaveBegunTo machines place old new = AreAnewTo (pools_of machines) (start_at (starts_of machines)) (logs_of machines) place old new

abbrev pub IsFullAt : List MachineState → ℕ → Type 0
IsFullAt machines place = IsCountFull (start_at (starts_of machines)) (logs_of machines) place

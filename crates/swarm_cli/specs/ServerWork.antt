-- What is done with a door.
use Rattle.std.specs.Prelude.{◌≡◌, ◌==◌, if◌then◌else◌, ℕ, List, [], ◌∷◌, ◌++◌, slice_get, Option, IfSome}
use Rattle.std.specs.List.{flat_map}
use Rattle.sw_base.specs.Acceptors.{AcceptorState}
use Rattle.sw_base.specs.Listeners.{ListenerState, Gives, FailsToListen, Shuts}
use Rattle.swarm_cli.specs.Types.{StartFault, PoolSettings, Ended, Closed, LastAsked, CutShort, BadHead, Retired, ReadFault, WriteFault, WorkStop}
use Rattle.sw_base.specs.declared.start_fault.StartFault.TheVariants as start
use Rattle.swarm_model.specs.Bases.{Base, empty_base}
use Rattle.pool_doors.specs.Doors.{DoorState}
use Rattle.command_words.specs.Commands.{BoardsValue}
use Rattle.swarm_http.specs.Exchange.{entries_of}
use Rattle.swarm_http.specs.Answered.{IsAnswered}
use Rattle.pool_summaries.specs.Summaries.{summary_of}
use Rattle.swarm_workers.specs.declared.worked.Worked.{Worked}
use Rattle.swarm_workers.specs.declared.worked.WorkStop.TheVariants as stop
use Rattle.remote_commands.specs.Streams.{Streams, PrintsMade}
use Rattle.swarm_workers.specs.Works.{IsWorked}

-- one connection over the console is served, or those that come at an address, at most so many
pub data ServerWork : Type 0 where
  session : ServerWork
  serve : List ℕ → ℕ → ServerWork

-- that is done over one door; or several workers serve the connections that come at an address: so many workers, each at most so
-- many; or such workers, one at least, and boards beside them; or the kept records are made to begin anew
pub data Service : Type 0 where
  by_one : ServerWork → Service
  by_several : List ℕ → ℕ → ℕ → Service
  with_boards : List ℕ → ℕ → ℕ → BoardsValue → Service
  checkpoint : Service

-- One worker serves over a door of its own, unless there are boards: then it shares the pools, as several do.
abbrev pub serving : List ℕ → ℕ → ℕ → BoardsValue → Service
serving address workers connections boards =
    if boards.count == 0 then (if workers == 1 then by_one (serve address connections) else by_several address workers connections)
    else with_boards address workers connections boards

-- nothing led to the log of any pool
abbrev pub BeginNew : List PoolSettings → (ℕ → Base) → Type 0
BeginNew pools starts = (p : ℕ) → IfSome (slice_get pools p) (λ pool. starts p ≡ empty_base pool)

-- ---- a session

-- the status of an ending
abbrev pub exit_status : Ended → ℕ
exit_status Closed = 0
exit_status LastAsked = 0
exit_status Retired = 0
exit_status ReadFault = 4
exit_status WriteFault = 4
exit_status CutShort = 7
exit_status BadHead = 7

-- one connection over the console was served; each log has grown by the entries of its exchanges, in order
pub record ServesConsole (before after : DoorState) (o u : Streams) (status : ℕ) : Type 0 where
  pub ended : Ended
  pub answered : IsAnswered (record { link = o.console; clock = o.clock; door = before }) (record { link = u.console; clock = u.clock; door = after }) ended
  pub logs_are : (p : ℕ) → after.seen p ≡ before.seen p ++ flat_map (entries_of p) answered.xs
  pub listener : u.listener ≡ o.listener
  pub status_is : status ≡ exit_status ended

-- the console was served, or there was no memory to begin and nothing was done
pub data IsConsoleServed (before after : DoorState) (o u : Streams) (status : ℕ) : Type 0 where
  served_console : ServesConsole before after o u status → IsConsoleServed before after o u status
  no_memory : after ≡ before → u ≡ o → status ≡ 5 → IsConsoleServed before after o u status

-- ---- connections that come

-- the status where something can't be made or reached before the first request
abbrev pub start_status : StartFault → ℕ
start_status start.Memory = 5
start_status start.Failed = 4

-- the status of a worker's stop
abbrev pub work_status : WorkStop → ℕ
work_status stop.Done = 0
work_status stop.NoMore = 0
work_status stop.Failed = 4
work_status stop.Memory = 5

-- An acceptor was given at the address, the first of those that waited; a worker served the links that came to it, and
-- it was shut.
pub record ServesListener (address : List ℕ) (connections : ℕ) (n m : ListenerState) (a b : ℕ → Option (List ℕ)) (before after : DoorState) (stopped : WorkStop) : Type 0 where
  pub listening : ListenerState
  pub first : AcceptorState
  pub last : AcceptorState
  pub worked : Worked
  pub gives : Gives (λ (given : AcceptorState). given) (first ∷ []) address n listening 1
  pub works : IsWorked first last a b before after connections worked
  pub shuts : Shuts last listening m
  pub stop_is : stopped ≡ worked.stop

-- no acceptor was given, and nothing else was done
pub record CannotListen (fault : StartFault) (n m : ListenerState) (a b : ℕ → Option (List ℕ)) (before after : DoorState) : Type 0 where
  pub fails : FailsToListen fault n m
  pub clock : b ≡ a
  pub door : after ≡ before

-- the links that came were served, and the summary of the pools was printed
pub record ServesLinks (address : List ℕ) (connections : ℕ) (before after : DoorState) (o u : Streams) (status : ℕ) : Type 0 where
  pub stopped : WorkStop
  pub serves : ServesListener address connections o.listener u.listener o.clock u.clock before after stopped
  pub summary : PrintsMade (summary_of before.settings.pools before.writer.starts after.seen) (work_status stopped) o.console u.console status

-- nothing was served, since no acceptor was given
pub record ServesNothing (before after : DoorState) (o u : Streams) (status : ℕ) : Type 0 where
  pub fault : StartFault
  pub cannot : CannotListen fault o.listener u.listener o.clock u.clock before after
  pub console : u.console ≡ o.console
  pub status_is : status ≡ start_status fault

pub data IsServedBy (address : List ℕ) (connections : ℕ) (before after : DoorState) (o u : Streams) (status : ℕ) : Type 0 where
  served : ServesLinks address connections before after o u status → IsServedBy address connections before after o u status
  not_served : ServesNothing before after o u status → IsServedBy address connections before after o u status

-- what was done, between two states of the door and of the outside, with which status
abbrev pub CarriesOutWork : ServerWork → DoorState → DoorState → Streams → Streams → ℕ → Type 0
CarriesOutWork session before after o u status = IsConsoleServed before after o u status
CarriesOutWork (serve address connections) before after o u status = IsServedBy address connections before after o u status

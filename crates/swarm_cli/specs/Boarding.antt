-- What workers and boards do.
use Rattle.std.specs.Prelude.{◌≡◌, ℕ, List}
use Rattle.swarm_cli.specs.Types.{StartFault, Settings, WorkStop}
use Rattle.swarm_model.specs.Bases.{Base}
use Rattle.pool_doors.specs.Doors.{Logs}
use Rattle.pool_summaries.specs.Summaries.{summary_of}
use Rattle.command_words.specs.Commands.{BoardsValue}
use Rattle.board_workers.specs.Crews.{Crew, FailsToServe, ServesWithBoards}
use Rattle.remote_commands.specs.Streams.{Streams, PrintsMade}
use Rattle.swarm_cli.specs.ServerWork.{start_status, work_status, BeginNew}

-- the workers
abbrev pub worker_crew : List ℕ → ℕ → ℕ → Crew
worker_crew address workers connections = record { address = address; number = workers; connections = connections }

-- the boards
abbrev pub board_crew : BoardsValue → Crew
board_crew boards = record { address = boards.address; number = boards.count; connections = boards.connections }

-- The links that came to the workers and to the boards were served over new pools, whose summary was printed. Each worker had a
-- clock of its own, and another one waited between the rounds of posts.
pub record ServesCrews (address : List ℕ) (workers connections : ℕ) (boards : BoardsValue) (settings : Settings) (o u : Streams) (status : ℕ) : Type 0 where
  pub starts : ℕ → Base
  pub begins : BeginNew settings.pools starts
  pub logs : Logs
  pub stopped : WorkStop
  pub serves : ServesWithBoards (worker_crew address workers connections) (board_crew boards) settings o.clock o.listener u.listener logs stopped
  pub clock : u.clock ≡ o.clock
  pub summary : PrintsMade (summary_of settings.pools starts logs) (work_status stopped) o.console u.console status

-- nothing was served, since no acceptor was given at one of the addresses or there was no memory
pub record ServesNoCrew (address : List ℕ) (workers connections : ℕ) (o u : Streams) (status : ℕ) : Type 0 where
  pub fault : StartFault
  pub fails : FailsToServe (worker_crew address workers connections) fault o.listener u.listener
  pub clock : u.clock ≡ o.clock
  pub console : u.console ≡ o.console
  pub status_is : status ≡ start_status fault

pub data RunsCrews (address : List ℕ) (workers connections : ℕ) (boards : BoardsValue) (settings : Settings) (o u : Streams) (status : ℕ) : Type 0 where
  crews_served : ServesCrews address workers connections boards settings o u status → RunsCrews address workers connections boards settings o u status
  no_crew_served : ServesNoCrew address workers connections o u status → RunsCrews address workers connections boards settings o u status

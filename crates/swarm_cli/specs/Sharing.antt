-- What several workers do.
use Rattle.std.specs.Prelude.{◌≡◌, ℕ, List}
use Rattle.sw_base.specs.Listeners.{FailsToListen}
use Rattle.swarm_cli.specs.Types.{StartFault, Settings, WorkStop}
use Rattle.swarm_model.specs.Bases.{Base}
use Rattle.pool_doors.specs.Doors.{Logs}
use Rattle.pool_summaries.specs.Summaries.{summary_of}
use Rattle.swarm_workers.specs.Shared.{ServesShared}
use Rattle.remote_commands.specs.Streams.{Streams, PrintsMade}
use Rattle.swarm_cli.specs.ServerWork.{start_status, work_status, BeginNew}

-- the links that came were served over new pools, whose summary was printed; each worker had a clock of its own
pub record SharesLinks (address : List ℕ) (workers connections : ℕ) (settings : Settings) (o u : Streams) (status : ℕ) : Type 0 where
  pub starts : ℕ → Base
  pub begins : BeginNew settings.pools starts
  pub logs : Logs
  pub stopped : WorkStop
  pub serves : ServesShared address workers connections settings o.clock o.listener u.listener logs stopped
  pub clock : u.clock ≡ o.clock
  pub summary : PrintsMade (summary_of settings.pools starts logs) (work_status stopped) o.console u.console status

-- nothing was served, since no acceptor was given or there was no memory
pub record SharesNothing (o u : Streams) (status : ℕ) : Type 0 where
  pub fault : StartFault
  pub fails : FailsToListen fault o.listener u.listener
  pub clock : u.clock ≡ o.clock
  pub console : u.console ≡ o.console
  pub status_is : status ≡ start_status fault

pub data RunsShared (address : List ℕ) (workers connections : ℕ) (settings : Settings) (o u : Streams) (status : ℕ) : Type 0 where
  shared : SharesLinks address workers connections settings o u status → RunsShared address workers connections settings o u status
  not_shared : SharesNothing o u status → RunsShared address workers connections settings o u status

-- A command with the settings of a file.
use Rattle.std.specs.Prelude.{◌≡◌, ◌==◌, ◌⊎◌, if◌then◌else◌, ℕ, List, [], codes, Option, Some, None, Result, Ok, Err, Vec, vec_items}
use Rattle.std.specs.declared.alloc.Global.{Global}
use Rattle.sw_base.specs.Files.{FilesState, Loads}
use Rattle.sw_base.specs.declared.file_fault.FileFault.{FileFault}
use Rattle.sw_base.specs.declared.file_fault.FileFault.TheVariants as file_fault
use Rattle.swarm_keeper.specs.Stores.{StoreState}
use Rattle.swarm_cli.specs.Types.{Settings, SettingsFault}
use Rattle.swarm_policy.specs.declared.settings_fault.SettingsFault.TheVariants as fault
use Rattle.swarm_policy.specs.Rules.{rule_name}
use Rattle.swarm_policy.specs.Documents.{settings_of}
use Rattle.link_writer.specs.Printing.{Prints}
use Rattle.pool_doors.specs.Doors.{DoorState, IsFreshDoor}
use Rattle.client_commands.specs.Commands.{settings_line}
use Rattle.remote_commands.specs.Streams.{Streams, SameButConsole}
use Rattle.swarm_cli.specs.ServerWork.{ServerWork, CarriesOutWork, BeginNew, Service, by_one, by_several, with_boards, checkpoint}
use Rattle.command_words.specs.Commands.{BoardsValue}
use Rattle.swarm_cli.specs.Sharing.{RunsShared}
use Rattle.swarm_cli.specs.LargePools.{large_path}
use Rattle.swarm_cli.specs.Boarding.{RunsCrews}
use Rattle.swarm_cli.specs.KeptRecords.{RunsKept}
use Rattle.swarm_cli.specs.Checkpoints.{RunsCheckpoint}

-- the line for the first broken rule of a text
abbrev pub fault_line : SettingsFault → List ℕ
fault_line fault.Memory = []
fault_line (fault.Broken place rule) = settings_line place (rule_name rule)

-- nothing was read, printed or asked of the clock, the listener or the store, and the status is this
pub record Stops (reason : ℕ) (p q : StoreState) (o u : Streams) (status : ℕ) : Type 0 where
  pub store : q ≡ p
  pub streams : u ≡ o
  pub status_is : status ≡ reason

-- the line is printed with status 3, or there was no memory for it; nothing else was done
pub data Refuses (line : List ℕ) (p q : StoreState) (o u : Streams) (status : ℕ) : Type 0 where
  printed : Prints line 3 o.console u.console status → SameButConsole o u → q ≡ p → Refuses line p q o u status
  no_memory : Stops 5 p q o u status → Refuses line p q o u status

-- the line for a fault of a text is printed, or there was no memory to read it
abbrev pub PrintsFault : SettingsFault → StoreState → StoreState → Streams → Streams → ℕ → Type 0
PrintsFault fault.Memory p q o u status = Stops 5 p q o u status
PrintsFault why p q o u status = Refuses (fault_line why) p q o u status

-- What is done over a fresh door of these settings, which writes alone, under the number 0, to an empty log of each pool, to
-- which nothing led.
pub record DoesNew (work : ServerWork) (settings : Settings) (o u : Streams) (status : ℕ) : Type 0 where
  pub before : DoorState
  pub after : DoorState
  pub fresh_door : IsFreshDoor settings (λ p. []) before
  pub begins : BeginNew settings.pools before.writer.starts
  pub does : CarriesOutWork work before after o u status

-- a command over new logs, or there was no memory for a door
pub data RunsNew (work : ServerWork) (settings : Settings) (o u : Streams) (status : ℕ) : Type 0 where
  done : DoesNew work settings o u status → RunsNew work settings o u status
  no_memory : status ≡ 5 → u ≡ o → RunsNew work settings o u status

-- which rule settings with a folder break where boards are asked for: the folder is for one worker, and for no boards
abbrev pub store_rule : ℕ → List ℕ
store_rule workers = if workers == 1 then codes "boards" else codes "workers"

-- workers and boards over new logs, which leaves the store as it was; or the line for the first pool that is too large for boards
abbrev pub RunsWithBoards : Option (List ℕ) → List ℕ → ℕ → ℕ → BoardsValue → Settings → StoreState → StoreState → Streams → Streams → ℕ → Type 0
RunsWithBoards (Some path) address workers connections boards settings p q o u status = Refuses (settings_line path (codes "boards")) p q o u status
RunsWithBoards None address workers connections boards settings p q o u status = RunsCrews address workers connections boards settings o u status × (q ≡ p)

-- A command under the settings: over new logs, which leaves the store as it was, or over the records in their folder. Those are
-- for one worker without boards, and only those can be made to begin anew.
abbrev pub RunsUnder : Service → Option (List ℕ) → Settings → StoreState → StoreState → Streams → Streams → ℕ → Type 0
RunsUnder (by_one work) None settings p q o u status = RunsNew work settings o u status × (q ≡ p)
RunsUnder (by_one work) (Some folder) settings p q o u status = RunsKept work settings folder p q o u status
RunsUnder (by_several address workers connections) None settings p q o u status = RunsShared address workers connections settings o u status × (q ≡ p)
RunsUnder (by_several address workers connections) (Some folder) settings p q o u status = Refuses (settings_line (codes "store") (codes "workers")) p q o u status
RunsUnder (with_boards address workers connections boards) None settings p q o u status = RunsWithBoards (large_path settings.pools) address workers connections boards settings p q o u status
RunsUnder (with_boards address workers connections boards) (Some folder) settings p q o u status = Refuses (settings_line (codes "store") (store_rule workers)) p q o u status
RunsUnder checkpoint None settings p q o u status = Refuses (settings_line (codes "store") (codes "missing")) p q o u status
RunsUnder checkpoint (Some folder) settings p q o u status = RunsCheckpoint settings folder p q o u status

-- a command under the settings that a text gives, or what is wrong with them
abbrev pub Follows : Service → Result Settings SettingsFault → StoreState → StoreState → Streams → Streams → ℕ → Type 0
Follows service (Ok settings) p q o u status = RunsUnder service settings.store settings p q o u status
Follows service (Err why) p q o u status = Refuses (fault_line why) p q o u status

-- what the text of a file comes to, unless there is no memory to read it
abbrev pub RunsText : Service → List ℕ → StoreState → StoreState → Streams → Streams → ℕ → Type 0
RunsText service text p q o u status = Follows service (settings_of text) p q o u status ⊎ Stops 5 p q o u status

-- what comes of a load: a text, no file at the path, or one that is too long
abbrev pub RunsLoaded : Service → List ℕ → Result (Option (Vec ℕ Global)) FileFault → StoreState → StoreState → Streams → Streams → ℕ → Type 0
RunsLoaded service path (Ok (Some text)) p q o u status = RunsText service (vec_items text) p q o u status
RunsLoaded service path (Ok None) p q o u status = Refuses (settings_line path (codes "absent")) p q o u status
RunsLoaded service path (Err file_fault.TooLong) p q o u status = Refuses (settings_line path (codes "count")) p q o u status
RunsLoaded service path (Err file_fault.Failed) p q o u status = Stops 4 p q o u status
RunsLoaded service path (Err file_fault.Memory) p q o u status = Stops 5 p q o u status

-- a file of at most 1048576 bytes is loaded, once, and what it comes to is done
pub record RunsFile (service : Service) (path : List ℕ) (f g : FilesState) (p q : StoreState) (o u : Streams) (status : ℕ) : Type 0 where
  pub loaded : Result (Option (Vec ℕ Global)) FileFault
  pub loads : Loads f g path 1048576 loaded
  pub runs : RunsLoaded service path loaded p q o u status

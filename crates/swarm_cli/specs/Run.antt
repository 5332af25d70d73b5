-- What the program does.
use Rattle.std.specs.Prelude.{◌≡◌, ◌⊎◌, ◌≤◌, ℕ, List, Option, Some, None, length}
use Rattle.link_writer.specs.Printing.{Prints}
use Rattle.swarm_policy.specs.Open.{open_settings}
use Rattle.command_words.specs.Commands.{CommandValue, session, serve, checkpoint, bot, client, drill}
use Rattle.remote_commands.specs.BotCommands.{RunsBotCommand}
use Rattle.remote_commands.specs.Clients.{RunsClient}
use Rattle.swarm_cli.specs.ServerWork.{Service, by_one, serving}
use Rattle.swarm_cli.specs.ServerWork as work
use Rattle.swarm_cli.specs.Drills.{Drills}
use Rattle.swarm_cli.specs.SettingsFile.{RunsUnder, RunsFile}
use Rattle.remote_commands.specs.Environment.{Environment, OnlyConsole}

-- a command over the pools, under the settings of a file, or the open ones where no file is named
abbrev pub RunsBy : Service → Option (List ℕ) → Environment → Environment → ℕ → Type 0
RunsBy what None x y status = RunsUnder what None open_settings x.store y.store x.streams y.streams status × (y.files ≡ x.files) × (y.dialer ≡ x.dialer) × (y.runner ≡ x.runner)
RunsBy what (Some path) x y status = RunsFile what path x.files y.files x.store y.store x.streams y.streams status × (y.dialer ≡ x.dialer) × (y.runner ≡ x.runner)

-- a command was carried out
abbrev pub CarriesOut : CommandValue → Environment → Environment → ℕ → Type 0
CarriesOut (session settings) x y status = RunsBy (by_one work.session) settings x y status
CarriesOut (serve settings address workers connections boards) x y status = RunsBy (serving address workers connections boards) settings x y status
CarriesOut (checkpoint settings) x y status = RunsBy work.checkpoint (Some settings) x y status
CarriesOut (bot options) x y status = RunsBotCommand options x y status
CarriesOut (drill cycles start) x y status = Drills start cycles x.streams.console y.streams.console status × OnlyConsole x y
CarriesOut (client server caller work) x y status = RunsClient server caller work x y status

-- the words are no command, and a text is printed that says so: it isn't empty
pub record PrintsRefusal (x y : Environment) (status : ℕ) : Type 0 where
  pub text : List ℕ
  pub told : 1 ≤ length text
  pub prints : Prints text 2 x.streams.console y.streams.console status
  pub only : OnlyConsole x y

-- the command that the words ask for was carried out, or they ask for none
abbrev pub RunsCommand : Option CommandValue → Environment → Environment → ℕ → Type 0
RunsCommand None x y status = PrintsRefusal x y status
RunsCommand (Some command) x y status = CarriesOut command x y status

-- that, or there was no memory to read the words
abbrev pub Runs : Option CommandValue → Environment → Environment → ℕ → Type 0
Runs command x y status = RunsCommand command x y status ⊎ ((status ≡ 5) × (y ≡ x))

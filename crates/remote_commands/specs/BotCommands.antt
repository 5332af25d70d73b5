-- The command of a bot.
use Rattle.std.specs.Prelude.{◌≡◌, ℕ, List, [], ◌∷◌, ◌++◌, codes, decimal, Some, None, is_some, Ok, Err}
use Rattle.sw_base.specs.declared.start_fault.StartFault.TheVariants as fault
use Rattle.link_writer.specs.Printing.{Prints}
use Rattle.client_requests.specs.Addresses.{address_of}
use Rattle.command_words.specs.Commands.{BotOptions}
use Rattle.swarm_model.specs.Fits.{is_name}
use Rattle.bot_dimensions.specs.Pairs.{fitting_pairs}
use Rattle.bot_core.specs.declared.bot_limits.BotLimits.{BotLimits}
use Rattle.bot_core.specs.declared.action.StopWhy.{StopWhy}
use Rattle.bot_core.specs.declared.action.StopWhy.TheVariants as why
use Rattle.runners.specs.declared.call.RunnerCall.TheVariants as call
use Rattle.runners.specs.Calls.{RunnerState, Performs}
use Rattle.bot_requests.specs.declared.hands.Hands.{Hands}
use Rattle.bot_turns.specs.declared.stopped.Stopped.{Stopped}
use Rattle.bot_turns.specs.Turns.{bot_world}
use Rattle.bot_turns.specs.Runs.{RunsBot}
use Rattle.bot_turns.specs.Ends.{EndsClean}
use Rattle.remote_commands.specs.Clients.{OptionTest, server_test, caller_test, first_unfit}
use Rattle.remote_commands.specs.Streams.{PrintsMade}
use Rattle.client_commands.specs.Commands.{settings_line}
use Rattle.remote_commands.specs.Environment.{Environment, OnlyConsole}

abbrev pub name_test : List ℕ → OptionTest
name_test name = (codes "id", is_name name)

abbrev pub dimensions_test : BotOptions → OptionTest
dimensions_test o = (codes "dimensions", is_some (fitting_pairs o.id o.pool o.dimensions))

abbrev pub bot_tests : BotOptions → List OptionTest
bot_tests o = server_test o.server ∷ caller_test o.caller ∷ name_test o.id ∷ dimensions_test o ∷ []

abbrev pub limits_of : BotOptions → BotLimits
limits_of o = record { tasks = o.tasks; polls = o.polls; steps = o.steps }

-- a bot with the values of its options, at its start: it has no cache, no run, no output and no files
pub record IsNewBot (o : BotOptions) (h : Hands) : Type 0 where
  pub server : address_of o.server ≡ Some (h.address, h.host)
  pub dims : fitting_pairs o.id o.pool o.dimensions ≡ Some h.dims
  pub caller : h.caller ≡ o.caller
  pub id : h.id ≡ o.id
  pub pool : h.pool ≡ o.pool
  pub caches : h.caches ≡ record { entries = []; most = o.caches; most_bytes = o.cache_bytes }
  pub run : h.run ≡ None
  pub pending : h.pending.items ≡ []
  pub files : h.files ≡ []

-- ---- what is printed

abbrev pub why_word : StopWhy → List ℕ
why_word why.Terminated = codes "terminated"
why_word why.Tasks = codes "tasks"
why_word why.Polls = codes "polls"
why_word why.Steps = codes "steps"
why_word why.Refused = codes "refused"

abbrev pub stop_status : StopWhy → ℕ
stop_status why.Terminated = 0
stop_status why.Tasks = 0
stop_status why.Polls = 8
stop_status why.Steps = 8
stop_status why.Refused = 6

-- why the bot stopped, and after how many tasks
unfoldable pub stop_line : Stopped → List ℕ
stop_line stopped = codes "bot " ++ (why_word stopped.why ++ (codes " tasks " ++ (decimal stopped.tasks ++ codes "\n")))

-- ---- what is done

-- the files, the store and the listener are as before
pub record AsideFromBot (x y : Environment) : Type 0 where
  pub files : y.files ≡ x.files
  pub store : y.store ≡ x.store
  pub listener : y.streams.listener ≡ x.streams.listener

-- the folder of the bot was opened, the bot ran to its stop, and the line of that was printed
pub record RanBot (o : BotOptions) (x y : Environment) (status : ℕ) : Type 0 where
  pub hands : Hands
  pub left : Hands
  pub opened : RunnerState
  pub stopped : Stopped
  pub new : IsNewBot o hands
  pub opens : Performs (Ok tt) x.runner opened (call.Open o.id)
  pub runs : RunsBot (limits_of o) (bot_world hands x.dialer opened x.streams.clock x.waited) (bot_world left y.dialer y.runner y.streams.clock y.waited) stopped
  pub prints : PrintsMade (stop_line stopped) (stop_status stopped.why) x.streams.console y.streams.console status

-- the folder of the bot could not be opened, and nothing else was done
pub record CannotOpen (o : BotOptions) (x y : Environment) (status : ℕ) : Type 0 where
  pub fails : Performs (Err fault.Failed) x.runner y.runner (call.Open o.id)
  pub status_is : status ≡ 4
  pub same : y ≡ record x { runner = y.runner }

-- the runner told no call, so no run was prepared; or its last call was a clean
pub data LeavesNoRun (before after : RunnerState) : Type 0 where
  no_call : after.calls ≡ before.calls → LeavesNoRun before after
  cleaned : EndsClean before after → LeavesNoRun before after

-- A bot ran, or its folder could not be opened, or the first of its options that is out of its grammar is told. Want
-- of memory may come at any place; nothing is printed then, and no run is left.
pub data RunsBotCommand (o : BotOptions) (x y : Environment) (status : ℕ) : Type 0 where
  ran : first_unfit (bot_tests o) ≡ None → RanBot o x y status → AsideFromBot x y → RunsBotCommand o x y status
  cannot_open : first_unfit (bot_tests o) ≡ None → CannotOpen o x y status → RunsBotCommand o x y status
  refused : (option : List ℕ) → first_unfit (bot_tests o) ≡ Some option → Prints (settings_line option (codes "grammar")) 3 x.streams.console y.streams.console status → OnlyConsole x y
      → RunsBotCommand o x y status
  no_memory : status ≡ 5 → y.streams.console ≡ x.streams.console → AsideFromBot x y → LeavesNoRun x.runner y.runner → RunsBotCommand o x y status

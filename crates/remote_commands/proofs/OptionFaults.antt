-- The first option that is out of its grammar.
use Rattle.std.proofs.Common.{◌≡◌, ℕ, List, Option, Some, refl, ap}
use Rattle.std.specs.Prelude.{codes}
use Rattle.sw_base.specs.Files.{FilesState}
use Rattle.sw_base.specs.Dialers.{DialerState}
use Rattle.sw_base.specs.Link.{LinkState}
use Rattle.sw_base.specs.Listeners.{ListenerState}
use Rattle.swarm_keeper.specs.Stores.{StoreState}
use Rattle.runners.specs.Calls.{RunnerState}
use Rattle.link_writer.specs.Printing.{Prints}
use Rattle.command_words.specs.ClientWork.{WorkValue}
use Rattle.command_words.specs.Commands.{BotOptions}
use Rattle.remote_commands.specs.declared.option_fault.OptionFault.{OptionFault}
use Rattle.remote_commands.specs.declared.option_fault.OptionFault.TheVariants as option_fault
use Rattle.remote_commands.specs.Streams.{PrintsMade, printed}
use Rattle.remote_commands.specs.Streams as streams
use Rattle.client_commands.specs.Commands.{settings_line}
use Rattle.remote_commands.specs.Environment.{Environment, environment}
use Rattle.remote_commands.specs.Clients.{OptionTest, first_unfit, client_tests, IsOptionFault, PrintsOptionFault, RunsClient}
use Rattle.remote_commands.specs.Clients as clients
use Rattle.remote_commands.specs.BotCommands.{RunsBotCommand, bot_tests}
use Rattle.remote_commands.specs.BotCommands as bots

-- the option is printed, or there was no memory
data IsPrinted (tests : List OptionTest) (s t : LinkState) (status : ℕ) : Type 0 where
  option : (name : List ℕ) → first_unfit tests ≡ Some name → Prints (settings_line name (codes "grammar")) 3 s t status → IsPrinted tests s t status
  nothing : status ≡ 5 → t ≡ s → IsPrinted tests s t status

made : {tests : List OptionTest} {s t : LinkState} {status : ℕ} (name : List ℕ) → first_unfit tests ≡ Some name → PrintsMade (settings_line name (codes "grammar")) 3 s t status
    → IsPrinted tests s t status
made name unfit (printed prints) = option name unfit prints
made name unfit (streams.no_memory is same) = nothing is same

is_printed : {tests : List OptionTest} {s t : LinkState} {status : ℕ} (why : OptionFault) → IsOptionFault tests why → PrintsOptionFault why s t status → IsPrinted tests s t status
is_printed option_fault.Memory unfit told = nothing told.0 told.1
is_printed option_fault.Server unfit told = made (codes "server") unfit told
is_printed option_fault.Caller unfit told = made (codes "caller") unfit told
is_printed option_fault.Id unfit told = made (codes "id") unfit told
is_printed option_fault.State unfit told = made (codes "state") unfit told
is_printed option_fault.Name unfit told = made (codes "name") unfit told
is_printed option_fault.Dimensions unfit told = made (codes "dimensions") unfit told

module _ (files : FilesState) (store : StoreState) (s t : LinkState) (clock : ℕ → Option (List ℕ)) (listener : ListenerState) (dialer : DialerState) (waited : Option ℕ) (runner : RunnerState) (status : ℕ) where
  abbrev at : LinkState → Environment
  at console = environment files store console clock listener dialer waited runner

  client_so : (server caller : List ℕ) (work : WorkValue) → IsPrinted (client_tests server caller work) s t status → RunsClient server caller work (at s) (at t) status
  client_so server caller work (option name unfit prints) =
      clients.refused name unfit prints (record { files = refl; store = refl; streams = record { clock = refl; listener = refl }; dialer = refl; waited = refl; runner = refl })
  client_so server caller work (nothing is same) = clients.no_memory is (ap at same)

  bot_so : (o : BotOptions) → IsPrinted (bot_tests o) s t status → RunsBotCommand o (at s) (at t) status
  bot_so o (option name unfit prints) =
      bots.refused name unfit prints (record { files = refl; store = refl; streams = record { clock = refl; listener = refl }; dialer = refl; waited = refl; runner = refl })
  bot_so o (nothing is same) = bots.no_memory is same (record { files = refl; store = refl; listener = refl }) (bots.no_call refl)

  -- a fault is told
  pub client_told : (server caller : List ℕ) (work : WorkValue) (why : OptionFault) → IsOptionFault (client_tests server caller work) why → PrintsOptionFault why s t status
      → RunsClient server caller work (at s) (at t) status
  client_told server caller work why unfit told = client_so server caller work (is_printed why unfit told)

  pub bot_told : (o : BotOptions) (why : OptionFault) → IsOptionFault (bot_tests o) why → PrintsOptionFault why s t status → RunsBotCommand o (at s) (at t) status
  bot_told o why unfit told = bot_so o (is_printed why unfit told)

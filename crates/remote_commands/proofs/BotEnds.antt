-- A bot that ends for want of memory leaves no run.
use Rattle.std.proofs.Common.{ℕ, List, Ok}
use Rattle.runners.specs.declared.call.RunnerCall.TheVariants as call
use Rattle.runners.specs.Calls.{RunnerState, Performs}
use Rattle.bot_turns.specs.Ends.{EndsClean}
use Rattle.bot_turns.proofs.TellLemmas.{performs_tells}
use Rattle.remote_commands.specs.BotCommands.{LeavesNoRun, cleaned}

pub cleaned_behind : (id : List ℕ) (x opened y : RunnerState) → Performs (Ok tt) x opened (call.Open id) → EndsClean opened y → LeavesNoRun x y
cleaned_behind id x opened y opens ends =
    cleaned (record { mid = ends.mid; answer = ends.answer; tells = λ i. ends.tells (performs_tells (Ok tt) x opened (call.Open id) opens i); cleans = ends.cleans })

use Rattle.std.proofs.Common.{◌≡◌, ◌++◌, take, drop, map}
use Rattle.row_changes.specs.Bots.{silent_bot_if}
use Rattle.row_changes.proofs.bots.mark_silent_all.Given as goal

abbrev pub invariant-loop-bot : goal.invariant-loop-bot
invariant-loop-bot l = l.bots ≡ map (silent_bot_if l.number) (take l.bot-index l.initial.bots) ++ drop l.bot-index l.initial.bots

use Rattle.std.proofs.Common.{◌≡◌, take}
use Rattle.std.specs.List.{fold, filter_map}
use Rattle.swarm_model.specs.Deadlines.{sooner, bot_end}
use Rattle.common_rows.specs.Rows.{state_of}
use Rattle.swarm_plain.proofs.deadlines.bots_ends.Given as goal

abbrev pub invariant-loop-bot : goal.invariant-loop-bot
invariant-loop-bot l = l.soonest ≡ fold sooner l.fn.best (filter_map (bot_end (state_of l.rows)) (take l.bot-index l.bots))

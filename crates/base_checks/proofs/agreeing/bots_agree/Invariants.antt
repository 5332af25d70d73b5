use Rattle.std.proofs.Common.{◌≡◌, ℕ, ◌<◌, true, get_or}
use Rattle.swarm_model.specs.declared.bot_row.BotRow.{BotRow}
use Rattle.base_checks.specs.Agreeing.{bot_agrees}
use Rattle.base_checks.proofs.agreeing.bots_agree.Given as goal

abbrev pub invariant-loop-bot : goal.invariant-loop-bot
invariant-loop-bot l = (k : ℕ) (d : BotRow) → k < l.bot-index → bot_agrees l.tasks (get_or l.bots k d) ≡ true

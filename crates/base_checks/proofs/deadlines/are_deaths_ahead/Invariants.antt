use Rattle.std.proofs.Common.{◌≡◌, ℕ, ◌<◌, true, get_or}
use Rattle.swarm_model.specs.declared.bot_row.BotRow.{BotRow}
use Rattle.base_checks.specs.Deadlines.{death_is_ahead}
use Rattle.base_checks.proofs.deadlines.are_deaths_ahead.Given as goal

abbrev pub invariant-loop-bot : goal.invariant-loop-bot
invariant-loop-bot l = (k : ℕ) (d : BotRow) → k < l.bot-index → death_is_ahead l.moment l.timeout (get_or l.bots k d) ≡ true

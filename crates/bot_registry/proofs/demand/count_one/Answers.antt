-- The bot is counted as it is now.
use Rattle.std.proofs.Common.{sym, ◌∙◌, subst, Option}
use Rattle.std.specs.List.{All}
use Rattle.swarm_model.specs.declared.bot_row.BotRow.{BotRow}
use Rattle.bot_registry.specs.Demands.{IsCountedBut}
use Rattle.bot_registry.proofs.Demands.{counted_again, differ}
use Rattle.bot_registry.proofs.demand.count_one.Goals as goal

pub returns-then-is_fit-included : goal.returns-then-is_fit-included
returns-then-is_fit-included c =
    let fit = sym c.is_fit.ensures ∙ differ c.is_fit.result c.args.included c.if-is_fit-included.true in
    let left = subst (λ (row : Option BotRow). All (IsCountedBut c.args.rows.now row c.args.included) c.args.demands.now) (sym c.in-Some.ensures) c.requires.counted in
    rw c.recount.ensures (counted_again c.args.rows.now c.in-Some.bot.now c.args.included fit c.args.demands.now left)

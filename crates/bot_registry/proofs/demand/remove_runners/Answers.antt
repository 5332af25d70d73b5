-- One bot more is silent.
use Rattle.bot_registry.proofs.Demands.{others_at, includes_it, includes_more}
use Rattle.bot_registry.proofs.demand.remove_runners.Goals as goal

pub loop-bot-preserved : goal.loop-bot-preserved
loop-bot-preserved c =
    let task = c.args.task in
    let rows = c.args.rows.now in
    let bot = c.bot-item.result in
    includes_more task rows c.loop-bot.bot-index bot c.loop-bot-test.true c.bot-item.is c.remove_runner.new.demands
    (c.remove_runner.ensures (others_at task rows c.loop-bot.bot-index bot c.loop-bot-test.true c.bot-item.is)
    (includes_it task rows c.loop-bot.bot-index bot c.loop-bot-test.true c.bot-item.is c.loop-bot.demands c.loop-bot.invariant))

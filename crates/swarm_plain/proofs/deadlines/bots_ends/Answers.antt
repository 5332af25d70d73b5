-- One row more is looked at.
use Rattle.swarm_model.specs.Deadlines.{sooner, bot_end}
use Rattle.common_rows.specs.Rows.{state_of}
use Rattle.row_changes.proofs.Folding.{fold-filter_map_more}
use Rattle.swarm_plain.proofs.deadlines.bots_ends.Goals as goal

pub loop-bot-preserved : goal.loop-bot-preserved
loop-bot-preserved c =
    let more = fold-filter_map_more sooner (bot_end (state_of c.args.rows.now)) c.args.best c.args.bots.now c.loop-bot.bot-index c.bot-item.result c.loop-bot-test.true c.bot-item.is in
    rw (more, ← c.bot_end.ensures, ← c.loop-bot.invariant) c.sooner_of-soonest.ensures

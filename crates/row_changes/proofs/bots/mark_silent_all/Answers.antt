-- One bot more is looked at.
use Rattle.std.proofs.Common.{arith}
use Rattle.std.proofs.lemmas.List.Edits.{map_over_more}
use Rattle.row_changes.specs.Bots.{silent_bot_if}
use Rattle.row_changes.proofs.bots.mark_silent_all.Goals as goal

pub loop-bot-preserved : goal.loop-bot-preserved
loop-bot-preserved c =
    rw (c.mark_silent_if.ensures, ← c.bot-item.is)
    (map_over_more (silent_bot_if c.args.number) c.args.bots.now c.loop-bot.bots c.loop-bot.bot-index c.bot-item.result
    (omega arith) c.loop-bot.invariant c.bot-item.is)

-- Two changes of one row.
use Rattle.std.proofs.Common.{ap, ◌∙◌, map, List, refl}
use Rattle.std.proofs.lemmas.Simd.{map-map}
use Rattle.swarm_model.specs.declared.bot_row.BotRow.{BotRow}
use Rattle.swarm_model.specs.Effects.{no_of_bot, bot_at, heard, idle_bot}
use Rattle.row_changes.proofs.Numbered.{still_numbered}
use Rattle.row_changes.proofs.bots.report.Goals as goal

pub change_row-requires-in-Some-clause-numbered : goal.change_row-requires-in-Some-clause-numbered
change_row-requires-in-Some-clause-numbered c =
    rw c.change_row.ensures (still_numbered no_of_bot c.args.number (heard c.args.moment) c.args.bots.now.items (λ bot. refl) c.requires)

pub returns-in-Some : goal.returns-in-Some
returns-in-Some c =
    let both = map-map (bot_at c.args.number idle_bot) (bot_at c.args.number (heard c.args.moment)) c.args.bots.now.items in
    rw c.in-Some.is (c.change_row-in-Some.ensures ∙ ap (λ (rows : List BotRow). map (bot_at c.args.number idle_bot) rows) c.change_row.ensures ∙ both)

-- A new row stands behind the others.
use Rattle.std.proofs.Common.{◌≡◌, None, sym, ◌∙◌}
use Rattle.swarm_model.specs.Effects.{no_of_bot}
use Rattle.row_changes.specs.Rows.{row_of}
use Rattle.row_changes.proofs.Lent.{lent_none}
use Rattle.row_changes.proofs.RowEffects.{with_bot-new}
use Rattle.row_changes.proofs.bots.put_row.Goals as goal

pub returns-else-is_some : goal.returns-else-is_some
returns-else-is_some c =
    let none : row_of no_of_bot c.args.row.no c.args.bots.now.items ≡ None =
    rw c.as_slice.ensures.value at (sym c.row_of.ensures ∙ lent_none c.row_of.result (sym c.if-is_some.ensures)) in
    c.push_reserved.ensures.items ∙ sym (with_bot-new c.args.row c.args.bots.now.items none)

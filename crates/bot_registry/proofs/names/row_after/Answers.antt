-- The row of the number at the place is listed first, or none is listed.
use Rattle.std.proofs.Common.{sym, ◌∙◌}
use Rattle.bot_registry.proofs.Next.{listed_first, none_listed}
use Rattle.bot_registry.proofs.names.row_after.Goals as goal

pub returns-then-place-numbers : goal.returns-then-place-numbers
returns-then-place-numbers c =
    let first = listed_first c.args.rows.now c.args.numbers.now c.requires.numbered c.requires.named c.args.name.now c.place_after-place.result c.place_after-place.ensures.place c.if-place-numbers.true in
    c.row_of.ensures ∙ first.1 ∙ sym first.2

pub returns-else-place-numbers : goal.returns-else-place-numbers
returns-else-place-numbers c =
    sym (none_listed c.args.rows.now c.args.numbers.now c.requires.numbered c.requires.named c.args.name.now c.place_after-place.result c.place_after-place.ensures.place c.if-place-numbers.false)

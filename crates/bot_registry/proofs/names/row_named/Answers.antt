-- What the search finds is the number of the name, and where it finds none, there is none.
use Rattle.std.proofs.Common.{sym, ◌∙◌}
use Rattle.bot_registry.proofs.Named.{found_named, absent_named, parts}
use Rattle.bot_registry.proofs.names.row_named.Goals as goal

pub returns-in-Ok : goal.returns-in-Ok
returns-in-Ok c =
    let found = found_named c.args.rows.now c.args.numbers.now c.requires.numbered c.requires.named c.args.name.now c.in-Ok.place c.in-Ok.ensures.bound (c.in-Ok.ensures.place 0) in
    c.row_of.ensures ∙ found.1 ∙ sym found.2

pub returns-in-Err : goal.returns-in-Err
returns-in-Err c =
    let parted = parts c.args.rows.now c.args.numbers.now c.requires.numbered c.requires.named c.args.name.now c.in-Err.field-0 c.in-Err.ensures.place in
    sym (absent_named c.args.rows.now c.args.numbers.now c.requires.numbered c.requires.named c.args.name.now c.in-Err.field-0 parted)

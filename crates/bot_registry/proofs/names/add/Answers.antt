-- A new name has a place among the others.
use Rattle.std.proofs.Common.{◌≤◌, sym, ◌∙◌, length}
use Rattle.std.proofs.lemmas.Option.{none-some}
use Rattle.bot_registry.proofs.Named.{found_named, parts, inserted}
use Rattle.bot_registry.proofs.names.add.Goals as goal

pub unreachable-requires : goal.unreachable-requires
unreachable-requires c =
    let found = found_named c.args.rows.now c.args.numbers.now.items c.requires.numbered c.requires.named c.args.name.now c.in-Ok.field-0
    (rw c.deref.ensures.value at c.in-Ok.ensures.bound) (rw c.deref.ensures.value at (c.in-Ok.ensures.place 0)) in
    none-some found.0 (sym c.requires.fresh ∙ found.2)

pub returns : goal.returns
returns c =
    let sorted = c.args.numbers.now.items in
    let under : c.in-Err.place ≤ length sorted = rw c.deref.ensures.value at c.in-Err.ensures.bound in
    let parted = parts c.args.rows.now sorted c.requires.numbered c.requires.named c.args.name.now c.in-Err.place (rw c.deref.ensures.value at c.in-Err.ensures.place) in
    rw c.insert.ensures (inserted c.args.rows.now sorted c.requires.numbered c.requires.named c.args.name.now c.in-Err.place c.args.number under c.requires.next parted c.requires.fresh)

-- What is told of the keys is told of the rows.
use Rattle.std.proofs.Common.{map}
use Rattle.dimensions.specs.Order.{text_cmp}
use Rattle.base_checks.specs.Keys.{text_in}
use Rattle.base_checks.specs.Rows.{name_of, HaveOwnNames}
use Rattle.base_checks.proofs.OneRow.{names_stand_once}
use Rattle.base_checks.proofs.Behind.{told_of_rows}
use Rattle.base_checks.proofs.apart.have_own_names.Goals as goal

pub returns : goal.returns
returns c =
    told_of_rows text_cmp text_in (HaveOwnNames c.args.bots.now) c.in_ok-keys.keys.items (map name_of c.args.bots.now) c.in_ok-keys.ensures (names_stand_once c.args.bots.now c.requires.numbered) c.stands_twice.result
    (rw c.deref_mut.ensures.value at c.stands_twice.ensures)

-- The row stands at its place.
use Rattle.std.proofs.Common.{sym}
use Rattle.row_changes.proofs.Numbered.{found}
use Rattle.row_changes.proofs.changing.row_of.Goals as goal

pub returns-in-Some : goal.returns-in-Some
returns-in-Some g c =
    sym (found g.R.Row.no c.args.rows.now c.args.number c.in-Some.place c.index-rows-place.result c.requires c.in-Some.ensures c.index-rows-place.is)

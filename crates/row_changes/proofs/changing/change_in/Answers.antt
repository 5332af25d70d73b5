-- The row of the number stands at its place, or there is none.
use Rattle.std.proofs.Common.{sym, arith}
use Rattle.swarm_model.proofs.Numbers.{number_at}
use Rattle.row_changes.proofs.Numbered.{changed, changed_none}
use Rattle.row_changes.proofs.changing.change_in.Goals as goal

pub apply-requires : goal.apply-requires
apply-requires g c =
    let row = c.index-rows-place.result in
    let stands = c.in-Some.ensures in
    let is = number_at g.R.Row.no 1 c.in-Some.place c.args.rows.now row c.requires.numbered stands.within in
    c.requires.fits c.in-Some.place row stands.within (omega (arith, is, stands.number_is))

pub returns-in-None : goal.returns-in-None
returns-in-None g c = sym (changed_none g.R.Row.no c.args.rows.now c.args.number (g.C.Change.change c.args.by) c.in-None.ensures)

pub returns-in-Some : goal.returns-in-Some
returns-in-Some g c =
    rw (c.apply.ensures, ← c.index-rows-place.is)
    (sym (changed g.R.Row.no c.args.rows.now c.args.number c.in-Some.place (g.C.Change.change c.args.by) c.index-rows-place.result c.requires.numbered c.in-Some.ensures c.index-rows-place.is))

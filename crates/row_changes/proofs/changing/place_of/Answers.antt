-- A row stands at the place before its number.
use Rattle.std.proofs.Common.{◌-◌, arith}
use Rattle.row_changes.proofs.Numbered.{none_at_zero, none_past}
use Rattle.row_changes.proofs.changing.place_of.Goals as goal

pub returns-then-number-eq0 : goal.returns-then-number-eq0
returns-then-number-eq0 g c = let n = none_at_zero g.R.Row.no c.args.rows.now c.requires in rw c.if-number-eq0.true n

pub returns-else-place-rows : goal.returns-else-place-rows
returns-else-place-rows g c = none_past g.R.Row.no c.args.rows.now c.args.number (c.args.number - 1) c.requires (omega arith) (omega arith)

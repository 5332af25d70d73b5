-- One row more has its line, and behind the last row all have theirs.
use Rattle.std.proofs.Common.{option_copied, refl, sym, ap, ◌∙◌, arith}
use Rattle.base_lines.proofs.Writing.{none_added, one_added, all_added, none_left}
use Rattle.base_lines.proofs.base.add_lines.Goals as goal

pub loop-place-init : goal.loop-place-init
loop-place-init g c = none_added g.R.BaseLine.told (g.R.MachineRow.rows (g.M.Machine.kept c.args.machine.now).pool) c.args.lines.now.items c.args.lines.now.items refl

pub loop-place-preserved : goal.loop-place-preserved
loop-place-preserved g c =
    one_added g.R.BaseLine.told (g.R.MachineRow.rows (g.M.Machine.kept c.args.machine.now).pool) c.args.lines.now.items c.loop-place.place c.in-Some.row.now c.loop-place.lines.items c.push.new.self.items c.in_ok-line_of-in-Some.field-0
    (sym c.row_at.ensures ∙ ap option_copied c.in-Some.is) c.loop-place.invariant c.in_ok-push-in-Some.ensures.items c.in_ok-line_of-in-Some.ensures.line c.in_ok-line_of-in-Some.ensures.reads_back

pub returns-in-None : goal.returns-in-None
returns-in-None g c =
    none_left g.R.BaseLine.told (g.R.MachineRow.rows (g.M.Machine.kept c.args.machine.now).pool) c.args.lines.now.items c.loop-place.place c.loop-place.lines.items (sym c.row_at.ensures ∙ ap option_copied c.in-None.is)
    c.loop-place.invariant

pub returns : goal.returns
returns g c =
    all_added g.R.BaseLine.told (g.R.MachineRow.rows (g.M.Machine.kept c.args.machine.now).pool) c.args.lines.now.items c.loop-place.place c.loop-place.lines.items (omega arith) c.loop-place.invariant

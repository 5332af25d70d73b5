-- The row of the number names few slices, and keeps its number.
use Rattle.swarm_model.specs.Effects.{no_of_task}
use Rattle.row_changes.specs.Rows.{HasFewSlices}
use Rattle.row_changes.proofs.Numbered.{holds_at}
use Rattle.task_rows.proofs.Numbers.{expired_slice_keeps}
use Rattle.task_rows.proofs.rows.TaskRows.next_slice.Goals as goal

pub change-requires-clause-fits : goal.change-requires-clause-fits
change-requires-clause-fits c = holds_at no_of_task HasFewSlices c.self.inside.rows.items c.args.no c.self.invariant.numbered (rw (← c.self.view_is) at c.requires.few)

pub change-requires-clause-keeps : goal.change-requires-clause-keeps
change-requires-clause-keeps c = expired_slice_keeps c.args.entry.now.moment c.in-Slice.to

-- The rows are those of the base.
use Rattle.row_copies.proofs.row_copy.RowCopy.new.Goals as goal

pub load_tasks-requires : goal.load_tasks-requires
load_tasks-requires c = rw c.as_slice.ensures c.requires.sound.tasks_numbered

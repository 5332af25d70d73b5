-- The rows are those of the base.
use Rattle.common_rows.proofs.rows.Rows.of_base.Goals as goal

pub load_tasks-requires : goal.load_tasks-requires
load_tasks-requires c = rw c.as_slice.ensures c.requires.sound.tasks_numbered

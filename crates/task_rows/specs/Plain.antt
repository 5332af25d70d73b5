-- What contracts see of the rows of a pool's tasks.
use Rattle.std.specs.Prelude.{ℕ, List, Option}
use Rattle.swarm_model.specs.declared.task_row.TaskRow.{TaskRow}
use Rattle.row_changes.specs.declared.parts.TaskParts.{TaskParts}

-- the rows, what is made ready of an entry, and how often a run is tried again that is lost
pub record TaskRowsState : Type 0 where
  pub rows : List TaskRow
  pub ready : Option TaskParts
  pub retries : ℕ

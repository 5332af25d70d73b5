-- The row of a task as the number of one of its tries shows it.
use Rattle.std.specs.Prelude.{Option}
use Rattle.std.specs.Option.{option_map_or}
use Rattle.swarm_model.specs.declared.retried.Retried.{Retried}
use Rattle.swarm_model.specs.declared.task_row.TaskRow.{TaskRow}
use Rattle.swarm_model.specs.Answers.{lost_row}

-- the row itself, or as it would stand, had the run that was tried again been its last
abbrev pub row_shown : TaskRow → Option Retried → TaskRow
row_shown task lost = option_map_or (lost_row task) lost task

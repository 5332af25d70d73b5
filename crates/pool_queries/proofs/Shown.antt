-- What a row that is shown has of the row of its task.
use Rattle.std.proofs.Common.{◌≡◌, Option, Some, None, refl}
use Rattle.swarm_model.specs.declared.retried.Retried.{Retried}
use Rattle.swarm_model.specs.declared.task_row.TaskRow.{TaskRow}
use Rattle.pool_queries.specs.Shown.{row_shown}

-- whichever run is shown, these are the same
pub record IsOfTask (task shown : TaskRow) : Type 0 where
  pub no : task.no ≡ shown.no
  pub creator : task.creator ≡ shown.creator
  pub request : task.request ≡ shown.request
  pub created : task.created ≡ shown.created
  pub source : task.source ≡ shown.source

pub shown_is_of_task : (task : TaskRow) (lost : Option Retried) → IsOfTask task (row_shown task lost)
shown_is_of_task task None = record { no = refl; creator = refl; request = refl; created = refl; source = refl }
shown_is_of_task task (Some run) = record { no = refl; creator = refl; request = refl; created = refl; source = refl }

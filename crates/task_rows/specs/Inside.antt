-- What the rows keep, and what holds of it.
use Rattle.std.specs.Prelude.{◌≡◌, ℕ, ◌<◌, List, length, IfSome, ⊤, vec_capacity}
use Rattle.swarm_model.specs.declared.task_row.TaskRow.{TaskRow}
use Rattle.row_changes.specs.declared.parts.TaskParts.{TaskParts}
use Rattle.row_changes.specs.declared.parts.TaskParts.TheVariants as parts
use Rattle.swarm_model.specs.Numbers.{AreNumbered}
use Rattle.swarm_model.specs.Effects.{no_of_task}
use Rattle.row_changes.specs.Output.{run_of, TakesFresh}
use Rattle.task_rows.specs.declared.rows.TaskRows.TheInside.{Inside}
use Rattle.task_rows.specs.Plain.{TaskRowsState}

abbrev pub kept_of : Inside → TaskRowsState
kept_of rows = record { rows = rows.rows.items; ready = rows.ready; retries = rows.retries }

-- there is room for what is made ready
abbrev pub HasRoom : List TaskRow → ℕ → ℕ → TaskParts → Type 0
HasRoom rows capacity spare (parts.New creator request) = length rows < capacity
HasRoom rows capacity spare (parts.Report t chunk last) = TakesFresh spare (run_of rows t) chunk
HasRoom rows capacity spare other = ⊤

-- the rows are numbered by their places, and there is room for what is made ready
pub record IsKept (rows : Inside) : Type 0 where
  pub numbered : AreNumbered no_of_task 1 rows.rows.items
  pub prepared : IfSome rows.ready (HasRoom rows.rows.items (vec_capacity rows.rows) rows.spare)

-- a change of a row that leaves its number
abbrev pub KeepsNumber : (TaskRow → TaskRow) → Type 0
KeepsNumber change = (task : TaskRow) → (change task).no ≡ task.no

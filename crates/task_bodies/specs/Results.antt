-- The body that asks what a task has come to.
use Rattle.std.specs.Prelude.{ℕ, Result, codes}
use Rattle.serde_json.specs.Data.{Data}
use Rattle.task_props.specs.declared.prop_fault.PropFault.{PropFault}
use Rattle.json_fields.specs.Readings.{at, ◌>>=◌}
use Rattle.json_fields.specs.Fields.{required_text_at}
use Rattle.json_fields.specs.Ids.{id_of}

-- the id of the task or of its run
unfoldable pub id_in : Data → Result ℕ PropFault
id_in d = do
  id ← required_text_at (codes "task_id") d
  at (codes "task_id") (id_of id)

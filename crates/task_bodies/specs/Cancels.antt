-- The body that asks that a task come to an end.
use Rattle.std.specs.Prelude.{ℕ, Bool, Result, Ok, codes}
use Rattle.serde_json.specs.Data.{Data}
use Rattle.task_props.specs.declared.prop_fault.PropFault.{PropFault}
use Rattle.json_fields.specs.Readings.{at, ◌>>=◌}
use Rattle.json_fields.specs.Fields.{required_text_at, flag_at}
use Rattle.json_fields.specs.Ids.{id_of}

-- the id of the task or of its run, and whether a run is to stop, too
unfoldable pub cancel_in : Data → Result (ℕ × Bool) PropFault
cancel_in d = do
  text ← required_text_at (codes "task_id") d
  kill ← flag_at (codes "kill_running") d
  id ← at (codes "task_id") (id_of text)
  Ok (id, kill)

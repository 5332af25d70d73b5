-- The body that asks how many tasks are in a state.
use Rattle.std.specs.Prelude.{ℕ, List, Option, Result, Ok, codes}
use Rattle.serde_json.specs.Data.{Data}
use Rattle.task_props.specs.declared.prop_fault.PropFault.{PropFault}
use Rattle.swarm_model.specs.declared.task_state.TaskState.{TaskState}
use Rattle.json_fields.specs.Readings.{◌>>=◌}
use Rattle.json_fields.specs.Fields.{required_text_at}
use Rattle.task_bodies.specs.States.{state_text_at, state_at}

-- the name of the pool, and the state
unfoldable pub count_in : Data → Result (List ℕ × Option TaskState) PropFault
count_in d = do
  pool ← required_text_at (codes "pool") d
  name ← state_text_at d
  state ← state_at name
  Ok (pool, state)

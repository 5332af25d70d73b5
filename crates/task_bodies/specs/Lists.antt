-- The body that asks for a page of the tasks in a state.
use Rattle.std.specs.Prelude.{ℕ, ℤ, Option, Some, None, Result, Ok, codes}
use Rattle.serde_json.specs.Data.{Data}
use Rattle.task_props.specs.declared.prop_fault.PropFault.{PropFault}
use Rattle.json_fields.specs.Readings.{◌>>=◌}
use Rattle.json_fields.specs.Fields.{required_text_at, number_at, optional_number_at}
use Rattle.json_fields.specs.Ranges.{whole_at}
use Rattle.json_fields.specs.Pages.{limit_of}
use Rattle.task_bodies.specs.declared.lists.ListBody.{ListBody}
use Rattle.task_bodies.specs.States.{state_text_at, state_at}

-- the number of a task and of its pool's place as one, where a page is to go on after it
unfoldable pub cursor_at : Option ℤ → Result (Option ℕ) PropFault
cursor_at None = Ok None
cursor_at (Some number) = do
  cursor ← whole_at (codes "cursor") 1 1048576 number
  Ok (Some cursor)

-- the name of the pool, the state, how many tasks, and after which
unfoldable pub list_body_in : Data → Result ListBody PropFault
list_body_in d = do
  pool ← required_text_at (codes "pool") d
  name ← state_text_at d
  most ← number_at (codes "limit") d
  last ← optional_number_at (codes "cursor") d
  state ← state_at name
  limit ← limit_of most
  cursor ← cursor_at last
  Ok (record { pool = pool; state = state; limit = limit; cursor = cursor })

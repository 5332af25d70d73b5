-- The body that asks for the output of a run.
use Rattle.std.specs.Prelude.{ℕ, ℤ, ◌==◌, if◌then◌else◌, Result, Ok, codes}
use Rattle.serde_json.specs.Data.{Data}
use Rattle.task_props.specs.declared.prop_fault.PropFault.{PropFault}
use Rattle.json_fields.specs.Readings.{at, ◌>>=◌}
use Rattle.json_fields.specs.Fields.{required_text_at, number_at}
use Rattle.json_fields.specs.Ids.{id_of}
use Rattle.json_fields.specs.Ranges.{whole_at}
use Rattle.task_bodies.specs.declared.stdouts.StdoutBody.{StdoutBody}

-- 0 to 65536 bytes, where 0 means 65536
unfoldable pub length_of : ℤ → Result ℕ PropFault
length_of number = do
  length ← whole_at (codes "length") 0 65536 number
  Ok (if length == 0 then 65536 else length)

-- all fields are read before the other rules are tried
unfoldable pub stdout_in : Data → Result StdoutBody PropFault
stdout_in d = do
  text ← required_text_at (codes "task_id") d
  from ← number_at (codes "offset") d
  most ← number_at (codes "length") d
  id ← at (codes "task_id") (id_of text)
  offset ← whole_at (codes "offset") 0 67108864 from
  length ← length_of most
  Ok (record { id = id; offset = offset; length = length })

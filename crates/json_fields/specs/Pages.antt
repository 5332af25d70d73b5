-- How many rows a page shows.
use Rattle.std.specs.Prelude.{ℕ, ℤ, ◌==◌, if◌then◌else◌, Result, Ok, codes}
use Rattle.task_props.specs.declared.prop_fault.PropFault.{PropFault}
use Rattle.json_fields.specs.Readings.{◌>>=◌}
use Rattle.json_fields.specs.Ranges.{whole_at}

-- 0 to 200, where 0 means 50
unfoldable pub limit_of : ℤ → Result ℕ PropFault
limit_of number = do
  limit ← whole_at (codes "limit") 0 200 number
  Ok (if limit == 0 then 50 else limit)

-- What a refusal tells.
use Rattle.std.specs.Prelude.{ℕ, List, Result, Ok, codes}
use Rattle.serde_json.specs.Data.{Data}
use Rattle.refusal_codes.specs.Codes.{code_named}
use Rattle.server_calls.specs.Types.{Grammar, PropFault}
use Rattle.json_fields.specs.Readings.{◌>>=◌}
use Rattle.json_fields.specs.Fields.{required_text_at}
use Rattle.server_calls.specs.declared.told.Told.{Told}
use Rattle.server_calls.specs.declared.told.Told.TheVariants.{No}
use Rattle.server_calls.specs.Members.{or_rule}

-- the code of an object, and the body as it came
unfoldable pub refusal_in : List ℕ → Data → Result Told PropFault
refusal_in body d = do
  name ← required_text_at (codes "code") d
  code ← or_rule (codes "code") Grammar (code_named name)
  Ok (No code body)

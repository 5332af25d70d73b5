use Rattle.json_fields.proofs.IdDigits.{id_parses, never_err}
use Rattle.json_fields.proofs.ids.id_value.Goals as goal

pub returns-in-Err : goal.returns-in-Err
returns-in-Err c = never_err _ _ c.in-Err.is (id_parses c.args.text.now c.from_str_radix.result c.requires c.from_str_radix.ensures.value)

use Rattle.std.proofs.Common.{rules}
use Rattle.json_fields.proofs.BodyLemmas.{reading_some, reading_none}
use Rattle.json_fields.proofs.body.read_body.Goals as goal

pub returns-in-Ok : goal.returns-in-Ok
returns-in-Ok c = reading_some _ _ c.in-Ok.ensures.ok.0 c.in-Ok.ensures.ok.1

pub returns-else-is_memory : goal.returns-else-is_memory
returns-else-is_memory c = reading_none _ (c.in-Err.ensures.err (search rules))

use Rattle.client_commands.proofs.Batching.{name_utf8}
use Rattle.client_commands.proofs.batch_files.name_in.Goals as goal

pub returns-in-Err : goal.returns-in-Err
returns-in-Err c = absurd (c.in-Err.ensures.cases.0 (name_utf8 c.in-Some.name.now c.in-Some.ensures.is_name))

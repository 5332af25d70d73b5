use Rattle.std.proofs.Common.{sym, ◌∙◌, refl, Some, None}
use Rattle.swarm_batch.proofs.Heads.{no_line_end, line_named, line_unnamed}
use Rattle.swarm_batch.proofs.names.name_line.Goals as goal

pub returns-in_default : goal.returns-in_default
returns-in_default c = no_line_end c.args.text.now None c.in_default.ensures refl

pub returns-then-is_batch_name : goal.returns-then-is_batch_name
returns-then-is_batch_name c = line_named c.args.text.now (Some c.in-Some.end) c.in-Some.end c.in-Some.ensures refl (sym c.is_batch_name.ensures ∙ c.if-is_batch_name.true)

pub returns-else-is_batch_name : goal.returns-else-is_batch_name
returns-else-is_batch_name c = line_unnamed c.args.text.now (Some c.in-Some.end) c.in-Some.end c.in-Some.ensures refl (sym c.is_batch_name.ensures ∙ c.if-is_batch_name.false)

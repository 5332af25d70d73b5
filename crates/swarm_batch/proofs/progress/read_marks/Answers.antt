use Rattle.std.proofs.Common.{◌∙◌, refl}
use Rattle.swarm_batch.proofs.Walking.{stripped, tells_progress, other_head}
use Rattle.swarm_batch.proofs.progress.read_marks.Goals as goal

pub returns-in_default : goal.returns-in_default
returns-in_default c = (refl, λ rest e. other_head c.args.head.now c.args.text.now c.as_bytes.result.now rest (c.as_bytes.ensures.value ∙ c.in_ok-front.ensures.ok) c.in_default.ensures.cases e)

pub returns : goal.returns
returns c =
    tells_progress c.marks_of.result c.args.most c.args.head.now c.args.text.now c.in-Some.rest.now c.as_bytes.result.now (c.as_bytes.ensures.value ∙ c.in_ok-front.ensures.ok)
    (stripped c.args.text.now c.as_bytes.result.now c.in-Some.rest.now c.in-Some.ensures.cases.0 c.in-Some.ensures.cases.1) (c.marks_of.ensures c.in-Some.rest.now c.in_ok-cut.ensures)

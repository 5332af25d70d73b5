use Rattle.std.proofs.Common.{arith}
use Rattle.serde_json.specs.View.{view}
use Rattle.swarm_batch.proofs.Depths.{named_depth}
use Rattle.swarm_batch.proofs.named.name_task.Goals as goal

pub text_of-requires : goal.text_of-requires
text_of-requires c = named_depth c.args.line.now c.args.uuid.now (view c.in-Some.value) (view c.in-Some-2.value)
    (grind (arith, c.read_body.ensures, c.in_ok-value.was, c.in_ok-value.ensures, c.in-Some.is))
    (grind (arith, c.named_value.ensures, c.in_ok-value-2.was, c.in_ok-value-2.ensures, c.in-Some-2.is))

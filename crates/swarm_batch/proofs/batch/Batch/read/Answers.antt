use Rattle.std.proofs.Common.{sym, ◌∙◌, option_map}
use Rattle.swarm_batch.proofs.Opening.{refused, opened}
use Rattle.swarm_batch.proofs.batch.Batch.read.Goals as goal

pub returns-in-Ok : goal.returns-in-Ok
returns-in-Ok c =
    opened c.args.text.now c.args.name.now c.in_ok-cut.cut c.as_slice.result.now c.as_str.result.now c.from_string.result c.in_ok-called.called c.in-Ok.marks (option_map (λ x. x.now) c.args.done)
    c.in_ok-cut.ensures c.as_slice.ensures (c.as_str.ensures.value ∙ sym c.from_string.ensures) (c.from_string.ensures ∙ c.in_ok-head.ensures) c.in_ok-called.ensures c.in-Ok.ensures

pub returns-in-Err : goal.returns-in-Err
returns-in-Err c =
    refused c.args.text.now c.args.name.now c.in_ok-cut.cut c.as_slice.result.now c.as_str.result.now (option_map (λ x. x.now) c.args.done) c.in-Err.fault
    c.in_ok-cut.ensures c.as_slice.ensures (c.as_str.ensures.value ∙ c.in_ok-head.ensures) c.in-Err.ensures

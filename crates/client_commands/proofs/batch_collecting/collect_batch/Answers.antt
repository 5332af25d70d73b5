use Rattle.std.proofs.Common.{◌∙◌}
use Rattle.client_commands.specs.Batches.{collecting_lines}
use Rattle.client_commands.specs.Plans.{lacks_memory}
use Rattle.client_commands.proofs.Batching.{collected}
use Rattle.client_commands.proofs.batch_collecting.collect_batch.Goals as goal

pub returns-in_default : goal.returns-in_default
returns-in_default g c = lacks_memory _ _

pub returns-in-Err : goal.returns-in-Err
returns-in-Err g c = collected c.as_str.result.now c.args.path.now c.args.polls c.args.every (c.as_str.ensures.value ∙ c.in-Ok.ensures)
    (c.in-Err.ensures c.args.server.now (λ b. collecting_lines c.args.polls c.args.every 1 b.marks) (g.W.Dialer.state c.args.dialer.now) (g.C.Clock.waited c.args.clock.now))

pub returns : goal.returns
returns g c = collected c.as_str.result.now c.args.path.now c.args.polls c.args.every (c.as_str.ensures.value ∙ c.in-Ok.ensures)
    (c.in-Ok-open_named.ensures c.args.server.now (λ b. collecting_lines c.args.polls c.args.every 1 b.marks) (g.W.Dialer.state c.args.dialer.now) (g.C.Clock.waited c.args.clock.now) _ _
    (rw c.marks.ensures.are at c.collect_lines.ensures (g.F.Files.state c.open_named.new.files)))

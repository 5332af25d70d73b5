use Rattle.std.proofs.Common.{◌∙◌, Err}
use Rattle.client_commands.specs.Batches.{ended_line}
use Rattle.client_commands.specs.Plans.{lacks_memory, say}
use Rattle.client_commands.specs.Steps.{aside_of, world}
use Rattle.client_commands.proofs.Batching.{task_line_so}
use Rattle.client_commands.proofs.Following.{carried}
use Rattle.client_commands.proofs.batch_collecting.collect_task.Goals as goal

pub returns-in_default : goal.returns-in_default
returns-in_default g c = λ files next. lacks_memory _ _

pub returns-in_default-result_post : goal.returns-in_default-result_post
returns-in_default-result_post g c = λ files next. lacks_memory _ _

pub returns-in-Ok-await_end : goal.returns-in-Ok-await_end
returns-in-Ok-await_end g c = λ files next.
    task_line_so c.args.server.now (world (g.W.Dialer.state c.args.dialer.now) (g.L.Link.state c.args.console.now) (aside_of (g.C.Clock.waited c.args.clock.now) files))
    (world (g.W.Dialer.state c.await_end.new.dialer) (g.L.Link.state c.print_end.new.console) (aside_of (g.C.Clock.waited c.await_end.new.clock) files)) c.print_end.result
    c.as_str-id.result.now c.args.place c.args.task c.args.polls c.args.every c.args.line next (c.as_str-id.ensures.value ∙ c.in-Ok.ensures)
    (carried (λ _. next) _ c.print_end.result (c.in-Ok-await_end.ensures c.as_str-id.result.now files (λ view. say (ended_line c.args.line c.as_str-id.result.now view) next) c.in-Ok-result_post.ensures)
    (c.print_end.ensures c.args.server.now next (g.W.Dialer.state c.await_end.new.dialer) (aside_of (g.C.Clock.waited c.await_end.new.clock) files)))

pub returns : goal.returns
returns g c = λ files next.
    task_line_so c.args.server.now (world (g.W.Dialer.state c.args.dialer.now) (g.L.Link.state c.args.console.now) (aside_of (g.C.Clock.waited c.args.clock.now) files))
    (world (g.W.Dialer.state c.await_end.new.dialer) (g.L.Link.state c.await_end.new.console) (aside_of (g.C.Clock.waited c.await_end.new.clock) files)) (Err c.in-Err.status)
    c.as_str-id.result.now c.args.place c.args.task c.args.polls c.args.every c.args.line next (c.as_str-id.ensures.value ∙ c.in-Ok.ensures)
    (c.in-Err.ensures c.as_str-id.result.now files (λ view. say (ended_line c.args.line c.as_str-id.result.now view) next) c.in-Ok-result_post.ensures)

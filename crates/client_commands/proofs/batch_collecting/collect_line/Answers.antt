use Rattle.client_commands.specs.Steps.{aside_of}
use Rattle.client_commands.proofs.batch_collecting.collect_line.Goals as goal

pub returns-in-Task : goal.returns-in-Task
returns-in-Task g c = λ files next. rw c.in-Task.is (c.collect_task.ensures files next)

pub returns-in-Refused : goal.returns-in-Refused
returns-in-Refused g c = λ files next.
    rw c.in-Refused.is (rw c.in-Refused.is at c.print_refused.ensures c.args.server.now next (g.W.Dialer.state c.args.dialer.now) (aside_of (g.C.Clock.waited c.args.clock.now) files))

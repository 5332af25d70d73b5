use Rattle.std.proofs.Common.{ℕ, List}
use Rattle.sw_base.specs.Files.{FilesState}
use Rattle.swarm_model.specs.declared.task_view.TaskView.{TaskView}
use Rattle.client_commands.specs.Commands.{awaiting}
use Rattle.client_commands.specs.Plans.{Plan}
use Rattle.client_commands.specs.Requests.{Posts, result_call}
use Rattle.client_commands.specs.Steps.{aside_of, world, Leads}
use Rattle.client_commands.proofs.polls.await_end.Given as goal

abbrev pub invariant-polls : goal.invariant-polls
invariant-polls g l = (id : List ℕ) (files : FilesState) (next : TaskView → Plan) → Posts (result_call id) l.post →
    Leads l.server (awaiting id l.every next l.polls) (world (g.W.Dialer.state l.fn.dialer) (g.L.Link.state l.fn.console) (aside_of (g.C.Clock.waited l.fn.clock) files))
    (awaiting id l.every next l.left) (world (g.W.Dialer.state l.dialer) (g.L.Link.state l.console) (aside_of (g.C.Clock.waited l.clock) files))

abbrev pub decreases-polls : goal.decreases-polls
decreases-polls g l = l.left

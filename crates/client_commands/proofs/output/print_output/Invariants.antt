use Rattle.std.proofs.Common.{◌+◌, ◌*◌, ◌≤◌}
use Rattle.client_commands.specs.Commands.{fetching}
use Rattle.client_commands.specs.Steps.{Aside, world, Leads}
use Rattle.client_commands.proofs.output.print_output.Given as goal

abbrev pub invariant-pieces : goal.invariant-pieces
invariant-pieces g l = (l.offset + 65536 * l.left ≤ 67108864) × ((aside : Aside) →
    Leads l.server (fetching l.id l.pieces 0) (world (g.W.Dialer.state l.fn.dialer) (g.L.Link.state l.fn.console) aside)
    (fetching l.id l.left l.offset) (world (g.W.Dialer.state l.dialer) (g.L.Link.state l.console) aside))

abbrev pub decreases-pieces : goal.decreases-pieces
decreases-pieces g l = l.left

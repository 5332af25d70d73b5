use Rattle.std.proofs.Common.{ℕ, Option}
use Rattle.client_commands.specs.Batches.{lines_left, sending}
use Rattle.client_commands.specs.Steps.{aside_of, world, Leads}
use Rattle.client_commands.proofs.spawning.send_lines.Given as goal

abbrev pub invariant-lines : goal.invariant-lines
invariant-lines g l = (waited : Option ℕ) →
    Leads l.server (sending l.done (lines_left l.fn.batch) l.fn.batch) (world (g.W.Dialer.state l.fn.dialer) (g.L.Link.state l.fn.console) (aside_of waited (g.F.Files.state l.fn.files)))
    (sending l.done (lines_left l.batch) l.batch) (world (g.W.Dialer.state l.dialer) (g.L.Link.state l.console) (aside_of waited (g.F.Files.state l.files)))

abbrev pub decreases-lines : goal.decreases-lines
decreases-lines g l = lines_left l.batch

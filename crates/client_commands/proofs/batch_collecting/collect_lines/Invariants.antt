use Rattle.std.proofs.Common.{◌+◌, drop}
use Rattle.sw_base.specs.Files.{FilesState}
use Rattle.client_commands.specs.Batches.{collecting_lines}
use Rattle.client_commands.specs.Steps.{aside_of, world, Leads}
use Rattle.client_commands.proofs.batch_collecting.collect_lines.Given as goal

abbrev pub invariant-loop-place : goal.invariant-loop-place
invariant-loop-place g l = (files : FilesState) →
    Leads l.server (collecting_lines l.polls l.every 1 l.marks) (world (g.W.Dialer.state l.fn.dialer) (g.L.Link.state l.fn.console) (aside_of (g.C.Clock.waited l.fn.clock) files))
    (collecting_lines l.polls l.every (l.place + 1) (drop l.place l.marks)) (world (g.W.Dialer.state l.dialer) (g.L.Link.state l.console) (aside_of (g.C.Clock.waited l.clock) files))

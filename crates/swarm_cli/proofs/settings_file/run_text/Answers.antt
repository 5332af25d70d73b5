-- The line for the first broken rule.
use Rattle.swarm_cli.specs.Handling.{service_of}
use Rattle.swarm_cli.proofs.Refusals.{text_refused}
use Rattle.swarm_cli.proofs.settings_file.run_text.Goals as goal

pub returns-in-Err : goal.returns-in-Err
returns-in-Err g c =
    text_refused (service_of c.args.service.now) c.in-Err.fault c.args.text.now (g.P.Store.state c.args.store.now) (g.P.Store.state c.args.store.now)
    (record { console = g.L.Link.state c.args.console.now; clock = g.C.Clock.ahead c.args.clock.now; listener = g.N.Listener.state c.args.listener.now })
    (record { console = g.L.Link.state c.print_fault.new.console; clock = g.C.Clock.ahead c.args.clock.now; listener = g.N.Listener.state c.args.listener.now })
    c.print_fault.result c.in-Err.ensures.reads
    (c.print_fault.ensures (g.C.Clock.ahead c.args.clock.now) (g.N.Listener.state c.args.listener.now) (g.P.Store.state c.args.store.now))

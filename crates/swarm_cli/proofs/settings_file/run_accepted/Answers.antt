-- A command over new logs, and the lines for records and several workers or boards.
use Rattle.std.proofs.Common.{ℕ, List, Option, sym, subst}
use Rattle.swarm_cli.specs.Handling.{service_of}
use Rattle.swarm_cli.specs.SettingsFile.{RunsUnder}
use Rattle.swarm_cli.proofs.settings_file.run_accepted.Goals as goal

pub returns-in-None : goal.returns-in-None
returns-in-None g c =
    subst
    (λ (folder : Option (List ℕ)). RunsUnder (service_of c.args.service.now) folder c.args.settings.now (g.P.Store.state c.args.store.now) (g.P.Store.state c.args.store.now)
    (record { console = g.L.Link.state c.args.console.now; clock = g.C.Clock.ahead c.args.clock.now; listener = g.N.Listener.state c.args.listener.now })
    (record { console = g.L.Link.state c.run_unkept.new.console; clock = g.C.Clock.ahead c.run_unkept.new.clock; listener = g.N.Listener.state c.run_unkept.new.listener }) c.run_unkept.result)
    (sym c.in-None.is) (c.run_unkept.ensures (g.P.Store.state c.args.store.now))

pub returns-in-BySeveral : goal.returns-in-BySeveral
returns-in-BySeveral g c =
    rw (c.in-Some.is, c.in-BySeveral.is) (c.print_refusal.ensures (g.C.Clock.ahead c.args.clock.now) (g.N.Listener.state c.args.listener.now) (g.P.Store.state c.args.store.now))

pub returns-in-WithBoards : goal.returns-in-WithBoards
returns-in-WithBoards g c =
    rw (c.in-Some.is, c.in-WithBoards.is, ← c.store_rule.ensures) (c.print_refusal-in-WithBoards.ensures (g.C.Clock.ahead c.args.clock.now) (g.N.Listener.state c.args.listener.now) (g.P.Store.state c.args.store.now))

pub returns-in-Checkpoint : goal.returns-in-Checkpoint
returns-in-Checkpoint g c =
    let ran = c.run_checkpoint.ensures (g.C.Clock.ahead c.args.clock.now) (g.N.Listener.state c.args.listener.now) in
    subst
    (λ (folder : Option (List ℕ)). RunsUnder (service_of c.args.service.now) folder c.args.settings.now (g.P.Store.state c.args.store.now) (g.P.Store.state c.run_checkpoint.new.store)
    (record { console = g.L.Link.state c.args.console.now; clock = g.C.Clock.ahead c.args.clock.now; listener = g.N.Listener.state c.args.listener.now })
    (record { console = g.L.Link.state c.run_checkpoint.new.console; clock = g.C.Clock.ahead c.args.clock.now; listener = g.N.Listener.state c.args.listener.now }) c.run_checkpoint.result)
    (sym c.in-Some.is) (rw (c.in-Checkpoint.is, ← c.as_str-in-Checkpoint.ensures) ran)

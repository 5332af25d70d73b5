use Rattle.std.proofs.Common.{map, sum_by}
use Rattle.swarm_cli.specs.Handling.{work_of}
use Rattle.swarm_cli.proofs.KeptSessions.{not_attached, kept_over}
use Rattle.swarm_cli.proofs.kept_records.run_kept.Goals as goal

pub returns-in-Ok : goal.returns-in-Ok
returns-in-Ok g c =
    kept_over (work_of c.args.command.now) c.args.settings.now c.args.folder.now (g.P.Store.state c.args.store.now) (g.P.Store.state c.attach_all.new.store) (g.P.Store.state c.detach_all.new.store)
    (record { console = g.L.Link.state c.args.console.now; clock = g.C.Clock.ahead c.args.clock.now; listener = g.N.Listener.state c.args.listener.now })
    (record { console = g.L.Link.state c.run_over-status.new.console; clock = g.C.Clock.ahead c.run_over-status.new.clock; listener = g.N.Listener.state c.run_over-status.new.listener })
    c.run_over-status.result.0
    (sum_by g.P.Keeper.Keeper.faults c.in-Ok.keepers.items) (sum_by g.P.Keeper.Keeper.faults c.run_over-status.result.1.items)
    (map g.P.Keeper.Keeper.tables c.in-Ok.keepers.items) (map g.P.Keeper.Keeper.tables c.run_over-status.result.1.items)
    (rw (← c.as_slice-pools.ensures) c.in-Ok.ensures.attached) c.run_over-status.ensures.runs c.run_over-status.ensures.told (rw (← c.as_slice-pools.ensures) c.detach_all.ensures)

pub returns-in-Err : goal.returns-in-Err
returns-in-Err g c =
    not_attached (work_of c.args.command.now) c.args.settings.now c.args.folder.now (g.P.Store.state c.args.store.now) (g.P.Store.state c.attach_all.new.store)
    (record { console = g.L.Link.state c.args.console.now; clock = g.C.Clock.ahead c.args.clock.now; listener = g.N.Listener.state c.args.listener.now })
    c.start_status.result c.in-Err.fault c.in-Err.ensures.not_attached c.start_status.ensures

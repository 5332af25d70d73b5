use Rattle.std.proofs.Common.{◌∙◌, map, length, ap, sym}
use Rattle.std.specs.Prelude.{sum_by}
use Rattle.swarm_model.specs.declared.pool_settings.Settings.{Settings}
use Rattle.swarm_cli.specs.KeptRecords.{with_door, without_door}
use Rattle.swarm_cli.proofs.KeptSessions.{kept_ran, new_ran, not_loaded, goes_on_telling}
use Rattle.swarm_cli.proofs.serving.run_over.Goals as goal

pub returns-in-Ok-clause-runs : goal.returns-in-Ok-clause-runs
returns-in-Ok-clause-runs g c =
    with_door
    (kept_ran _ c.deref.result.now c.end-machines.result.0.items c.args.command.now c.args.settings.now (map g.K.Keeper.tables c.args.keepers.items) (map g.K.Keeper.tables c.end-machines.result.1.items)
    (sum_by g.K.Keeper.faults c.end-machines.result.1.items)
    (record { console = g.L.Link.state c.args.console.now; clock = g.C.Clock.ahead c.args.clock.now; listener = g.N.Listener.state c.args.listener.now })
    (record { console = g.L.Link.state c.use_door-used.new.console; clock = g.C.Clock.ahead c.use_door-used.new.clock; listener = g.N.Listener.state c.use_door-used.new.listener })
    (g.L.Link.state c.finish.new.console) c.use_door-used.result c.finish.result c.as_slice-pools.result.now
    c.use_door-used.ensures.door c.in-Ok.ensures.fresh c.in-Ok.ensures.bases c.in-Ok.ensures.lines c.in-Ok.ensures.records c.use_door-used.ensures.used c.deref.ensures.value
    c.end-machines.ensures.starts c.end-machines.ensures.logs c.end-machines.ensures.bases c.end-machines.ensures.lines c.end-machines.ensures.restores c.end-machines.ensures.told c.end-machines.ensures.faults c.as_slice-pools.ensures c.finish.ensures)

pub returns-in-Ok-clause-new : goal.returns-in-Ok-clause-new
returns-in-Ok-clause-new g c = λ sure.
    new_ran _ c.deref.result.now c.end-machines.result.0.items c.args.command.now c.args.settings.now
    (record { console = g.L.Link.state c.args.console.now; clock = g.C.Clock.ahead c.args.clock.now; listener = g.N.Listener.state c.args.listener.now })
    (record { console = g.L.Link.state c.use_door-used.new.console; clock = g.C.Clock.ahead c.use_door-used.new.clock; listener = g.N.Listener.state c.use_door-used.new.listener })
    (g.L.Link.state c.finish.new.console) c.use_door-used.result c.finish.result c.as_slice-pools.result.now
    c.use_door-used.ensures.door c.in-Ok.ensures.fresh (c.in-Ok.ensures.opening sure) (c.in-Ok.ensures.nothing sure) c.use_door-used.ensures.used c.deref.ensures.value
    c.end-machines.ensures.starts c.end-machines.ensures.logs c.as_slice-pools.ensures c.finish.ensures

pub returns-in-Ok-clause-told : goal.returns-in-Ok-clause-told
returns-in-Ok-clause-told g c =
    goes_on_telling g.K.Keeper.tables g.K.Keeper.TELLS g.K.Keeper.tells c.args.keepers.items c.end-machines.result.1.items
    (c.requires.count ∙ sym (c.end-machines.ensures.keepers ∙ ap (λ (x : Settings). length x.pools) (c.use_door-used.ensures.door.settings ∙ c.in-Ok.ensures.fresh.settings_are)))

pub returns-in-Err-clause-runs : goal.returns-in-Err-clause-runs
returns-in-Err-clause-runs g c =
    without_door
    (not_loaded c.args.settings.now (map g.K.Keeper.tables c.args.keepers.items) (sum_by g.K.Keeper.faults c.args.keepers.items) (sum_by g.K.Keeper.faults c.in-Err.keepers.items)
    (record { console = g.L.Link.state c.args.console.now; clock = g.C.Clock.ahead c.args.clock.now; listener = g.N.Listener.state c.args.listener.now })
    (g.L.Link.state c.tell_fault.new.console) c.tell_fault.result c.in-Err.fault c.tell_fault.ensures c.in-Err.ensures.bad c.in-Err.ensures.failed)
    c.in-Err.ensures.back

use Rattle.std.proofs.Common.{map, sum_by}
use Rattle.swarm_cli.proofs.Checkpoints.{checkpoint_ran, none_attached}
use Rattle.swarm_cli.proofs.checkpoint.run_checkpoint.Goals as goal

pub returns-in-Ok : goal.returns-in-Ok
returns-in-Ok g c = λ clock listener.
    checkpoint_ran c.args.settings.now c.args.folder.now (g.P.Store.state c.args.store.now) (g.P.Store.state c.attach_all.new.store) (g.P.Store.state c.detach_all.new.store)
    (record { console = g.L.Link.state c.args.console.now; clock = clock; listener = listener }) (g.L.Link.state c.tell_end.new.console) c.tell_end.result
    (sum_by g.P.Keeper.Keeper.faults c.in-Ok.keepers.items) (sum_by g.P.Keeper.Keeper.faults c.checkpoint_over-end.result.1.items)
    (map g.P.Keeper.Keeper.tables c.in-Ok.keepers.items) (map g.P.Keeper.Keeper.tables c.checkpoint_over-end.result.1.items) c.checkpoint_over-end.result.0
    (rw (← c.as_slice-pools.ensures) c.in-Ok.ensures.attached) c.checkpoint_over-end.ensures.ends c.checkpoint_over-end.ensures.told (rw (← c.as_slice-pools.ensures) c.detach_all.ensures) c.tell_end.ensures

pub returns-in-Err : goal.returns-in-Err
returns-in-Err g c = λ clock listener.
    none_attached c.args.settings.now c.args.folder.now (g.P.Store.state c.args.store.now) (g.P.Store.state c.attach_all.new.store)
    (record { console = g.L.Link.state c.args.console.now; clock = clock; listener = listener }) c.start_status.result c.in-Err.fault c.in-Err.ensures.not_attached c.start_status.ensures

-- The machines are those of the door.
use Rattle.std.proofs.Common.{length, map}
use Rattle.swarm_history.specs.Machines.{pools_of}
use Rattle.swarm_history.proofs.Anew.{machines_restorable}
use Rattle.swarm_history.proofs.Checkpoints.{all_begun, lent_begun}
use Rattle.swarm_history.proofs.plain_door.PlainDoor.checkpoint.Goals as goal

pub returns-in-Ok-clause-ok : goal.returns-in-Ok-clause-ok
returns-in-Ok-clause-ok g c =
    all_begun g.M.Machine.kept c.args.self.machines.items c.as_slice-all.result.now (map g.K.Keeper.tables c.args.self.keepers.items) (map g.K.Keeper.tables c.begin_all_anew.new.keepers.items)
    c.as_slice-all.ensures.value c.in-Ok.ensures.ok

pub returns-in-Ok-clause-restores : goal.returns-in-Ok-clause-restores
returns-in-Ok-clause-restores g c =
    let machines = c.args.self.machines.items in
    let lent = c.as_slice-all.result.now in
    let old = map g.K.Keeper.tables c.args.self.keepers.items in
    let new = map g.K.Keeper.tables c.begin_all_anew.new.keepers.items in
    machines_restorable g.M.Machine.kept machines lent (length (pools_of (map g.M.Machine.kept machines))) old new c.as_slice-all.ensures.value c.see_histories.ensures c.args.self.held c.args.self.records
    (all_begun g.M.Machine.kept machines lent old new c.as_slice-all.ensures.value c.in-Ok.ensures.ok)

pub returns-clause-restores_back : goal.returns-clause-restores_back
returns-clause-restores_back g c =
    let machines = c.args.self.machines.items in
    let lent = c.as_slice-all.result.now in
    let old = map g.K.Keeper.tables c.args.self.keepers.items in
    let new = map g.K.Keeper.tables c.begin_all_anew.new.keepers.items in
    machines_restorable g.M.Machine.kept machines lent c.in-Err.fault.place old new c.as_slice-all.ensures.value c.see_histories.ensures c.args.self.held c.args.self.records
    (lent_begun g.M.Machine.kept machines lent c.in-Err.fault.place old new c.as_slice-all.ensures.value c.in-Err.ensures.err)

-- What the keepers tell is of the machines.
use Rattle.std.proofs.Common.{map}
use Rattle.swarm_model.specs.MachineState.{IsHistory}
use Rattle.swarm_history.proofs.Keepers.{bases_kept}
use Rattle.swarm_history.proofs.Restoring.{of_lent, restorable}
use Rattle.swarm_history.proofs.plain_door.PlainDoor.end.Goals as goal

pub returns-clause-restores : goal.returns-clause-restores
returns-clause-restores g c =
    restorable (map g.K.Keeper.tables c.args.self.keepers.items) (map g.M.Machine.kept c.args.self.machines.items)
    (of_lent g.M.Machine.kept IsHistory c.args.self.machines.items c.as_slice.result.now c.as_slice.ensures.value c.see_histories.ensures) c.args.self.held c.args.self.records

pub returns-clause-bases : goal.returns-clause-bases
returns-clause-bases g c = bases_kept (map g.K.Keeper.tables c.args.self.keepers.items) (map g.M.Machine.kept c.args.self.machines.items) c.args.self.records

-- The machine at the place answers, over its keeper.
use Rattle.std.proofs.Common.{arith, map, sym, ◌∙◌, set}
use Rattle.std.specs.Prelude.{IsTrue}
use Rattle.std.specs.List.{sum_by}
use Rattle.std.proofs.lemmas.List.{length-map, length-set}
use Rattle.swarm_model.specs.declared.pool_settings.PoolSettings.{PoolSettings}
use Rattle.swarm_model.specs.Fits.{fits}
use Rattle.pool_doors.specs.Calls.{call_of}
use Rattle.swarm_history.proofs.Keepers.{lines_kept, records_at, records_set, sum_grows, sum_counts}
use Rattle.swarm_history.proofs.Machines.{within, machine_of, held_at, all_held, own_call}
use Rattle.swarm_history.proofs.plain_door.PlainDoorDoor.call.Goals as goal

pub index_mut-machine-requires : goal.index_mut-machine-requires
index_mut-machine-requires g c =
    let low = within g.M.Machine.kept c.args.self.now.machines.items c.args.place c.requires.place in omega (arith, low)

pub index_mut-keeper-requires : goal.index_mut-keeper-requires
index_mut-keeper-requires g c =
    let low = within g.M.Machine.kept c.args.self.now.machines.items c.args.place c.requires.place in
    let paired = c.args.self.now.paired in
    omega (arith, low, paired)

pub call_machine-requires-clause-fits : goal.call_machine-requires-clause-fits
call_machine-requires-clause-fits g c =
    machine_of g.M.Machine.kept (λ (pool : PoolSettings). IsTrue (fits pool c.args.call.now.request.now)) c.args.self.now.machines.items c.args.place
    c.index_mut-machine.result.now c.requires.place c.index_mut-machine.ensures.value c.requires.fits

pub call_machine-requires-clause-held : goal.call_machine-requires-clause-held
call_machine-requires-clause-held g c =
    held_at g.M.Machine.kept c.args.self.now.machines.items c.args.place c.index_mut-machine.result.now c.requires.place c.index_mut-machine.ensures.value c.args.self.now.held

pub call_machine-requires-clause-records : goal.call_machine-requires-clause-records
call_machine-requires-clause-records g c =
    let low = within g.M.Machine.kept c.args.self.now.machines.items c.args.place c.requires.place in
    let paired = c.args.self.now.paired in
    records_at g.M.Machine.kept g.K.Keeper.tables c.args.self.now.machines.items c.args.self.now.keepers.items c.args.place
    c.index_mut-machine.result.now c.index_mut-keeper.result.now low (omega (arith, low, paired))
    c.index_mut-machine.ensures.value c.index_mut-keeper.ensures.value c.args.self.now.records

pub invariant_of-self : goal.invariant_of-self
invariant_of-self g c = record {
  few = let few = c.args.self.now.few in omega (arith, few, length-set c.args.self.now.machines.items c.args.place c.call_machine.new.machine);
  paired = length-set c.args.self.now.keepers.items c.args.place c.call_machine.new.keeper ∙ c.args.self.now.paired ∙ sym (length-set c.args.self.now.machines.items c.args.place c.call_machine.new.machine);
  held = all_held g.M.Machine.kept c.args.self.now.machines.items c.args.place c.call_machine.new.machine c.args.self.now.held c.call_machine.ensures.held;
  records = records_set g.M.Machine.kept g.K.Keeper.tables c.args.self.now.machines.items c.args.self.now.keepers.items c.args.place
      c.call_machine.new.machine c.call_machine.new.keeper c.call_machine.ensures.records c.args.self.now.records;
}

pub returns : goal.returns
returns g c =
    let low = within g.M.Machine.kept c.args.self.now.machines.items c.args.place c.requires.place in
    let paired = c.args.self.now.paired in
    let faults = g.K.Keeper.faults in
    let machines = c.args.self.now.machines.items in
    let keepers = c.args.self.now.keepers.items in
    own_call g.M.Machine.kept g.K.Keeper.tables c.args.self.now.store machines keepers
    (sum_by faults keepers) (sum_by faults (set keepers c.args.place c.call_machine.new.keeper)) c.args.self.now.calls c.args.place
    (call_of 0 c.args.call.now)
    c.call_machine.result c.index_mut-machine.result.now c.call_machine.new.machine c.index_mut-keeper.result.now c.call_machine.new.keeper
    c.requires.place (omega (arith, low, paired)) c.index_mut-machine.ensures.value c.index_mut-keeper.ensures.value c.call_machine.ensures.start c.call_machine.ensures.settings
    (sum_grows faults keepers c.args.place c.index_mut-keeper.result.now c.call_machine.new.keeper (omega (arith, low, paired)) c.index_mut-keeper.ensures.value c.call_machine.ensures.grows)
    (sum_counts faults keepers c.args.place c.index_mut-keeper.result.now c.call_machine.new.keeper (omega (arith, low, paired)) c.index_mut-keeper.ensures.value c.call_machine.result c.call_machine.ensures.failed)
    c.call_machine.ensures.no_other_blobs
    (lines_kept (map g.K.Keeper.tables (set keepers c.args.place c.call_machine.new.keeper)) (map g.M.Machine.kept (set machines c.args.place c.call_machine.new.machine))
    (omega (
      arith,
      paired,
      length-set keepers c.args.place c.call_machine.new.keeper,
      length-set machines c.args.place c.call_machine.new.machine,
      length-map (set keepers c.args.place c.call_machine.new.keeper) g.K.Keeper.tables,
      length-map (set machines c.args.place c.call_machine.new.machine) g.M.Machine.kept,
    ))
    (records_set g.M.Machine.kept g.K.Keeper.tables machines keepers c.args.place c.call_machine.new.machine c.call_machine.new.keeper c.call_machine.ensures.records c.args.self.now.records))
    c.call_machine.ensures.base c.call_machine.ensures.done

-- The machines are those of the records, and so are the settings and the logs.
use Rattle.std.proofs.Common.{map, arith, sym, subst, ◌∙◌}
use Rattle.std.specs.List.{sum_by}
use Rattle.std.proofs.lemmas.List.{length-map}
use Rattle.swarm_history.specs.Records.{AreRecordsOf}
use Rattle.swarm_history.proofs.Keepers.{lines_kept}
use Rattle.swarm_history.proofs.LoadedMachines.{few_pools, loaded_held, loaded_records, loaded_bases, fresh_door, nothing_seen, nothing_before}
use Rattle.swarm_history.proofs.plain_door.PlainDoor.new.Goals as goal

pub invariant_of-result : goal.invariant_of-result
invariant_of-result g c =
    let machines = map g.M.Machine.kept c.in-Ok-load_machines.machines.items in
    let tables = map g.K.Keeper.tables c.args.keepers.items in
    let are = c.in-Ok-load_machines.ensures.loaded in
    let all = c.in-Ok-load_machines.ensures.count in
    record {
      few = omega (arith, all, few_pools c.args.settings.now c.requires.rules);
      paired = c.load_machines.ensures.all_stay ∙ c.requires.keepers ∙ sym c.in-Ok-load_machines.ensures.count;
      held = loaded_held c.args.settings.now.pools tables machines are;
      records = subst (λ told. AreRecordsOf told machines) (sym c.load_machines.ensures.stays) (loaded_records c.args.settings.now.pools tables machines are);
    }

pub returns-in-Ok-load_machines-clause-fresh : goal.returns-in-Ok-load_machines-clause-fresh
returns-in-Ok-load_machines-clause-fresh g c =
    let machines = map g.M.Machine.kept c.in-Ok-load_machines.machines.items in
    fresh_door c.args.settings.now c.in-Ok.store (map g.K.Keeper.tables c.args.keepers.items) (map g.K.Keeper.tables c.load_machines.new.keepers.items) machines (sum_by g.K.Keeper.faults c.load_machines.new.keepers.items) c.in-Ok.ensures
    (length-map c.in-Ok-load_machines.machines.items g.M.Machine.kept ∙ c.in-Ok-load_machines.ensures.count) c.in-Ok-load_machines.ensures.loaded

pub returns-in-Ok-load_machines-clause-lines : goal.returns-in-Ok-load_machines-clause-lines
returns-in-Ok-load_machines-clause-lines g c =
    let machines = map g.M.Machine.kept c.in-Ok-load_machines.machines.items in
    let tables = map g.K.Keeper.tables c.args.keepers.items in
    let all = c.in-Ok-load_machines.ensures.count in
    let keepers = c.requires.keepers in
    lines_kept tables machines
    (omega (arith, all, keepers, length-map c.in-Ok-load_machines.machines.items g.M.Machine.kept, length-map c.args.keepers.items g.K.Keeper.tables))
    (loaded_records c.args.settings.now.pools tables machines c.in-Ok-load_machines.ensures.loaded)

pub returns-in-Ok-load_machines-clause-nothing : goal.returns-in-Ok-load_machines-clause-nothing
returns-in-Ok-load_machines-clause-nothing g c = λ sure. nothing_seen (map g.M.Machine.kept c.in-Ok-load_machines.machines.items) (c.in-Ok-load_machines.ensures.nothing sure)

pub returns-in-Ok-load_machines-clause-bases : goal.returns-in-Ok-load_machines-clause-bases
returns-in-Ok-load_machines-clause-bases g c =
    let machines = map g.M.Machine.kept c.in-Ok-load_machines.machines.items in
    loaded_bases c.args.settings.now.pools (map g.K.Keeper.tables c.args.keepers.items) machines
    (length-map c.in-Ok-load_machines.machines.items g.M.Machine.kept ∙ c.in-Ok-load_machines.ensures.count) c.in-Ok-load_machines.ensures.loaded

pub returns-in-Ok-load_machines-clause-opening : goal.returns-in-Ok-load_machines-clause-opening
returns-in-Ok-load_machines-clause-opening g c = λ sure.
    let machines = map g.M.Machine.kept c.in-Ok-load_machines.machines.items in
    nothing_before c.args.settings.now.pools (map g.K.Keeper.tables c.args.keepers.items) machines
    (length-map c.in-Ok-load_machines.machines.items g.M.Machine.kept ∙ c.in-Ok-load_machines.ensures.count) c.in-Ok-load_machines.ensures.loaded (c.in-Ok-load_machines.ensures.nothing sure)

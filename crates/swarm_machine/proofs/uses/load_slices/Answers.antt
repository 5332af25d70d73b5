use Rattle.std.proofs.Common.{List, sym, subst}
use Rattle.std.specs.List.{count_by}
use Rattle.task_props.specs.declared.file.File.{File}
use Rattle.swarm_model.specs.Uses.{is_file_of}
use Rattle.index_laws.specs.TaskUses.{inputs_with}
use Rattle.swarm_machine.specs.Uses.{AddsUses, HasRoomFor}
use Rattle.swarm_machine.proofs.UsesChange.{room_for_item, gains_item}
use Rattle.swarm_machine.proofs.uses.load_slices.Goals as goal

pub load_inputs-requires : goal.load_inputs-requires
load_inputs-requires c =
    subst (λ (inputs : List File). HasRoomFor (λ digest. count_by (is_file_of digest) inputs) c.loop-slice.uses) (sym c.as_slice.ensures)
    (room_for_item c.args.slices.now c.loop-slice.slice-index c.slice-item.result c.loop-slice-test.true c.slice-item.is inputs_with c.args.uses.now c.loop-slice.uses c.requires c.loop-slice.invariant)

pub loop-slice-preserved : goal.loop-slice-preserved
loop-slice-preserved c =
    let now = c.loop-slice.uses in
    let new = c.load_inputs.new.uses in
    gains_item c.args.slices.now c.loop-slice.slice-index c.slice-item.result c.loop-slice-test.true c.slice-item.is inputs_with c.args.uses.now now new c.loop-slice.invariant
    (subst (λ (inputs : List File). AddsUses (λ digest. count_by (is_file_of digest) inputs) now new) c.as_slice.ensures c.in_ok-load_inputs.ensures)

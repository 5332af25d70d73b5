use Rattle.std.proofs.Common.{List, sym, subst}
use Rattle.std.specs.List.{All, count_by}
use Rattle.task_props.specs.declared.file.File.{File}
use Rattle.swarm_model.specs.Uses.{is_file_of}
use Rattle.pool_index.specs.Uses.{IsListed}
use Rattle.pool_index.proofs.UseKeys.{kept_then}
use Rattle.index_laws.specs.TaskUses.{inputs_with}
use Rattle.swarm_machine.specs.Uses.{AreInputsListed, AddsUses, HasRoomFor}
use Rattle.swarm_machine.proofs.UsesChange.{slices_stay, of_item, room_for_item, gains_item}
use Rattle.swarm_machine.proofs.uses.add_slices.Goals as goal

pub add_inputs-requires-clause-listed : goal.add_inputs-requires-clause-listed
add_inputs-requires-clause-listed c =
    subst (λ (inputs : List File). All (λ file. IsListed c.loop-slice.uses file.digest) inputs) (sym c.as_slice.ensures)
    (of_item c.args.slices.now c.loop-slice.slice-index c.slice-item.result c.loop-slice-test.true c.slice-item.is (AreInputsListed c.loop-slice.uses)
    (slices_stay c.args.uses.now c.loop-slice.uses c.loop-slice.invariant.kept c.args.slices.now c.requires.listed))

pub add_inputs-requires-clause-small : goal.add_inputs-requires-clause-small
add_inputs-requires-clause-small c =
    subst (λ (inputs : List File). HasRoomFor (λ digest. count_by (is_file_of digest) inputs) c.loop-slice.uses) (sym c.as_slice.ensures)
    (room_for_item c.args.slices.now c.loop-slice.slice-index c.slice-item.result c.loop-slice-test.true c.slice-item.is inputs_with c.args.uses.now c.loop-slice.uses c.requires.small
    c.loop-slice.invariant.gains)

pub loop-slice-preserved : goal.loop-slice-preserved
loop-slice-preserved c =
    let i = c.loop-slice.invariant in
    let old = c.args.uses.now in
    let now = c.loop-slice.uses in
    let new = c.add_inputs.new.uses in
    record {
      gains =
          gains_item c.args.slices.now c.loop-slice.slice-index c.slice-item.result c.loop-slice-test.true c.slice-item.is inputs_with old now new i.gains
          (subst (λ (inputs : List File). AddsUses (λ digest. count_by (is_file_of digest) inputs) now new) c.as_slice.ensures c.add_inputs.ensures.gains);
      kept = kept_then old now new i.kept c.add_inputs.ensures.kept;
    }

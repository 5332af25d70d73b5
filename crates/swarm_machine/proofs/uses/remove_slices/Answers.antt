use Rattle.std.proofs.Common.{List, sym, subst}
use Rattle.std.specs.List.{count_by}
use Rattle.task_props.specs.declared.file.File.{File}
use Rattle.swarm_model.specs.Uses.{is_file_of}
use Rattle.index_laws.specs.TaskUses.{inputs_with}
use Rattle.swarm_machine.specs.Uses.{RemovesUses, HasUsesFor}
use Rattle.swarm_machine.proofs.UsesChange.{uses_for_item, loses_item}
use Rattle.swarm_machine.proofs.uses.remove_slices.Goals as goal

pub remove_inputs-requires : goal.remove_inputs-requires
remove_inputs-requires c =
    subst (λ (inputs : List File). HasUsesFor (λ digest. count_by (is_file_of digest) inputs) c.loop-slice.uses) (sym c.as_slice.ensures)
    (uses_for_item c.args.slices.now c.loop-slice.slice-index c.slice-item.result c.loop-slice-test.true c.slice-item.is inputs_with c.args.uses.now c.loop-slice.uses c.requires c.loop-slice.invariant)

pub loop-slice-preserved : goal.loop-slice-preserved
loop-slice-preserved c =
    let now = c.loop-slice.uses in
    let new = c.remove_inputs.new.uses in
    loses_item c.args.slices.now c.loop-slice.slice-index c.slice-item.result c.loop-slice-test.true c.slice-item.is inputs_with c.args.uses.now now new c.loop-slice.invariant
    (subst (λ (inputs : List File). RemovesUses (λ digest. count_by (is_file_of digest) inputs) now new) c.as_slice.ensures c.remove_inputs.ensures)

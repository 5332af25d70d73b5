use Rattle.std.proofs.Common.{ℕ, cond, List}
use Rattle.task_props.specs.declared.file.File.{File}
use Rattle.swarm_model.specs.Uses.{is_file_of}
use Rattle.swarm_machine.proofs.UsesChange.{one_used, one_lost, uses_for_item, loses_item}
use Rattle.swarm_machine.proofs.uses.remove_inputs.Goals as goal

abbrev adds : List ℕ → File → ℕ
adds digest file = cond (is_file_of digest file) 1 0

pub remove-requires : goal.remove-requires
remove-requires c =
    record {
      used = one_used c.file-item.result.digest c.loop-file.uses
          (uses_for_item c.args.inputs.now c.loop-file.file-index c.file-item.result c.loop-file-test.true c.file-item.is adds c.args.uses.now c.loop-file.uses c.requires c.loop-file.invariant);
    }

pub loop-file-preserved : goal.loop-file-preserved
loop-file-preserved c =
    let old = c.args.uses.now in
    let now = c.loop-file.uses in
    let new = c.remove.new.self in
    let used = one_used c.file-item.result.digest now (uses_for_item c.args.inputs.now c.loop-file.file-index c.file-item.result c.loop-file-test.true c.file-item.is adds old now c.requires c.loop-file.invariant) in
    loses_item c.args.inputs.now c.loop-file.file-index c.file-item.result c.loop-file-test.true c.file-item.is adds old now new c.loop-file.invariant
    (one_lost c.file-item.result.digest now new used c.remove.ensures.counts)

use Rattle.std.proofs.Common.{ℕ, cond, List}
use Rattle.task_props.specs.declared.file.File.{File}
use Rattle.swarm_model.specs.Uses.{is_file_of}
use Rattle.pool_index.proofs.UseKeys.{kept_then}
use Rattle.swarm_machine.proofs.UsesChange.{one_small, one_gained, room_for_item, gains_item}
use Rattle.swarm_machine.proofs.uses.add_inputs.Goals as goal

abbrev adds : List ℕ → File → ℕ
adds digest file = cond (is_file_of digest file) 1 0

pub add-requires-clause-small : goal.add-requires-clause-small
add-requires-clause-small c =
    one_small c.file-item.result.digest c.loop-file.uses
    (room_for_item c.args.inputs.now c.loop-file.file-index c.file-item.result c.loop-file-test.true c.file-item.is adds c.args.uses.now c.loop-file.uses c.requires.small c.loop-file.invariant.gains)

pub loop-file-preserved : goal.loop-file-preserved
loop-file-preserved c =
    let i = c.loop-file.invariant in
    let old = c.args.uses.now in
    let now = c.loop-file.uses in
    let new = c.add.new.self in
    record {
      gains =
          gains_item c.args.inputs.now c.loop-file.file-index c.file-item.result c.loop-file-test.true c.file-item.is adds old now new i.gains
          (one_gained c.file-item.result.digest now new c.add.ensures.counts);
      kept = kept_then old now new i.kept c.add.ensures.kept;
    }

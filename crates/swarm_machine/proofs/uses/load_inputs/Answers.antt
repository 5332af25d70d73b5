use Rattle.std.proofs.Common.{ℕ, cond, List}
use Rattle.task_props.specs.declared.file.File.{File}
use Rattle.swarm_model.specs.Uses.{is_file_of}
use Rattle.swarm_machine.proofs.UsesChange.{one_small, one_gained, room_for_item, gains_item}
use Rattle.swarm_machine.proofs.uses.load_inputs.Goals as goal

abbrev adds : List ℕ → File → ℕ
adds digest file = cond (is_file_of digest file) 1 0

pub load_use-requires : goal.load_use-requires
load_use-requires c =
    one_small c.file-item.result.digest c.loop-file.uses
    (room_for_item c.args.inputs.now c.loop-file.file-index c.file-item.result c.loop-file-test.true c.file-item.is adds c.args.uses.now c.loop-file.uses c.requires c.loop-file.invariant)

pub loop-file-preserved : goal.loop-file-preserved
loop-file-preserved c =
    gains_item c.args.inputs.now c.loop-file.file-index c.file-item.result c.loop-file-test.true c.file-item.is adds c.args.uses.now c.loop-file.uses c.load_use.new.uses c.loop-file.invariant
    (one_gained c.file-item.result.digest c.loop-file.uses c.load_use.new.uses c.in_ok-load_use.ensures)

-- The inputs so far are taken off.
use Rattle.std.proofs.Common.{take}
use Rattle.std.specs.List.{count_by}
use Rattle.swarm_model.specs.Uses.{is_file_of}
use Rattle.swarm_machine.specs.Uses.{RemovesUses}
use Rattle.swarm_machine.proofs.uses.remove_inputs.Given as goal

abbrev pub invariant-loop-file : goal.invariant-loop-file
invariant-loop-file l = RemovesUses (λ digest. count_by (is_file_of digest) (take l.file-index l.inputs)) l.fn.uses l.uses

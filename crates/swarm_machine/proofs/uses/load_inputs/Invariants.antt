-- The inputs so far are counted.
use Rattle.std.proofs.Common.{take}
use Rattle.std.specs.List.{count_by}
use Rattle.swarm_model.specs.Uses.{is_file_of}
use Rattle.swarm_machine.specs.Uses.{AddsUses}
use Rattle.swarm_machine.proofs.uses.load_inputs.Given as goal

abbrev pub invariant-loop-file : goal.invariant-loop-file
invariant-loop-file l = AddsUses (λ digest. count_by (is_file_of digest) (take l.file-index l.inputs)) l.fn.uses l.uses

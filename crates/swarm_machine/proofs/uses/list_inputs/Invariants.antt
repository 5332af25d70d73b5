-- The digests of the inputs so far are listed.
use Rattle.std.proofs.Common.{take}
use Rattle.std.specs.List.{All}
use Rattle.pool_index.specs.Uses.{IsListed, SameUses, StaysListed}
use Rattle.swarm_machine.proofs.uses.list_inputs.Given as goal

abbrev pub invariant-loop-file : goal.invariant-loop-file
invariant-loop-file l = record {
  same : SameUses l.fn.uses l.uses;
  kept : StaysListed l.fn.uses l.uses;
  listed : All (λ file. IsListed l.uses file.digest) (take l.file-index l.inputs);
}

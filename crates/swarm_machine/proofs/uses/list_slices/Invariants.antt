-- The digests of the slices so far are listed.
use Rattle.std.proofs.Common.{take}
use Rattle.std.specs.List.{All}
use Rattle.pool_index.specs.Uses.{SameUses, StaysListed}
use Rattle.swarm_machine.specs.Uses.{AreInputsListed}
use Rattle.swarm_machine.proofs.uses.list_slices.Given as goal

abbrev pub invariant-loop-slice : goal.invariant-loop-slice
invariant-loop-slice l = record {
  same : SameUses l.fn.uses l.uses;
  kept : StaysListed l.fn.uses l.uses;
  listed : All (AreInputsListed l.uses) (take l.slice-index l.slices);
}

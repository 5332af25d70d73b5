-- The slices so far are counted.
use Rattle.std.proofs.Common.{take}
use Rattle.pool_index.specs.Uses.{StaysListed}
use Rattle.index_laws.specs.TaskUses.{uses_of_slices}
use Rattle.swarm_machine.specs.Uses.{AddsUses}
use Rattle.swarm_machine.proofs.uses.add_slices.Given as goal

abbrev pub invariant-loop-slice : goal.invariant-loop-slice
invariant-loop-slice l = record {
  gains : AddsUses (λ digest. uses_of_slices digest (take l.slice-index l.slices)) l.fn.uses l.uses;
  kept : StaysListed l.fn.uses l.uses;
}

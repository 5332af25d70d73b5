-- The slices so far are counted.
use Rattle.std.proofs.Common.{take}
use Rattle.index_laws.specs.TaskUses.{uses_of_slices}
use Rattle.swarm_machine.specs.Uses.{AddsUses}
use Rattle.swarm_machine.proofs.uses.load_slices.Given as goal

abbrev pub invariant-loop-slice : goal.invariant-loop-slice
invariant-loop-slice l = AddsUses (λ digest. uses_of_slices digest (take l.slice-index l.slices)) l.fn.uses l.uses

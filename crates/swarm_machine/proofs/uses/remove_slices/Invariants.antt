-- The slices so far are taken off.
use Rattle.std.proofs.Common.{take}
use Rattle.index_laws.specs.TaskUses.{uses_of_slices}
use Rattle.swarm_machine.specs.Uses.{RemovesUses}
use Rattle.swarm_machine.proofs.uses.remove_slices.Given as goal

abbrev pub invariant-loop-slice : goal.invariant-loop-slice
invariant-loop-slice l = RemovesUses (λ digest. uses_of_slices digest (take l.slice-index l.slices)) l.fn.uses l.uses

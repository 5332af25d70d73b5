-- The logs of the machines that were passed are legal.
use Rattle.std.proofs.Common.{map, take}
use Rattle.std.specs.List.{All}
use Rattle.swarm_model.specs.MachineState.{IsHistory}
use Rattle.swarm_history.proofs.plain_door.see_histories.Given as goal

abbrev pub invariant-loop-place : goal.invariant-loop-place
invariant-loop-place g l = All IsHistory (map g.M.Machine.kept (take l.place l.machines))

use Rattle.std.proofs.Common.{◌≡◌, map, take}
use Rattle.base_lines.specs.Computed.{with_run}
use Rattle.base_lines.proofs.runs.give_runs.Given as goal

abbrev pub invariant-loop-task : goal.invariant-loop-task
invariant-loop-task l = l.bots.items ≡ map (with_run (take l.task-index l.tasks)) l.initial.bots.items

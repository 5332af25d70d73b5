use Rattle.std.proofs.Common.{◌≡◌, take, None}
use Rattle.std.specs.List.{fold, filter}
use Rattle.std.specs.Option.{option_copied}
use Rattle.swarm_model.specs.Slices.{waits_for, foremost}
use Rattle.swarm_plain.proofs.scans.first.Given as goal

abbrev pub invariant-loop-task : goal.invariant-loop-task
invariant-loop-task l = option_copied l.best ≡ fold foremost None (filter (waits_for l.bot l.dims) (take l.task-index l.tasks))

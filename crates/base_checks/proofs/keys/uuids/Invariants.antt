use Rattle.std.proofs.Common.{◌≡◌, map, flat_map, take}
use Rattle.base_checks.specs.Keys.{pair_in}
use Rattle.base_checks.specs.Rows.{uuids_of}
use Rattle.base_checks.proofs.keys.uuids.Given as goal

abbrev pub invariant-loop-task : goal.invariant-loop-task
invariant-loop-task l = map pair_in l.uuids.items ≡ flat_map uuids_of (take l.task-index l.tasks)

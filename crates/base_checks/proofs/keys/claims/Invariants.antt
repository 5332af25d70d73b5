use Rattle.std.proofs.Common.{◌≡◌, map, flat_map, take}
use Rattle.base_checks.specs.Keys.{claim_in}
use Rattle.base_checks.specs.Rows.{claims_of}
use Rattle.base_checks.proofs.keys.claims.Given as goal

abbrev pub invariant-loop-task : goal.invariant-loop-task
invariant-loop-task l = map claim_in l.claims.items ≡ flat_map claims_of (take l.task-index l.tasks)

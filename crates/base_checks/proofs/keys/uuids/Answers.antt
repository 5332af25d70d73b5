-- The uuids of all rows.
use Rattle.std.proofs.Common.{flat_map, ap, ◌∙◌, arith}
use Rattle.std.proofs.lemmas.List.{take_all}
use Rattle.base_checks.specs.Rows.{uuids_of}
use Rattle.base_checks.proofs.OneRow.{all_uuids}
use Rattle.base_checks.proofs.keys.uuids.Goals as goal

pub returns : goal.returns
returns c =
    let end = c.loop-task-test.false in
    c.loop-task.invariant ∙ ap (flat_map uuids_of) (take_all c.loop-task.task-index c.args.tasks.now (omega (arith, end))) ∙ all_uuids c.args.tasks.now

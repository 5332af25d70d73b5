-- What is held tells what is there.
use Rattle.base_checks.specs.Needs.{AreServed}
use Rattle.base_checks.proofs.Tests.{told_by}
use Rattle.base_checks.proofs.Served.{served_by}
use Rattle.std.specs.List.{list_all}
use Rattle.base_checks.specs.Needs.{needs_are_held}
use Rattle.base_checks.proofs.needs.are_served.Goals as goal

pub returns : goal.returns
returns c =
    let held = c.in_ok-held.held in
    told_by (AreServed c.args.tasks.now c.args.blobs.now) (list_all (needs_are_held held) c.args.tasks.now) c.are_all_held.result
    (served_by held c.args.tasks.now c.args.blobs.now c.in_ok-held.ensures) c.are_all_held.ensures

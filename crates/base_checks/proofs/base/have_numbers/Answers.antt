-- Both lists are numbered, or one is not.
use Rattle.base_checks.specs.Bases.{HaveNumbers}
use Rattle.swarm_model.specs.Numbers.{AreNumbered}
use Rattle.swarm_model.specs.Effects.{no_of_bot}
use Rattle.base_checks.proofs.Tests.{told_as}
use Rattle.base_checks.proofs.base.have_numbers.Goals as goal

pub returns-then-not-are_numbered : goal.returns-then-not-are_numbered
returns-then-not-are_numbered c = λ h. c.if-not-are_numbered.ensures (rw c.as_slice.ensures h.tasks)

pub returns : goal.returns
returns c =
    let s = c.args.base.now in
    told_as (AreNumbered no_of_bot 1 s.bots) (HaveNumbers s) c.are_numbered-2.result
    (λ h. record { tasks = rw c.as_slice.ensures at c.if-not-are_numbered.ensures; bots = h })
    (λ h. h.bots)
    (rw c.as_slice-2.ensures at c.are_numbered-2.ensures)

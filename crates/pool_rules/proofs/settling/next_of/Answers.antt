-- A checked task has few slices.
use Rattle.std.proofs.Common.{arith, ap, length}
use Rattle.task_props.proofs.Checked.{slices_counted}
use Rattle.pool_rules.proofs.settling.next_of.Goals as goal

pub overflow_cast-result : goal.overflow_cast-result
overflow_cast-result g c =
    let few = (slices_counted c.deref.result.now (rw c.deref.ensures c.requires.checked)).1 in
    let seen = ap length c.as_slice-slices.ensures in
    omega (arith, few, seen, c.in-Some.ensures.within)

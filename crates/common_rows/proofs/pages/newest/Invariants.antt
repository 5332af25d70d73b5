-- None of the tasks that were read is wanted.
use Rattle.std.proofs.Common.{◌≡◌, take, reverse, find}
use Rattle.swarm_model.specs.Finding.{is_wanted}
use Rattle.common_rows.proofs.pages.newest.Given as goal

abbrev pub invariant-loop-place : goal.invariant-loop-place
invariant-loop-place g l =
    find (is_wanted l.fn.wanted) (reverse (take l.place l.fn.tasks.rows)) ≡ find (is_wanted l.fn.wanted) (reverse (take l.fn.count l.fn.tasks.rows))

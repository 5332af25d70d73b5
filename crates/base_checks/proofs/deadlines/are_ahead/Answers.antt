-- The deadlines of tasks, bots and blobs are those of the pool.
use Rattle.base_checks.proofs.Ahead.{slices_of, silences_of, deaths_of, told_of_all}
use Rattle.base_checks.proofs.deadlines.are_ahead.Goals as goal

pub returns-then-not-are_slices_ahead : goal.returns-then-not-are_slices_ahead
returns-then-not-are_slices_ahead c = λ ahead.
    c.if-not-are_slices_ahead.ensures (rw c.as_slice-tasks.ensures (slices_of c.args.base.now ahead))

pub returns-then-not-are_silences_ahead : goal.returns-then-not-are_silences_ahead
returns-then-not-are_silences_ahead c = λ ahead.
    c.if-not-are_silences_ahead.ensures (rw (c.as_slice-tasks.ensures, c.as_slice-bots.ensures) (silences_of c.args.base.now ahead))

pub returns-then-not-are_deaths_ahead : goal.returns-then-not-are_deaths_ahead
returns-then-not-are_deaths_ahead c = λ ahead.
    c.if-not-are_deaths_ahead.ensures (rw c.as_slice-bots.ensures (deaths_of c.args.base.now ahead))

pub returns : goal.returns
returns c =
    told_of_all c.args.base.now
    (rw c.as_slice-tasks.ensures at c.if-not-are_slices_ahead.ensures)
    (rw (c.as_slice-tasks.ensures, c.as_slice-bots.ensures) at c.if-not-are_silences_ahead.ensures)
    (rw c.as_slice-bots.ensures at c.if-not-are_deaths_ahead.ensures)
    c.are_blobs_ahead.result
    (rw c.as_slice.ensures at c.are_blobs_ahead.ensures)

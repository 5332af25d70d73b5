-- The counts are those of the rows.
use Rattle.std.proofs.Common.{ℕ, List, ap, ◌∙◌, slice_index_or, sym}
use Rattle.swarm_model.specs.History.{count_in, tally}
use Rattle.common_rows.specs.Rows.{state_of}
use Rattle.swarm_machine.proofs.Counts.{count_all, count_at}
use Rattle.swarm_machine.proofs.indexed_rows.IndexedRowsReadQueries.count.Goals as goal

pub returns-in-None : goal.returns-in-None
returns-in-None c =
    let tasks = c.self.inside.rows.tasks.rows in
    rw (← c.self.view_is, c.in-None.is) (c.count.ensures ∙ sym (count_all tasks))

pub returns-in-Some : goal.returns-in-Some
returns-in-Some c =
    let s = state_of c.self.inside.rows in
    rw (← c.self.view_is, c.in-Some.is)
    (ap (λ (counts : List ℕ). slice_index_or counts c.place.result 0) c.self.invariant.indexed.counts
    ∙ ap (λ (place : ℕ). slice_index_or (tally s) place 0) c.place.ensures
    ∙ count_at (count_in s) c.in-Some.state)

-- A blob is used where its digest has a use.
use Rattle.std.proofs.Common.{ℕ, nat_lt, sym, ap, ◌∙◌}
use Rattle.index_laws.proofs.UseIsCounted.{use_is_counted}
use Rattle.common_rows.specs.Rows.{state_of}
use Rattle.swarm_machine.proofs.indexed_rows.IndexedRowsPoolQueries.is_used.Goals as goal

pub returns : goal.returns
returns c =
    rw (← c.self.view_is)
    (ap (λ (n : ℕ). nat_lt 0 n) (c.count.ensures ∙ c.self.invariant.indexed.uses.counted c.args.digest.now) ∙ sym (use_is_counted (state_of c.self.inside.rows) c.args.digest.now))

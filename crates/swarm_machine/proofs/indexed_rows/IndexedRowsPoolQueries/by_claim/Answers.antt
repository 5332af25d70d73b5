-- The task that is found by bot and id is the one that was claimed.
use Rattle.std.proofs.Common.{◌∙◌}
use Rattle.index_laws.proofs.ClaimLinks.{claim_is_found}
use Rattle.common_rows.specs.Rows.{state_of}
use Rattle.swarm_machine.proofs.Holding.{kept_sound}
use Rattle.swarm_machine.proofs.indexed_rows.IndexedRowsPoolQueries.by_claim.Goals as goal

pub returns-clause-value : goal.returns-clause-value
returns-clause-value g c =
    let s = state_of c.self.inside.rows in
    let found = rw (← c.self.view_is) at c.found_row.ensures.value in
    rw (← c.self.view_is)
    (found ∙ claim_is_found s (kept_sound c.self.inside c.self.invariant) c.self.inside.indexes.claims.links c.self.invariant.indexed.claims c.args.bot c.args.claim.now c.find.result c.find.ensures)

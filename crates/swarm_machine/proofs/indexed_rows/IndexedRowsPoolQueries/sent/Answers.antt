-- The task that is found by caller and uuid is the one that was sent.
use Rattle.std.proofs.Common.{◌∙◌}
use Rattle.index_laws.proofs.UuidLinks.{uuid_is_found}
use Rattle.common_rows.specs.Rows.{state_of}
use Rattle.swarm_machine.proofs.Holding.{kept_sound}
use Rattle.swarm_machine.proofs.indexed_rows.IndexedRowsPoolQueries.sent.Goals as goal

pub returns-clause-value : goal.returns-clause-value
returns-clause-value g c =
    let s = state_of c.self.inside.rows in
    let found = rw (← c.self.view_is) at c.found_row.ensures.value in
    rw (← c.self.view_is)
    (found ∙ uuid_is_found s (kept_sound c.self.inside c.self.invariant) c.self.inside.indexes.uuids.links c.self.invariant.indexed.uuids c.args.who.now c.args.uuid.now c.find.result c.find.ensures)

-- The rows of the blobs tell the size.
use Rattle.std.proofs.Common.{refl, subst, length, IfSome, IsTrue}
use Rattle.swarm_model.specs.Finding.{has_blob}
use Rattle.pool_log.specs.Plain.{RowsState}
use Rattle.common_rows.specs.Rows.{state_of}
use Rattle.swarm_plain.proofs.list_rows.ListRowsPoolRows.bytes.Goals as goal

pub returns-clause-sized : goal.returns-clause-sized
returns-clause-sized c =
    subst (λ (kept : RowsState). IfSome c.lend_bytes.result (λ b. IsTrue (has_blob kept.pool c.args.digest.now (length b.now)))) c.self.view_is
    (c.lend_bytes.ensures.sized (state_of c.self.inside.rows) refl)

-- The blobs alone change, and so do the bytes that are held.
use Rattle.std.proofs.Common.{refl, ap, ◌∙◌}
use Rattle.content_store.specs.Contents.{bytes_of}
use Rattle.swarm_model.specs.declared.pool_state.PoolState.{PoolState}
use Rattle.swarm_model.specs.Bytes.{filled, held_after_fill}
use Rattle.pool_log.specs.Plain.{RowsState}
use Rattle.common_rows.specs.Rows.{state_of}
use Rattle.swarm_plain.proofs.list_rows.ListRowsPoolRows.fill.Goals as goal

pub returns-clause-told : goal.returns-clause-told
returns-clause-told c =
    c.bring_bytes.ensures.told (state_of c.self.inside.rows) refl ∙ ap (λ (kept : RowsState). filled kept.pool c.args.digest.now c.args.bytes.now) c.self.view_is

pub returns-clause-state : goal.returns-clause-state
returns-clause-state c =
    let holds = c.bring_bytes.ensures.holds in
    (λ i. let x : PoolState = record (state_of c.self.inside.rows) { blobs = (holds i).rows; placed = (holds i).placed } in x) ∙ ap (λ (kept : RowsState). kept.pool) c.self.view_is

pub returns-clause-held : goal.returns-clause-held
returns-clause-held c =
    c.bring_bytes.ensures.held ∙ ap (λ (kept : RowsState). held_after_fill c.bring_bytes.result c.args.digest.now c.args.bytes.now (bytes_of kept.held)) c.self.view_is

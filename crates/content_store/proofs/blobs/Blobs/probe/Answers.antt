-- What the store answers, told by the rows.
use Rattle.std.proofs.Common.{◌∙◌, ap}
use Rattle.blob_rows.specs.BlobRows.{put_result}
use Rattle.content_store.specs.StoredRows.{BlobsState, rows_in}
use Rattle.content_store.proofs.Puts.{hold_result-is}
use Rattle.content_store.proofs.blobs.Blobs.probe.Goals as goal

pub returns : goal.returns
returns c =
    c.probe.ensures
    ∙ hold_result-is c.self.inside.rows.items c.self.inside.placed c.self.inside.store c.self.invariant.stored c.args.digest.now c.args.size
    ∙ ap (λ (s : BlobsState). put_result s.store.names (rows_in s) c.args.digest.now c.args.size) c.self.view_is

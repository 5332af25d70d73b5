-- The row stands at the place of its digest.
use Rattle.std.proofs.Common.{◌∙◌, sym}
use Rattle.blob_rows.specs.BlobRows.{has_digest}
use Rattle.blob_rows.proofs.Counts.{position-None, place_found}
use Rattle.content_store.proofs.row_places.blob_of.Goals as goal

pub returns-in-None : goal.returns-in-None
returns-in-None c = sym (position-None (has_digest c.args.digest.now) c.args.rows.now.items (sym c.in-None.ensures)).0

pub returns-in-Some : goal.returns-in-Some
returns-in-Some c = c.row_at.ensures ∙ place_found (has_digest c.args.digest.now) c.args.rows.now.items c.in-Some.at (sym c.in-Some.ensures)

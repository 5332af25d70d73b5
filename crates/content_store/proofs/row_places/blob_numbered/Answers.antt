-- The row stands at the place of its number.
use Rattle.std.proofs.Common.{◌∙◌, sym}
use Rattle.blob_rows.specs.BlobRows.{is_blob}
use Rattle.blob_rows.proofs.Counts.{position-None, place_found}
use Rattle.content_store.proofs.row_places.blob_numbered.Goals as goal

pub returns-in-None : goal.returns-in-None
returns-in-None c = sym (position-None (is_blob c.args.number) c.args.rows.now.items (sym c.in-None.ensures)).0

pub returns-in-Some : goal.returns-in-Some
returns-in-Some c = c.row_at.ensures ∙ place_found (is_blob c.args.number) c.args.rows.now.items c.in-Some.at (sym c.in-Some.ensures)

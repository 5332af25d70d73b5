-- The bytes of a blob that was not present are held, and those of the others stay.
use Rattle.std.proofs.Common.{◌≡◌, not, is_some, true, false, ap, ◌∙◌}
use Rattle.blob_rows.specs.BlobRows.{blob_of}
use Rattle.blob_rows.proofs.Counts.{none_from}
use Rattle.content_store.proofs.Puts.{lent}
use Rattle.pool_changes.proofs.Storing.{held_put_new, held_put_same}
use Rattle.pool_changes.proofs.changing_blobs.put.Goals as goal

pub returns-then-is_new-clause-held : goal.returns-then-is_new-clause-held
returns-then-is_new-clause-held c =
    let row = blob_of c.args.blobs.now.rows c.args.digest.now in
    let absent : is_some row ≡ false = lent c.blob_of.result row c.blob_of.ensures ∙ c.is_none-is_new.ensures ∙ ap not c.if-is_new.true in
    held_put_new c.args.blobs.now c.put.new.self c.fill_if_some.new.blobs c.args.digest.now c.args.size _ c.count-count.ensures.stored c.requires.taken c.requires.bytes c.put.ensures.store
    c.fill_if_some.ensures (none_from row absent)

pub returns-else-is_new-clause-held : goal.returns-else-is_new-clause-held
returns-else-is_new-clause-held c =
    let row = blob_of c.args.blobs.now.rows c.args.digest.now in
    let present : is_some row ≡ true = lent c.blob_of.result row c.blob_of.ensures ∙ c.is_none-is_new.ensures ∙ ap not c.if-is_new.false in
    held_put_same c.args.blobs.now c.put.new.self c.args.digest.now c.args.size _ c.count-count.ensures.stored c.put.ensures.store present

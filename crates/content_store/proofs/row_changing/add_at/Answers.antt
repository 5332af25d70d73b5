-- The new row names the content that the store now holds.
use Rattle.std.proofs.Common.{◌≡◌, ◌+◌, ◌++◌, ◌∷◌, [], sym, ap, subst, List, refl}
use Rattle.blob_rows.specs.Extents.{extent_at}
use Rattle.blob_rows.specs.declared.blob_row.BlobRow.{BlobRow}
use Rattle.blob_rows.specs.BlobRows.{units_of, new_blob}
use Rattle.content_store.specs.Contents.{Content, unfilled_content, with_content}
use Rattle.content_store.specs.Plain.{ContentStoreState}
use Rattle.content_store.specs.RowOrder.{NumbersRise}
use Rattle.content_store.specs.StoredRows.{AreStored, rows_beside}
use Rattle.content_store.proofs.Numbered.{rising_pushed}
use Rattle.content_store.proofs.Tied.{added}
use Rattle.content_store.proofs.row_changing.add_at.Goals as goal

pub returns-clause-stored : goal.returns-clause-stored
returns-clause-stored c =
    let rows = c.args.rows.now.items in
    let row : BlobRow = new_blob (rows_beside rows c.args.placed c.args.store.now) c.args.deadline c.args.digest.now c.args.size c.args.at in
    let content : Content = unfilled_content c.args.digest.now c.args.size (c.args.placed + 1) (extent_at (units_of c.args.size) c.args.at) in
    let held = ap (λ (s : ContentStoreState). s.held) c.hold_at.ensures.holds in
    let whole : c.push.new.rows.items ≡ rows ++ row ∷ [] = subst (λ (r : BlobRow). c.push.new.rows.items ≡ rows ++ r ∷ []) c.new_row.ensures c.push.ensures.items in
    subst (λ (l : List Content). AreStored c.push.new.rows.items (c.args.placed + 1) l) (sym held)
    (subst (λ (l : List BlobRow). AreStored l (c.args.placed + 1) (with_content content c.args.store.now.held)) (sym whole)
    (added rows c.args.placed c.args.store.now.held c.requires.stored row content refl refl c.requires.fresh))

pub returns-clause-rising : goal.returns-clause-rising
returns-clause-rising c =
    let rows = c.args.rows.now.items in
    let row : BlobRow = new_blob (rows_beside rows c.args.placed c.args.store.now) c.args.deadline c.args.digest.now c.args.size c.args.at in
    let whole : c.push.new.rows.items ≡ rows ++ row ∷ [] = subst (λ (r : BlobRow). c.push.new.rows.items ≡ rows ++ r ∷ []) c.new_row.ensures c.push.ensures.items in
    subst (λ (l : List BlobRow). NumbersRise l) (sym whole) (rising_pushed rows c.args.placed row c.requires.rising c.requires.stored.numbered refl)

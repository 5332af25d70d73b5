-- The new row names the content that the store now holds.
use Rattle.std.proofs.Common.{◌≡◌, ◌∙◌, ◌+◌, sym, ap, subst, List, refl}
use Rattle.blob_rows.specs.declared.held.Held.TheVariants.{Placed}
use Rattle.blob_rows.specs.declared.blob_row.BlobRow.{BlobRow}
use Rattle.blob_rows.specs.BlobRows.{BlobRowsState}
use Rattle.content_store.specs.Contents.{Content, unfilled_content, with_content}
use Rattle.content_store.specs.Plain.{ContentStoreState}
use Rattle.content_store.specs.StoredRows.{AreStored, rows_beside}
use Rattle.content_store.proofs.Tied.{added}
use Rattle.content_store.proofs.Puts.{put-absent, rows_after-other, held_after_hold-other, store_after}
use Rattle.content_store.proofs.row_changing.add.Goals as goal

pub returns-in-Placed-clause-stored : goal.returns-in-Placed-clause-stored
returns-in-Placed-clause-stored c =
    let row : BlobRow = record { no = c.args.placed + 1; digest = c.args.digest.now; size = c.args.size; extent = c.in-Placed.extent; deadline = c.args.deadline } in
    let content : Content = unfilled_content c.args.digest.now c.args.size (c.args.placed + 1) c.in-Placed.extent in
    let held = ap (λ (s : ContentStoreState). s.held) c.in-Placed.ensures.holds in
    subst (λ (l : List Content). AreStored c.push.new.rows.items (c.args.placed + 1) l) (sym held)
    (subst (λ (l : List BlobRow). AreStored l (c.args.placed + 1) (with_content content c.args.store.now.held)) (sym c.push.ensures.items)
    (added c.args.rows.now.items c.args.placed c.args.store.now.held c.requires.stored row content refl refl c.requires.fresh))

pub returns-in-Placed-clause-rows : goal.returns-in-Placed-clause-rows
returns-in-Placed-clause-rows c =
    (λ i. let s : BlobRowsState = record { rows = c.push.ensures.items i; placed = c.args.placed + 1; units = units i } in s)
    ∙ sym (put-absent c.args.rows.now.items c.args.placed c.args.store.now c.requires.stored c.args.digest.now c.args.size c.args.deadline c.requires.fresh c.requires.few (Placed c.in-Placed.extent) c.in-Placed.ensures.told)
  where
    units : c.hold.new.self.units ≡ c.args.store.now.units
    units = ap (λ (s : ContentStoreState). s.units) c.in-Placed.ensures.holds

pub returns-in-Placed-clause-store : goal.returns-in-Placed-clause-store
returns-in-Placed-clause-store c = c.in-Placed.ensures.holds ∙ ap (store_after c.args.store.now c.args.digest.now c.args.size (c.args.placed + 1)) c.in-Placed.ensures.told

pub returns-in_default-clause-rows : goal.returns-in_default-clause-rows
returns-in_default-clause-rows c =
    ap (λ (s : ContentStoreState). rows_beside c.args.rows.now.items c.args.placed s) c.hold.ensures.holds
    ∙ sym (put-absent c.args.rows.now.items c.args.placed c.args.store.now c.requires.stored c.args.digest.now c.args.size c.args.deadline c.requires.fresh c.requires.few c.hold.result c.hold.ensures.told
    ∙ rows_after-other c.hold.result c.in_default.not-Placed c.args.rows.now.items c.args.placed c.args.store.now c.args.deadline c.args.digest.now c.args.size)

pub returns-in_default-clause-store : goal.returns-in_default-clause-store
returns-in_default-clause-store c = c.hold.ensures.holds ∙ ap (store_after c.args.store.now c.args.digest.now c.args.size (c.args.placed + 1)) c.hold.ensures.told

pub returns-in_default-clause-stored : goal.returns-in_default-clause-stored
returns-in_default-clause-stored c =
    subst (λ (l : List Content). AreStored c.args.rows.now.items c.args.placed l)
    (sym (ap (λ (s : ContentStoreState). s.held) c.hold.ensures.holds ∙ held_after_hold-other c.hold.result c.in_default.not-Placed c.args.digest.now c.args.size (c.args.placed + 1) c.args.store.now.held)) c.requires.stored

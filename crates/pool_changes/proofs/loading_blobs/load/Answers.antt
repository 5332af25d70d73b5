-- The number is the next one behind the number before it, and the content has no bytes.
use Rattle.std.proofs.Common.{◌+◌, [], ◌∷◌, ◌++◌, ap, ◌∙◌, arith}
use Rattle.blob_rows.specs.declared.blob_row.BlobRow.{BlobRow}
use Rattle.blob_rows.specs.Extents.{extent_at}
use Rattle.blob_rows.specs.BlobRows.{units_of}
use Rattle.content_store.specs.Contents.{bytes_of, unfilled_content, with_content}
use Rattle.content_store.specs.Plain.{ContentStoreState}
use Rattle.content_store.specs.StoredRows.{BlobsState}
use Rattle.pool_changes.proofs.Loading.{loaded_row, held_loaded}
use Rattle.pool_changes.proofs.loading_blobs.load.Goals as goal

pub raise_placed-requires : goal.raise_placed-requires
raise_placed-requires c = let above = c.requires.above in omega (arith, above)

pub put_at-requires-clause-fresh : goal.put_at-requires-clause-fresh
put_at-requires-clause-fresh c = rw c.raise_placed.ensures c.requires.fresh

pub put_at-requires-clause-few : goal.put_at-requires-clause-few
put_at-requires-clause-few c = rw c.raise_placed.ensures c.requires.few

pub put_at-requires-clause-number : goal.put_at-requires-clause-number
put_at-requires-clause-number c =
    let placed = ap (λ (b : BlobsState). b.placed) c.raise_placed.ensures in
    let above = c.requires.above in
    let number = c.requires.number in
    omega (arith, placed, above, number)

pub put_at-requires-clause-inside : goal.put_at-requires-clause-inside
put_at-requires-clause-inside c = rw (c.raise_placed.ensures, ← c.requires.units) c.requires.inside

pub put_at-requires-clause-free : goal.put_at-requires-clause-free
put_at-requires-clause-free c = rw (c.raise_placed.ensures, ← c.requires.units) c.requires.free

pub returns-clause-rows : goal.returns-clause-rows
returns-clause-rows c =
    c.put_at.ensures.rows
    ∙ ap (λ (r : BlobRow). c.raise_placed.new.self.rows ++ r ∷ []) (loaded_row c.args.blobs.now c.raise_placed.new.self c.args.row.now c.requires c.raise_placed.ensures)
    ∙ ap (λ (b : BlobsState). b.rows ++ c.args.row.now ∷ []) c.raise_placed.ensures

pub returns-clause-placed : goal.returns-clause-placed
returns-clause-placed c =
    let placed = ap (λ (b : BlobsState). b.placed) c.raise_placed.ensures in
    let above = c.requires.above in
    omega (arith, placed, above, c.put_at.ensures.placed)

pub returns-clause-held : goal.returns-clause-held
returns-clause-held c =
    let old = c.args.blobs.now in
    let row = c.args.row.now in
    let number = c.raise_placed.new.self.placed + 1 in
    let extent = extent_at (units_of row.size) row.extent.at in
    let store = c.put_at.ensures.store in
    (λ i. bytes_of (store i).held)
    ∙ ap (λ (b : BlobsState). bytes_of (with_content (unfilled_content row.digest row.size number extent) b.store.held)) c.raise_placed.ensures
    ∙ held_loaded old.rows old.placed old.store.held c.count-count.ensures.stored row.digest row.size number extent c.requires.fresh

pub returns-clause-units : goal.returns-clause-units
returns-clause-units c = ap (λ (s : ContentStoreState). s.units) c.put_at.ensures.store ∙ ap (λ (b : BlobsState). b.store.units) c.raise_placed.ensures

pub returns-clause-names : goal.returns-clause-names
returns-clause-names c = ap (λ (s : ContentStoreState). s.names) c.put_at.ensures.store ∙ ap (λ (b : BlobsState). b.store.names) c.raise_placed.ensures

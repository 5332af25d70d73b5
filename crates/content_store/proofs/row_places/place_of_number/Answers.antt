-- The closure tells the number of a row.
use Rattle.std.proofs.Common.{rules, ◌∙◌}
use Rattle.std.proofs.lemmas.List.Sorted.{answers_always}
use Rattle.blob_rows.specs.declared.blob_row.BlobRow.{BlobRow}
use Rattle.content_store.proofs.Numbered.{bisected}
use Rattle.content_store.proofs.row_places.place_of_number.Goals as goal

pub returns : goal.returns
returns c =
    let facts = c.binary_search_by_key.ensures in
    let by_key = facts.position (λ (row : BlobRow). row.no) (answers_always _ _ _ (λ f a r g called. search rules)) in
    c.ok.ensures.value ∙ bisected c.args.rows.now.items c.requires c.args.number c.binary_search_by_key.result (rw c.args.rows.now.ok.0 at facts.bound) by_key

-- The row that is found goes, and what the store holds under its digest.
use Rattle.std.proofs.Common.{◌≡◌, ◌∙◌, sym, ap, subst, List, Option, Some, None, get_or}
use Rattle.std.specs.List.{filter, position}
use Rattle.std.proofs.lemmas.List.Quantifiers.{position-Some}
use Rattle.blob_rows.specs.declared.blob_row.BlobRow.{BlobRow}
use Rattle.blob_rows.specs.BlobRows.{is_blob, is_other, blob_numbered}
use Rattle.blob_rows.proofs.Counts.{remove_one, position-None, position-find}
use Rattle.content_store.specs.Contents.{Content, without_content}
use Rattle.content_store.specs.Plain.{ContentStoreState}
use Rattle.content_store.specs.StoredRows.{AreStored, held_without}
use Rattle.content_store.proofs.Tied.{removed}
use Rattle.content_store.proofs.row_changing.remove.Goals as goal

pub returns-in-Some-clause-rows : goal.returns-in-Some-clause-rows
returns-in-Some-clause-rows c =
    let rows = c.args.rows.now.items in
    let d = c.take_out-row.result in
    let is : Some c.in-Some.index ≡ position (is_blob c.args.number) rows = c.in-Some.ensures in
    let there = position-Some (is_blob c.args.number) rows c.in-Some.index d (sym is) in
    c.take_out-row.ensures.items ∙ remove_one (is_blob c.args.number) rows c.in-Some.index d (c.requires.stored.1.numbers c.args.number) there.0 there.1

pub returns-in-Some-clause-store : goal.returns-in-Some-clause-store
returns-in-Some-clause-store c =
    let rows = c.args.rows.now.items in
    let d = c.take_out-row.result in
    let is : Some c.in-Some.index ≡ position (is_blob c.args.number) rows = c.in-Some.ensures in
    let found : blob_numbered rows c.args.number ≡ Some d = position-find (is_blob c.args.number) rows c.in-Some.index d (sym is) ∙ ap (λ (r : BlobRow). Some r) (sym c.take_out-row.ensures.row) in
    c.remove.ensures.holds
    ∙ ap (λ (o : Option BlobRow). let s : ContentStoreState = record c.args.store.now { held = held_without o c.args.store.now.held } in s) (sym found)

pub returns-in-Some-clause-stored : goal.returns-in-Some-clause-stored
returns-in-Some-clause-stored c = λ placed stored.
    let rows = c.args.rows.now.items in
    let d = c.take_out-row.result in
    let is : Some c.in-Some.index ≡ position (is_blob c.args.number) rows = c.in-Some.ensures in
    let there = position-Some (is_blob c.args.number) rows c.in-Some.index d (sym is) in
    let row : get_or rows c.in-Some.index d ≡ d = sym c.take_out-row.ensures.row in
    let gone = c.take_out-row.ensures.items ∙ remove_one (is_blob c.args.number) rows c.in-Some.index d (stored.numbers c.args.number) there.0 there.1 in
    let held = ap (λ (s : ContentStoreState). s.held) c.remove.ensures.holds in
    subst (λ (l : List Content). AreStored c.take_out-row.new.rows.items placed l) (sym held)
    (subst (λ (l : List BlobRow). AreStored l placed (without_content d.digest c.args.store.now.held)) (sym gone)
    (subst (λ (r : BlobRow). AreStored (filter (is_other c.args.number) rows) placed (without_content r.digest c.args.store.now.held)) row
    (removed rows placed c.args.store.now.held stored c.args.number c.in-Some.index d there.0 there.1)))

pub returns-in_default-clause-rows : goal.returns-in_default-clause-rows
returns-in_default-clause-rows c =
    let none : position (is_blob c.args.number) c.args.rows.now.items ≡ None = sym c.place_of_number.ensures ∙ c.in_default.is in
    sym (position-None (is_blob c.args.number) c.args.rows.now.items none).1

pub returns-in_default-clause-store : goal.returns-in_default-clause-store
returns-in_default-clause-store c =
    let none : position (is_blob c.args.number) c.args.rows.now.items ≡ None = sym c.place_of_number.ensures ∙ c.in_default.is in
    ap (λ (o : Option BlobRow). let s : ContentStoreState = record c.args.store.now { held = held_without o c.args.store.now.held } in s) (sym (position-None (is_blob c.args.number) c.args.rows.now.items none).0)

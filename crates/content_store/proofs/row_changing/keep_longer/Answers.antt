-- The one row of the number is kept longer.
use Rattle.std.proofs.Common.{◌∙◌, sym, ap, ◌+◌, get_or, set}
use Rattle.blob_rows.specs.declared.blob_row.BlobRow.{BlobRow}
use Rattle.blob_rows.specs.BlobRows.{is_blob, renewed}
use Rattle.blob_rows.proofs.Counts.{change_none}
use Rattle.content_store.proofs.Numbered.{longer_one}
use Rattle.content_store.proofs.row_changing.keep_longer.Goals as goal

pub returns-in-Some-clause-items : goal.returns-in-Some-clause-items
returns-in-Some-clause-items c =
    let d = c.index.result.now in
    c.renew_at.ensures.items d
    ∙ ap (λ (row : BlobRow). set c.args.rows.now.items c.in-Some.index (renewed (row.deadline + c.args.secs) (get_or c.args.rows.now.items c.in-Some.index d))) c.index.ensures
    ∙ longer_one c.args.number c.args.secs c.args.rows.now.items c.in-Some.index c.requires.rising (sym c.in-Some.ensures) d

pub returns-in_default-clause-items : goal.returns-in_default-clause-items
returns-in_default-clause-items c =
    sym (change_none (is_blob c.args.number) (λ (row : BlobRow). renewed (row.deadline + c.args.secs) row) c.args.rows.now.items (sym c.place_of_number.ensures ∙ c.in_default.is))

-- What is present is renewed; what is not is placed.
use Rattle.std.proofs.Common.{◌≡◌, ◌∙◌, sym, ap, subst, List, Option, None, true, map, is_some, arith}
use Rattle.blob_rows.specs.declared.blob_row.BlobRow.{BlobRow}
use Rattle.blob_rows.specs.BlobRows.{blob_of, has_digest, renewed_until}
use Rattle.blob_rows.proofs.Counts.{position-None, position-find}
use Rattle.blob_rows.proofs.Distinct.{stored-renewed, no-renewed}
use Rattle.content_store.specs.RowOrder.{NumbersRise}
use Rattle.content_store.specs.StoredRows.{AreStored, rows_beside}
use Rattle.content_store.proofs.Numbered.{no_row, renewed_one, rising_changed}
use Rattle.content_store.proofs.Tied.{held_is, length_is, changed}
use Rattle.content_store.proofs.Puts.{put-present, store-present}
use Rattle.content_store.proofs.row_changing.put.Goals as goal

pub add-requires-clause-fresh : goal.add-requires-clause-fresh
add-requires-clause-fresh c =
    let rows = c.args.rows.now.items in
    let none : blob_of rows c.args.digest.now ≡ None = (position-None (has_digest c.args.digest.now) rows (sym c.in-None.ensures)).0 in
    held_is rows c.args.placed c.args.store.now.held c.requires.stored c.args.digest.now ∙ ap (λ (o : Option BlobRow). is_some o) none

pub add-requires-clause-few : goal.add-requires-clause-few
add-requires-clause-few c =
    let rows = c.args.rows.now.items in
    let none : blob_of rows c.args.digest.now ≡ None = (position-None (has_digest c.args.digest.now) rows (sym c.in-None.ensures)).0 in
    omega (arith, c.requires.few none, length_is rows c.args.placed c.args.store.now.held c.requires.stored)

pub add-requires-clause-room : goal.add-requires-clause-room
add-requires-clause-room c =
    let rows = c.args.rows.now.items in
    let none : blob_of rows c.args.digest.now ≡ None = (position-None (has_digest c.args.digest.now) rows (sym c.in-None.ensures)).0 in
    omega (arith, c.requires.few none, c.requires.room, c.args.rows.now.ok.0)

pub returns-in-Some-clause-rows : goal.returns-in-Some-clause-rows
returns-in-Some-clause-rows c =
    let rows = c.args.rows.now.items in
    let digest = c.args.digest.now in
    let there : is_some (blob_of rows digest) ≡ true =
    ap (λ (o : Option BlobRow). is_some o) (position-find (has_digest digest) rows c.in-Some.index no_row (sym c.in-Some.ensures)) in
    let new : c.renew_at.new.rows.items ≡ map (renewed_until c.args.deadline digest) rows =
    c.renew_at.ensures.items no_row ∙ renewed_one digest c.args.deadline rows c.in-Some.index (c.requires.stored.digests digest) (sym c.in-Some.ensures) in
    ap (λ (l : List BlobRow). rows_beside l c.args.placed c.args.store.now) new
    ∙ sym (put-present rows c.args.placed c.args.store.now c.requires.stored digest c.args.size c.args.deadline there)

pub returns-in-Some-clause-store : goal.returns-in-Some-clause-store
returns-in-Some-clause-store c =
    let rows = c.args.rows.now.items in
    let digest = c.args.digest.now in
    let there : is_some (blob_of rows digest) ≡ true =
    ap (λ (o : Option BlobRow). is_some o) (position-find (has_digest digest) rows c.in-Some.index no_row (sym c.in-Some.ensures)) in
    store-present rows c.args.placed c.args.store.now c.requires.stored digest c.args.size c.args.deadline there

pub returns-in-Some-clause-stored : goal.returns-in-Some-clause-stored
returns-in-Some-clause-stored c =
    let rows = c.args.rows.now.items in
    let digest = c.args.digest.now in
    let deadline = c.args.deadline in
    subst (λ (l : List BlobRow). AreStored l c.args.placed c.args.store.now.held)
    (sym (c.renew_at.ensures.items no_row ∙ renewed_one digest deadline rows c.in-Some.index (c.requires.stored.digests digest) (sym c.in-Some.ensures)))
    (changed rows c.args.placed c.args.store.now.held c.requires.stored (renewed_until deadline digest)
    (λ row. stored-renewed (has_digest digest row) deadline row) (λ row. no-renewed (has_digest digest row) deadline row))

pub returns-in-Some-clause-rising : goal.returns-in-Some-clause-rising
returns-in-Some-clause-rising c =
    let rows = c.args.rows.now.items in
    let digest = c.args.digest.now in
    let deadline = c.args.deadline in
    subst NumbersRise
    (sym (c.renew_at.ensures.items no_row ∙ renewed_one digest deadline rows c.in-Some.index (c.requires.stored.digests digest) (sym c.in-Some.ensures)))
    (rising_changed (renewed_until deadline digest) (λ row. no-renewed (has_digest digest row) deadline row) rows c.requires.rising)

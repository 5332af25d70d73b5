-- What is above the new number is above the old one.
use Rattle.std.proofs.Common.{◌≤◌, arith, ltb, subst, sym}
use Rattle.std.proofs.lemmas.Bool.{ltb-true, lt-ltb}
use Rattle.blob_rows.specs.declared.blob_row.BlobRow.{BlobRow}
use Rattle.blob_rows.proofs.Counts.{count_implied}
use Rattle.content_store.specs.StoredRows.{BlobsState}
use Rattle.content_store.proofs.blobs.Blobs.raise_placed.Goals as goal

pub invariant_of-self : goal.invariant_of-self
invariant_of-self c =
    let i = c.self.inside in
    let old = c.self.invariant in
    let low : i.placed ≤ c.args.placed = subst (λ (s : BlobsState). s.placed ≤ c.args.placed) (sym c.self.view_is) c.requires in
    let fewer = count_implied (λ (r : BlobRow). ltb c.args.placed r.no) (λ r. ltb i.placed r.no)
    (λ r found. let h = ltb-true c.args.placed r.no found in lt-ltb i.placed r.no (omega (arith, h, low))) i.rows.items in
    let none = old.stored.numbered in
    record {
      stored = record { same = old.stored.same; digests = old.stored.digests; numbers = old.stored.numbers; numbered = omega (arith, fewer, none) };
      rising = old.rising;
      room = old.room;
    }

-- Other deadlines keep the rows tied to the store.
use Rattle.std.proofs.Common.{sym, subst, List, arith, ◌+◌}
use Rattle.blob_rows.specs.declared.blob_row.BlobRow.{BlobRow}
use Rattle.blob_rows.specs.BlobRows.{is_blob, longer_kept}
use Rattle.blob_rows.proofs.Distinct.{stored-renewed, no-renewed}
use Rattle.content_store.specs.RowOrder.{NumbersRise}
use Rattle.content_store.specs.StoredRows.{AreStored}
use Rattle.content_store.proofs.Numbered.{rising_changed}
use Rattle.content_store.proofs.Tied.{changed}
use Rattle.content_store.proofs.blobs.Blobs.keep_longer.Goals as goal

pub invariant_of-self : goal.invariant_of-self
invariant_of-self c =
    let inside = c.self.inside in
    record {
      stored = subst (λ (l : List BlobRow). AreStored l inside.placed inside.store.held) (sym c.keep_longer.ensures.items)
          (changed inside.rows.items inside.placed inside.store.held c.self.invariant.stored (longer_kept c.args.secs c.args.number)
          (λ row. stored-renewed (is_blob c.args.number row) (row.deadline + c.args.secs) row) (λ row. no-renewed (is_blob c.args.number row) (row.deadline + c.args.secs) row));
      rising = subst NumbersRise (sym c.keep_longer.ensures.items)
          (rising_changed (longer_kept c.args.secs c.args.number) (λ row. no-renewed (is_blob c.args.number row) (row.deadline + c.args.secs) row) inside.rows.items c.self.invariant.rising);
      room = omega (arith, c.keep_longer.ensures.room, c.self.invariant.room);
    }

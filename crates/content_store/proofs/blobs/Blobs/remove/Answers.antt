-- The rows and the store stay tied.
use Rattle.std.proofs.Common.{◌≡◌, ap, sym, subst, arith}
use Rattle.blob_rows.specs.BlobRows.{is_other}
use Rattle.content_store.specs.Plain.{ContentStoreState}
use Rattle.content_store.specs.RowOrder.{NumbersRise}
use Rattle.content_store.proofs.Numbered.{rising_filtered}
use Rattle.content_store.proofs.blobs.Blobs.remove.Goals as goal

pub invariant_of-self : goal.invariant_of-self
invariant_of-self c =
    let names : c.remove.new.store.names ≡ c.self.inside.store.names = ap (λ (s : ContentStoreState). s.names) c.remove.ensures.store in
    record {
      stored = c.remove.ensures.stored c.self.inside.placed c.self.invariant.stored;
      rising = subst NumbersRise (sym c.remove.ensures.rows) (rising_filtered (is_other c.args.number) c.self.inside.rows.items c.self.invariant.rising);
      room = omega (arith, names, c.remove.ensures.room, c.self.invariant.room);
    }

pub returns-clause-stored : goal.returns-clause-stored
returns-clause-stored c = c.remove.ensures.stored c.self.inside.placed c.self.invariant.stored

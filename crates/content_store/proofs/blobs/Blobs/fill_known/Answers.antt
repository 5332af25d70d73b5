-- Bytes that come keep the rows tied to the store.
use Rattle.std.proofs.Common.{◌≡◌, sym, ap, subst, List, arith}
use Rattle.content_store.specs.Contents.{Content}
use Rattle.content_store.specs.Plain.{ContentStoreState}
use Rattle.content_store.specs.StoredRows.{AreStored}
use Rattle.content_store.proofs.Tied.{filled}
use Rattle.content_store.proofs.blobs.Blobs.fill_known.Goals as goal

pub invariant_of-self : goal.invariant_of-self
invariant_of-self c =
    let inside = c.self.inside in
    let names : c.fill_known.new.self.names ≡ inside.store.names = ap (λ (s : ContentStoreState). s.names) c.fill_known.ensures.holds in
    record {
      stored = subst (λ (held : List Content). AreStored inside.rows.items inside.placed held) (sym (ap (λ (s : ContentStoreState). s.held) c.fill_known.ensures.holds))
          (filled inside.rows.items inside.placed inside.store.held c.self.invariant.stored c.fill_known.result c.args.digest.now c.args.bytes.now);
      rising = c.self.invariant.rising;
      room = omega (arith, names, c.self.invariant.room);
    }

-- What has no row is not held, and what is free beside the rows is free beside what is held.
use Rattle.std.proofs.Common.{◌<◌, ap, sym, ◌∙◌, map, length, arith, subst, is_some}
use Rattle.blob_rows.specs.Places.{is_free}
use Rattle.blob_rows.specs.BlobRows.{blob_of, extent_of_row, units_of}
use Rattle.content_store.specs.StoredRows.{BlobsState}
use Rattle.content_store.proofs.Tied.{held_is, length_is, free_is}
use Rattle.content_store.proofs.blobs.Blobs.put_at.Goals as goal

pub add_at-requires-clause-fresh : goal.add_at-requires-clause-fresh
add_at-requires-clause-fresh c =
    let i = c.self.inside in
    held_is i.rows.items i.placed i.store.held c.self.invariant.stored c.args.digest.now
    ∙ ap is_some (ap (λ (s : BlobsState). blob_of s.rows c.args.digest.now) c.self.view_is ∙ c.requires.fresh)

pub add_at-requires-clause-few : goal.add_at-requires-clause-few
add_at-requires-clause-few c =
    let i = c.self.inside in
    let few : length i.rows.items < i.store.names = subst (λ (s : BlobsState). length s.rows < s.store.names) (sym c.self.view_is) c.requires.few in
    let same = length_is i.rows.items i.placed i.store.held c.self.invariant.stored in
    omega (arith, few, same)

pub add_at-requires-clause-free : goal.add_at-requires-clause-free
add_at-requires-clause-free c =
    let i = c.self.inside in
    sym (free_is i.rows.items i.placed i.store.held c.self.invariant.stored (units_of c.args.size) c.args.at)
    ∙ ap (λ (s : BlobsState). is_free (map extent_of_row s.rows) (units_of c.args.size) c.args.at) c.self.view_is ∙ c.requires.free

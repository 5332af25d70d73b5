-- The row comes behind those before it.
use Rattle.std.proofs.Common.{get_or}
use Rattle.std.proofs.lemmas.List.{get_or_default}
use Rattle.content_store.proofs.Numbered.{no_row}
use Rattle.pool_changes.proofs.Loading.{next_blob, next_loaded}
use Rattle.pool_changes.proofs.loading_blobs.load_at.Goals as goal

pub load-requires : goal.load-requires
load-requires c =
    let base = c.args.base.now in
    let place = c.args.place in
    let row = get_or base.blobs place no_row in
    rw c.as_slice.ensures (next_blob base c.requires.base place c.args.blobs.now c.requires.before row c.requires.low (get_or_default base.blobs place no_row row c.requires.low))

pub returns : goal.returns
returns c =
    let base = c.args.base.now in
    let place = c.args.place in
    let row = get_or base.blobs place no_row in
    let e = c.load.ensures in
    next_loaded base c.requires.base place c.args.blobs.now c.requires.before row c.requires.low (get_or_default base.blobs place no_row row c.requires.low)
    c.load.new.blobs (rw c.as_slice.ensures at e.rows) (rw c.as_slice.ensures at e.placed) e.held e.units e.names

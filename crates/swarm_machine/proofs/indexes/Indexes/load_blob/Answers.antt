-- The deadline of the blob is all that it says.
use Rattle.std.proofs.Common.{get_or}
use Rattle.std.proofs.lemmas.List.{get_or_default}
use Rattle.content_store.proofs.Numbered.{no_row}
use Rattle.swarm_machine.proofs.Loading.{on_ok, blob_gained}
use Rattle.swarm_machine.proofs.indexes.Indexes.load_blob.Goals as goal

pub returns : goal.returns
returns c =
    let base = c.args.base.now in
    let place = c.args.place in
    let row = get_or base.blobs place no_row in
    on_ok c.load_blob_end.result (rw c.as_slice.ensures at c.load_blob_end.ensures)
    (blob_gained base place c.requires.low row (get_or_default base.blobs place no_row row c.requires.low) c.args.self.now c.load_blob_end.new.ends c.requires.before)

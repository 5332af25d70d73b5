-- Where no bytes are held, there is no blob.
use Rattle.std.proofs.Common.{Option, ap, sym, is_none}
use Rattle.dimensions.specs.Choosing.{when}
use Rattle.blob_rows.specs.declared.blob_row.BlobRow.{BlobRow}
use Rattle.swarm_history.proofs.Held.{absent_is}
use Rattle.swarm_history.proofs.adding.unless_held.Goals as goal

pub returns-in-None : goal.returns-in-None
returns-in-None g c =
    let k = g.M.Machine.kept c.args.machine.now in
    sym (ap (λ (o : Option BlobRow). when (is_none o) c.args.digest.now) (absent_is k c.requires.held c.args.digest.now (sym c.in-None.ensures.held)))

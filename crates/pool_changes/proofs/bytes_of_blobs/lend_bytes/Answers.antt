-- The rows of the blobs tell the size.
use Rattle.pool_changes.proofs.Storing.{lent_size}
use Rattle.pool_changes.proofs.bytes_of_blobs.lend_bytes.Goals as goal

pub returns-clause-sized : goal.returns-clause-sized
returns-clause-sized c s rows = lent_size c.args.blobs.now c.count-count.ensures.stored s rows c.args.digest.now c.bytes.result c.bytes.ensures.sized

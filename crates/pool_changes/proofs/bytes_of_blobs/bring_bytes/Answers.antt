-- The rows of the blobs tell whether bytes are wanted, and those that are wanted are held.
use Rattle.std.proofs.Common.{◌∙◌}
use Rattle.content_store.specs.Contents.{bytes_of}
use Rattle.pool_changes.proofs.Storing.{held_filled, filled_is}
use Rattle.pool_changes.proofs.bytes_of_blobs.bring_bytes.Goals as goal

pub returns-clause-told : goal.returns-clause-told
returns-clause-told c s rows = c.fill.ensures.told ∙ filled_is c.args.blobs.now c.count-count.ensures.stored s rows c.args.digest.now c.args.bytes.now

pub returns-clause-held : goal.returns-clause-held
returns-clause-held c =
    let holds = c.fill.ensures.holds in
    (λ i. bytes_of (holds i).store.held) ∙ held_filled c.args.blobs.now.store.held c.args.digest.now c.args.bytes.now c.fill.result c.fill.ensures.told

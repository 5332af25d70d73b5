-- A blob is removed with its bytes.
use Rattle.pool_changes.proofs.Storing.{held_removed}
use Rattle.pool_changes.proofs.changing_blobs.change_blobs.Goals as goal

pub returns-in-Remove-clause-held : goal.returns-in-Remove-clause-held
returns-in-Remove-clause-held c = rw c.in-Remove.is (held_removed c.args.blobs.now c.remove.new.self c.in-Remove.number c.remove.ensures.store)

-- What a reply names is there.
use Rattle.std.proofs.Common.{sym, subst}
use Rattle.std.specs.List.{All}
use Rattle.pool_laws.specs.NamedBlobs.{HasPart, HasNamed}
use Rattle.swarm_history.proofs.Held.{held_of}
use Rattle.swarm_history.proofs.pieces.pieces_of.Goals as goal

pub pieces_of_parts-requires-clause-present : goal.pieces_of_parts-requires-clause-present
pieces_of_parts-requires-clause-present g c =
    let pool = (g.M.Machine.kept c.args.machine.now).pool in
    subst (All (HasPart pool)) (sym c.as_slice.ensures) (subst (HasNamed pool) c.in-Stdout.is c.requires.present)

pub piece_of-requires : goal.piece_of-requires
piece_of-requires g c =
    let k = g.M.Machine.kept c.args.machine.now in
    held_of k c.requires.held c.in-Blob.digest c.in-Blob.size (subst (HasNamed k.pool) c.in-Blob.is c.requires.present)

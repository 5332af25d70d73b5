-- A part's blob is there, and its bytes are the next piece.
use Rattle.std.proofs.Common.{[], sym, subst, take, ◌+◌}
use Rattle.std.specs.List.{AllZip}
use Rattle.std.specs.Prelude.{slice_index_or}
use Rattle.swarm_model.specs.declared.reply.Part.{Part}
use Rattle.pool_doors.specs.Doors.{IsPieceOf}
use Rattle.swarm_history.proofs.Held.{held_of, piece_is, piece_more}
use Rattle.swarm_history.proofs.pieces.pieces_of_parts.Goals as goal

abbrev none : Part
none = record { digest = []; from = 0; to = 0 }

pub piece_of-requires : goal.piece_of-requires
piece_of-requires g c =
    let has = c.requires.present c.loop-part.part-index none c.loop-part-test.true in
    held_of (g.M.Machine.kept c.args.machine.now) c.requires.held _ has.0 has.1

pub loop-part-preserved : goal.loop-part-preserved
loop-part-preserved g c =
    let i = c.loop-part.part-index in
    let parts = c.args.parts.now in
    let piece = c.in_ok-piece.piece in
    subst (AllZip IsPieceOf (take (i + 1) parts)) (sym c.in_ok-push.ensures.items)
    (piece_more parts c.loop-part.pieces.items i none piece c.loop-part-test.true c.loop-part.invariant
    (piece_is (g.M.Machine.kept c.args.machine.now).pool (slice_index_or parts i none) piece (c.requires.present i none c.loop-part-test.true)
    c.in_ok-piece.ensures.named c.in_ok-piece.ensures.sized))

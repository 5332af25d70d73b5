-- The parts that were passed have their pieces.
use Rattle.std.proofs.Common.{take}
use Rattle.std.specs.List.{AllZip}
use Rattle.pool_doors.specs.Doors.{IsPieceOf}
use Rattle.swarm_history.proofs.pieces.pieces_of_parts.Given as goal

abbrev pub invariant-loop-part : goal.invariant-loop-part
invariant-loop-part g l = AllZip IsPieceOf (take l.part-index l.parts) l.pieces.items

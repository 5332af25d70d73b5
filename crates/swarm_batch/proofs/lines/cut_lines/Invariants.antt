use Rattle.std.proofs.Common.{take}
use Rattle.swarm_batch.specs.Lines.{IsCut}
use Rattle.swarm_batch.proofs.lines.cut_lines.Given as goal

abbrev pub invariant-loop-byte : goal.invariant-loop-byte
invariant-loop-byte l = IsCut (take l.byte-index l.text) l.cut

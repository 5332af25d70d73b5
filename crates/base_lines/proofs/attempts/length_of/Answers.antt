-- Behind the last chunk all are counted.
use Rattle.std.proofs.Common.{arith}
use Rattle.base_lines.proofs.Lengths.{all_counted}
use Rattle.base_lines.proofs.attempts.length_of.Goals as goal

pub returns : goal.returns
returns c = all_counted c.args.chunks.now c.loop-chunk.chunk-index c.loop-chunk.length (omega arith) c.loop-chunk.invariant.0 c.loop-chunk.invariant.1

use Rattle.std.proofs.Common.{◌-◌, length}
use Rattle.link_reader.specs.declared.pending.TheConstants.{HEAD_LIMIT}
use Rattle.reply_reader.proofs.ReplyLemmas.{SoFar}
use Rattle.reply_reader.proofs.head.read_reply_head.Given as goal

abbrev pub invariant-reads : goal.invariant-reads
invariant-reads g l = SoFar (g.L.Link.state l.fn.link) (g.L.Link.state l.link) l.pending

abbrev pub decreases-reads : goal.decreases-reads
decreases-reads g l = HEAD_LIMIT - length l.pending

use Rattle.std.proofs.Common.{arith, subst}
use Rattle.httparse.specs.Grammar.{HasNoResponse}
use Rattle.reply_reader.proofs.ReplyLemmas.{ended_early, lost_sizeless, lost_long, one_more, taken_well}
use Rattle.reply_reader.proofs.head.read_reply_head.Goals as goal

pub returns-in-None : goal.returns-in-None
returns-in-None g c =
    let h = rw c.as_slice.ensures at c.in-Complete.ensures in record {
      takes = taken_well c.reads.invariant _;
      short = c.len-is_full.ensures.bound;
      outcome = ended_early c.reads.pending (g.L.Link.state c.reads.link) (lost_sizeless h c.in-None.is);
    }

pub returns-then-is_full : goal.returns-then-is_full
returns-then-is_full g c =
    let none : HasNoResponse c.reads.pending = subst HasNoResponse c.as_slice.ensures c.in-Partial.ensures in record {
      takes = taken_well c.reads.invariant _;
      short = c.len-is_full.ensures.bound;
      outcome = ended_early c.reads.pending (g.L.Link.state c.reads.link) (lost_long none (omega arith));
    }

pub reads-preserved : goal.reads-preserved
reads-preserved g c = one_more c.reads.invariant c.fill.ensures.grows c.in-Ok.ensures.faults

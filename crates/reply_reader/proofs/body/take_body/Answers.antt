use Rattle.reply_reader.proofs.ReplyLemmas.{reply_whole, lost_cut, ended_at_end}
use Rattle.reply_reader.proofs.body.take_body.Goals as goal

pub returns-in-Ok-Whole : goal.returns-in-Ok-Whole
returns-in-Ok-Whole g c =
    let r = c.in-Ok-Whole.ensures in
    let h = rw c.in-Ok-Whole.field-0-is at r.outcome in record {
      taken = r.taken;
      takes = record { moves = r.moves; output = r.output; faults = r.faults };
      outcome = λ short at. reply_whole r.taken c.in-Ok-Whole.body.items short at h;
    }

pub returns-in-Ok-Ended : goal.returns-in-Ok-Ended
returns-in-Ok-Ended g c =
    let r = c.in-Ok-Ended.ensures in
    let h = rw c.in-Ok-Ended.field-0-is at r.outcome in record {
      taken = r.taken;
      takes = record { moves = r.moves; output = r.output; faults = r.faults };
      outcome = λ short at. ended_at_end _ (g.L.Link.state c.read_body.new.link) h.0 (lost_cut r.taken at h.1);
    }

pub returns-in-Ok-Dropped : goal.returns-in-Ok-Dropped
returns-in-Ok-Dropped g c =
    let r = c.in-Ok-Dropped.ensures in
    record { taken = r.taken; takes = record { moves = r.moves; output = r.output; faults = r.faults }; outcome = λ short at. tt }

pub returns-in-Err : goal.returns-in-Err
returns-in-Err g c =
    let r = c.in-Err.ensures in
    record { taken = r.taken; takes = record { moves = r.moves; output = r.output; faults = r.faults }; outcome = λ short at. tt }

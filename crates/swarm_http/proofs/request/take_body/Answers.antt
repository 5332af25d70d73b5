use Rattle.std.proofs.Common.{inr, refl}
use Rattle.swarm_http.proofs.Requests.{received_whole, part_cut}
use Rattle.swarm_http.proofs.request.take_body.Goals as goal

pub returns-in-Ok-Whole : goal.returns-in-Ok-Whole
returns-in-Ok-Whole g c =
    let r = rw c.in-Ok-Whole.field-0-is at c.in-Ok-Whole.ensures in
    let says = c.requires.says in
    record {
      taken = r.taken;
      moves = r.moves;
      output = r.output;
      outcome = (received_whole says.1 says.2 r.outcome (record { line = says.3; body_is = refl }), r.faults);
    }

pub returns-in-Ok-Dropped : goal.returns-in-Ok-Dropped
returns-in-Ok-Dropped g c =
    let r = rw c.in-Ok-Dropped.field-0-is at c.in-Ok-Dropped.ensures in
    let says = c.requires.says in
    record {
      taken = r.taken;
      moves = r.moves;
      output = r.output;
      outcome = (received_whole says.1 says.2 r.outcome.1 (record { line = says.3; body_is = tt }), r.faults);
    }

pub returns-in-Ok-Ended : goal.returns-in-Ok-Ended
returns-in-Ok-Ended g c =
    let r = rw c.in-Ok-Ended.field-0-is at c.in-Ok-Ended.ensures in
    let says = c.requires.says in
    record { taken = r.taken; moves = r.moves; output = r.output; outcome = (part_cut says.1 says.2 r.outcome.1, r.outcome.0, r.faults) }

pub returns-in-Err : goal.returns-in-Err
returns-in-Err g c =
    let r = c.in-Err.ensures in
    let says = c.requires.says in
    record { taken = r.taken; moves = r.moves; output = r.output; outcome = (r.faults, inr (part_cut says.1 says.2 r.outcome.0)) }

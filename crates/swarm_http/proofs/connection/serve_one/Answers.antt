use Rattle.swarm_http.proofs.Requests.{short_body}
use Rattle.swarm_http.proofs.Serving.{goes_on_counted, asked_last_counted, reply_cut_counted, head_refused_counted, refusal_cut_counted, taking_ended_counted}
use Rattle.swarm_http.proofs.connection.serve_one.Goals as goal

pub answer-shown-requires-clause-short : goal.answer-shown-requires-clause-short
answer-shown-requires-clause-short g c = short_body c.in-Asks.ensures

pub returns-in-Ok-clause-step : goal.returns-in-Ok-clause-step
returns-in-Ok-clause-step g c =
    let f = c.in-Ok.ensures in
    let w = f.sends in
    asked_last_counted g.R.Replies.does c.answer-shown.result c.in-Asks.ensures c.answer-shown.ensures.does w w.outcome w.faults f.flushed c.if-closes.true c.is_accepted-accepted.ensures

pub returns-in-Ok-2-clause-step : goal.returns-in-Ok-2-clause-step
returns-in-Ok-2-clause-step g c =
    let f = c.in-Ok-2.ensures in
    let w = f.sends in
    goes_on_counted g.R.Replies.does c.answer-shown.result c.in-Asks.ensures c.answer-shown.ensures.does w w.outcome w.faults f.flushed c.if-closes.false c.is_accepted-accepted.ensures

pub returns-in-Err-clause-step : goal.returns-in-Err-clause-step
returns-in-Err-clause-step g c = let w = c.in-Err.ensures.sends in reply_cut_counted g.R.Replies.does c.answer-shown.result c.in-Asks.ensures c.answer-shown.ensures.does w w.faults c.is_accepted-accepted.ensures

pub returns-in-Ok-send_shown-clause-step : goal.returns-in-Ok-send_shown-clause-step
returns-in-Ok-send_shown-clause-step g c = let f = c.in-Ok-send_shown.ensures in let w = f.sends in head_refused_counted g.R.Replies.does c.in-Refuses.ensures w w.outcome w.faults f.flushed

pub returns-in-Err-send_shown-clause-step : goal.returns-in-Err-send_shown-clause-step
returns-in-Err-send_shown-clause-step g c = let w = c.in-Err-send_shown.ensures.sends in refusal_cut_counted g.R.Replies.does c.in-Refuses.ensures w w.faults

pub returns-in-Ends-clause-step : goal.returns-in-Ends-clause-step
returns-in-Ends-clause-step g c = taking_ended_counted g.R.Replies.does c.in-Ends.ended c.in-Ends.ensures c.requires.clean

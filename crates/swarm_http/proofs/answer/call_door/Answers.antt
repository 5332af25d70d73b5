use Rattle.std.proofs.Common.{refl, ap, None}
use Rattle.std.specs.Prelude.{Ok, Err}
use Rattle.swarm_model.specs.declared.reply.Reply.TheVariants as reply
use Rattle.reply_bodies.specs.Bodies.{status_of}
use Rattle.swarm_http.specs.Replies.{refusal}
use Rattle.swarm_http.specs.Outcomes.{DoorCall, answered, aborted, no_reply_memory}
use Rattle.swarm_http.proofs.Asking.{is_called}
use Rattle.swarm_http.proofs.Keepers.{stop_counted}
use Rattle.swarm_http.proofs.answer.call_door.Goals as goal

pub returns-in-Ok-whole_reply-clause-answers : goal.returns-in-Ok-whole_reply-clause-answers
returns-in-Ok-whole_reply-clause-answers g c = λ head body seen means.
    let d = c.in-Ok.ensures in
    let s = g.D.Door.state c.args.door.now in
    let the_call : DoorCall = record { asks = record { who = c.args.call.now.who; asked = c.args.call.now.asked }; moment = c.now-moment.result; growth = d.growth } in
    record {
      outcome = answered the_call c.in-Ok.answered;
      acts = is_called s.settings s.writer head body the_call c.args.call.now.after (Ok c.in-Ok.answered) s.seen (g.D.Door.state c.call.new.self).seen
          seen means d.done d.elsewhere;
      moments = c.now-moment.ensures.moments;
      keeper = d.faults;
      status_is = c.in-Ok-whole_reply.ensures.status;
      shown_is = c.in-Ok-whole_reply.ensures.text;
    }

pub returns-in-Ok-clause-answers : goal.returns-in-Ok-clause-answers
returns-in-Ok-clause-answers g c = λ head body seen means.
    let d = c.in-Ok.ensures in
    let s = g.D.Door.state c.args.door.now in
    let the_call : DoorCall = record { asks = record { who = c.args.call.now.who; asked = c.args.call.now.asked }; moment = c.now-moment.result; growth = d.growth } in
    record {
      outcome = no_reply_memory the_call c.in-Ok.answered;
      acts = is_called s.settings s.writer head body the_call c.args.call.now.after (Ok c.in-Ok.answered) s.seen (g.D.Door.state c.call.new.self).seen
          seen means d.done d.elsewhere;
      moments = c.now-moment.ensures.moments;
      keeper = d.faults;
      status_is = refl;
      shown_is = refl;
    }

pub returns-clause-answers : goal.returns-clause-answers
returns-clause-answers g c = λ head body seen means.
    let d = c.in-Err.ensures in
    let s = g.D.Door.state c.args.door.now in
    let the_call : DoorCall = record { asks = record { who = c.args.call.now.who; asked = c.args.call.now.asked }; moment = c.now-moment.result; growth = d.growth } in
    record {
      outcome = aborted the_call c.in-Err.why;
      acts = is_called s.settings s.writer head body the_call c.args.call.now.after (Err c.in-Err.why) s.seen (g.D.Door.state c.call.new.self).seen
          seen means d.done d.elsewhere;
      moments = c.now-moment.ensures.moments;
      keeper = stop_counted the_call c.in-Err.why s.faults (g.D.Door.state c.call.new.self).faults d.keeper d.faults;
      status_is = ap (λ rule. status_of (reply.No rule)) c.stop_refusal.ensures;
      shown_is = ap (refusal None) c.stop_refusal.ensures;
    }

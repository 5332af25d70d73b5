use Rattle.std.proofs.Common.{refl, ap, ◌∙◌, Ok, Some}
use Rattle.pool_views.proofs.Pools.{pools_stay}
use Rattle.swarm_http.specs.Requests.{CallerRequest}
use Rattle.swarm_http.specs.Replies.{shown}
use Rattle.board_sessions.specs.Outcomes.{viewed, no_reply_memory}
use Rattle.board_sessions.proofs.Asking.{is_shown, reply_dropped, no_reply}
use Rattle.board_sessions.proofs.answer.ask_view.Goals as goal

pub returns-in-Ok-whole_reply-clause-answers : goal.returns-in-Ok-whole_reply-clause-answers
returns-in-Ok-whole_reply-clause-answers g c = λ head body same means.
    let call = c.args.call.now in
    let asks : CallerRequest = record { who = call.who; asked = call.asked } in
    record {
      outcome = viewed asks c.in-Ok.viewed;
      acts = is_shown head body asks call.after (Ok c.in-Ok.viewed) (g.V.Views.known c.args.views.now) (g.V.Views.known c.ask.new.self) same means c.in-Ok.ensures;
      status_is = c.in-Ok-whole_reply.ensures.status;
      shown_is = c.in-Ok-whole_reply.ensures.text ∙ ap (shown call.asked.place (Some c.in-Ok.viewed.front) c.in-Ok.viewed.reply) c.new-pieces.ensures;
    }

pub returns-in-Ok-clause-answers : goal.returns-in-Ok-clause-answers
returns-in-Ok-clause-answers g c = λ head body same means.
    let call = c.args.call.now in
    let asks : CallerRequest = record { who = call.who; asked = call.asked } in
    record {
      outcome = no_reply_memory asks;
      acts = is_shown head body asks call.after _ (g.V.Views.known c.args.views.now) (g.V.Views.known c.ask.new.self) same means
          (reply_dropped (g.V.Views.known c.args.views.now) (g.V.Views.known c.ask.new.self) call.asked.place _ c.in-Ok.viewed c.in-Ok.ensures);
      status_is = refl;
      shown_is = refl;
    }

pub returns-clause-answers : goal.returns-clause-answers
returns-clause-answers g c = λ head body same means.
    let call = c.args.call.now in
    let asks : CallerRequest = record { who = call.who; asked = call.asked } in
    record {
      outcome = no_reply_memory asks;
      acts = is_shown head body asks call.after _ (g.V.Views.known c.args.views.now) (g.V.Views.known c.ask.new.self) same means
          (no_reply (g.V.Views.known c.args.views.now) (g.V.Views.known c.ask.new.self) call.asked.place _ _ c.in-Err.ensures);
      status_is = refl;
      shown_is = refl;
    }

pub returns-in-Ok-whole_reply-clause-pools : goal.returns-in-Ok-whole_reply-clause-pools
returns-in-Ok-whole_reply-clause-pools g c = pools_stay _ _ _ _ _ c.in-Ok.ensures

pub returns-in-Ok-clause-pools : goal.returns-in-Ok-clause-pools
returns-in-Ok-clause-pools g c = pools_stay _ _ _ _ _ c.in-Ok.ensures

pub returns-clause-pools : goal.returns-clause-pools
returns-clause-pools g c = pools_stay _ _ _ _ _ c.in-Err.ensures

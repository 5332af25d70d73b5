use Rattle.std.proofs.Common.{refl, ap, ◌∙◌, Ok}
use Rattle.swarm_wire.specs.Asking.{asked_of}
use Rattle.swarm_http.specs.Requests.{with_front, broken_front}
use Rattle.swarm_http.specs.Steps.{by_rule}
use Rattle.swarm_http.proofs.permitted_call.read_asked.Goals as goal

pub returns-in-Broken-clause-refused : goal.returns-in-Broken-clause-refused
returns-in-Broken-clause-refused c =
    by_rule broken_front (ap (with_front c.args.after) c.in-Ok.ensures.asks ∙ ap (λ a. with_front a (Ok c.in-Ok.asked)) c.in-Broken.is) refl refl

pub returns-in-Err : goal.returns-in-Err
returns-in-Err c = record {
  asks = tt;
  refused = c.fault_reply.ensures (asked_of c.args.settings.now c.args.route c.args.parts.now c.args.body.items) c.in-Err.ensures.refused;
  carries = tt;
  fits = tt;
  place = tt;
}

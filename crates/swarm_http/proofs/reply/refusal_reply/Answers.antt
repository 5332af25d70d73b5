use Rattle.std.proofs.Common.{refl, ◌∙◌}
use Rattle.swarm_http.specs.Steps.{by_rule}
use Rattle.swarm_http.proofs.Texts.{refusal_shown}
use Rattle.swarm_http.proofs.reply.refusal_reply.Goals as goal

pub returns-in-Ok : goal.returns-in-Ok
returns-in-Ok c = by_rule c.args.why refl c.in-Ok.ensures.status (c.in-Ok.ensures.text ∙ refusal_shown c.args.why c.new-pieces.ensures)

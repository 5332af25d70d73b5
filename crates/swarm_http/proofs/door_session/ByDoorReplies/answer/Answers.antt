use Rattle.std.proofs.Common.{◌∙◌, arith}
use Rattle.swarm_http.proofs.door_session.ByDoorReplies.answer.Goals as goal

pub answer_request-requires-clause-settings : goal.answer_request-requires-clause-settings
answer_request-requires-clause-settings g c = c.requires.may.1.settings_are

pub answer_request-requires-clause-calls : goal.answer_request-requires-clause-calls
answer_request-requires-clause-calls g c = omega (arith, c.requires.may.1.calls)

pub returns-clause-does : goal.returns-clause-does
returns-clause-does g c = λ body head held. record { answers = c.answer_request.ensures.answers body head held; door = c.answer_request.ensures.door }

pub returns-clause-may : goal.returns-clause-may
returns-clause-may g c = λ n m. record {
  settings_are = c.answer_request.ensures.door.settings ∙ m.settings_are;
  calls = omega (arith, m.calls, c.answer_request.ensures.door.calls);
}

use Rattle.swarm_http.proofs.Asking.{not_called}
use Rattle.swarm_http.proofs.answer.answer_request.Goals as goal

pub returns-in-Ok-clause-answers : goal.returns-in-Ok-clause-answers
returns-in-Ok-clause-answers g c = λ body head held.
    c.call_door.ensures.answers head body (c.in-Ok.ensures.after body head held) (rw c.requires.settings (c.in-Ok.ensures.asks body head held))

pub returns-in-Err-clause-answers : goal.returns-in-Err-clause-answers
returns-in-Err-clause-answers g c = λ body head held.
    not_called c.args.settings.now head body (g.C.Clock.ahead c.args.clock.now) (g.D.Door.state c.args.door.now) c.in-Err.shown c.requires.settings (c.in-Err.ensures.refused body head held)

use Rattle.std.proofs.Common.{refl}
use Rattle.swarm_cli.specs.ServerWork.{served_console, no_memory}
use Rattle.swarm_cli.proofs.Sessions.{logs_grow}
use Rattle.swarm_cli.proofs.serving.use_door.Goals as goal

pub returns-in-Ok-clause-used : goal.returns-in-Ok-clause-used
returns-in-Ok-clause-used g c = rw c.in-Session.is (served_console (record {
  ended = c.session-ended.result;
  answered = c.session-ended.ensures.answered;
  logs_are = logs_grow c.requires.alone c.session-ended.ensures.answered;
  listener = refl;
  status_is = c.exit_status.ensures;
}))

pub returns-in-Err-clause-used : goal.returns-in-Err-clause-used
returns-in-Err-clause-used g c = rw c.in-Session.is (no_memory refl refl refl)

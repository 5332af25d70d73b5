use Rattle.std.proofs.lemmas.Result.{IfOk-weaker}
use Rattle.swarm_model.specs.Bases.{empty_base}
use Rattle.swarm_history.specs.Machines.{no_pool}
use Rattle.swarm_cli.proofs.telling.summary_of_machines.Goals as goal

pub returns : goal.returns
returns g c = IfOk-weaker c.summary.result _ _ (λ text told. told (empty_base no_pool)) c.summary.ensures

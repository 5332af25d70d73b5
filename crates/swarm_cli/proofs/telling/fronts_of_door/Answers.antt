use Rattle.std.proofs.Common.{◌∙◌, map}
use Rattle.std.proofs.lemmas.Result.{IfOk-weaker}
use Rattle.swarm_model.specs.Bases.{empty_base}
use Rattle.swarm_history.specs.Machines.{no_pool, logs_of, start_at, starts_of}
use Rattle.pool_summaries.specs.Summaries.{fronts_of}
use Rattle.swarm_cli.proofs.Doing.{told_alike}
use Rattle.swarm_cli.proofs.telling.fronts_of_door.Goals as goal

pub fronts-requires : goal.fronts-requires
fronts-requires g c = c.machines.ensures.pools ∙ c.requires.pools

-- the machines tell what the door's state does
pub returns : goal.returns
returns g c =
    let machines = map g.M.Machine.kept c.machines.result.now in
    IfOk-weaker c.fronts.result _ _
    (λ text told. told (empty_base no_pool) ∙ told_alike fronts_of c.args.pools.now (start_at (starts_of machines)) _ (logs_of machines) _ c.machines.ensures.starts c.machines.ensures.logs)
    c.fronts.ensures

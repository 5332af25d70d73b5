use Rattle.std.proofs.Common.{◌∙◌, sym, ap}
use Rattle.swarm_model.specs.declared.pool_settings.Settings.{Settings}
use Rattle.swarm_cli.proofs.Checkpoints.{ends_made, ends_stopped}
use Rattle.swarm_cli.proofs.checkpoint.checkpoint_door.Goals as goal

pub fronts_of_door-requires : goal.fronts_of_door-requires
fronts_of_door-requires g c = record { pools = ap (λ (s : Settings). s.pools) c.requires.fresh_door.settings_are ∙ sym c.as_slice.ensures }

pub returns-in-Ok-checkpoint-clause-ends : goal.returns-in-Ok-checkpoint-clause-ends
returns-in-Ok-checkpoint-clause-ends g c = ends_made _ c.as_slice.result.now c.requires c.in-Ok-checkpoint.ensures.ok c.in-Ok-checkpoint.ensures.restores c.as_slice.ensures c.in-Ok.ensures

pub returns-in-Err-checkpoint-clause-ends : goal.returns-in-Err-checkpoint-clause-ends
returns-in-Err-checkpoint-clause-ends g c =
    let e = c.in-Err-checkpoint.ensures in
    ends_stopped _ c.in-Err-checkpoint.fault c.requires e.err e.restores_back e.place (λ is. e.full.0 is) e.failed

use Rattle.std.proofs.Common.{◌∙◌, map, sym}
use Rattle.std.specs.Prelude.{sum_by}
use Rattle.swarm_cli.proofs.Checkpoints.{made_of, ends_over}
use Rattle.swarm_cli.proofs.KeptSessions.{goes_on_telling, same_length}
use Rattle.swarm_cli.proofs.checkpoint.checkpoint_over.Goals as goal

pub checkpoint_door-requires : goal.checkpoint_door-requires
checkpoint_door-requires g c =
    let e = c.in-Ok.ensures in
    made_of (map g.K.Keeper.tables c.args.keepers.items) _ e.fresh e.bases e.lines e.records

pub returns-in-Ok-clause-ends : goal.returns-in-Ok-clause-ends
returns-in-Ok-clause-ends g c =
    ends_over c.checkpoint_door.result.0 c.args.settings.now (map g.K.Keeper.tables c.args.keepers.items) (map g.K.Keeper.tables c.checkpoint_door.result.1.items)
    (sum_by g.K.Keeper.faults c.args.keepers.items) _ (sum_by g.K.Keeper.faults c.checkpoint_door.result.1.items) c.in-Ok.ensures.grows
    (rw (← c.in-Ok.ensures.records) c.checkpoint_door.ensures.ends)

pub returns-in-Ok-clause-told : goal.returns-in-Ok-clause-told
returns-in-Ok-clause-told g c =
    goes_on_telling g.K.Keeper.tables g.K.Keeper.TELLS g.K.Keeper.tells c.args.keepers.items c.checkpoint_door.result.1.items (c.requires.count ∙ sym c.checkpoint_door.ensures.count)

pub returns-in-Err-clause-ends : goal.returns-in-Err-clause-ends
returns-in-Err-clause-ends g c = record { bad = c.in-Err.ensures.bad; failed = c.in-Err.ensures.failed; same = c.in-Err.ensures.back }

pub returns-in-Err-clause-count : goal.returns-in-Err-clause-count
returns-in-Err-clause-count g c = same_length g.K.Keeper.tables c.args.keepers.items c.in-Err.keepers.items c.in-Err.ensures.back ∙ c.requires.count

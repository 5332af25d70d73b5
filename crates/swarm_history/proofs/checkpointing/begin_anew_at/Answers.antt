-- The machine and the keeper at the place.
use Rattle.std.proofs.lemmas.Result.{on_ok_weaker, on_err_weaker}
use Rattle.swarm_history.proofs.Checkpoints.{begun_at, full_at}
use Rattle.swarm_history.proofs.Keepers.{tables_stay}
use Rattle.swarm_history.proofs.checkpointing.begin_anew_at.Goals as goal

pub returns-clause-anew : goal.returns-clause-anew
returns-clause-anew g c =
    on_ok_weaker c.begin_anew.result
    (begun_at g.M.Machine.kept g.K.Keeper.tables c.args.machines.now c.args.keepers.now.items c.args.place c.index-machines-place.result c.index_mut-keeper.result.now c.begin_anew.new.keeper
    c.requires.machine c.requires.keeper c.index-machines-place.is c.index_mut-keeper.ensures.value)
    c.begin_anew.ensures.anew

pub returns-clause-stays : goal.returns-clause-stays
returns-clause-stays g c =
    on_err_weaker c.begin_anew.result
    (tables_stay g.K.Keeper.tables c.args.keepers.now.items c.args.place c.index_mut-keeper.result.now c.begin_anew.new.keeper c.index_mut-keeper.ensures.value)
    c.begin_anew.ensures.stays

pub returns-clause-full : goal.returns-clause-full
returns-clause-full g c =
    full_at g.M.Machine.kept g.K.Keeper.tables c.args.machines.now c.args.keepers.now.items c.args.place c.index-machines-place.result c.index_mut-keeper.result.now c.begin_anew.new.keeper
    c.requires.machine c.requires.keeper c.index-machines-place.is c.index_mut-keeper.ensures.value c.begin_anew.ensures.full

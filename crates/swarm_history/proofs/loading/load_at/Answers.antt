-- The tables stay, and what nothing led to is new.
use Rattle.swarm_history.proofs.Keepers.{tables_stay}
use Rattle.swarm_history.proofs.LoadedMachines.{new_is}
use Rattle.swarm_history.proofs.loading.load_at.Goals as goal

pub returns-clause-nothing : goal.returns-clause-nothing
returns-clause-nothing g c = λ sure. new_is g.M.Machine.kept c.load_pool.result c.args.pool.now _ c.load_pool.ensures.loaded (c.load_pool.ensures.nothing sure)

pub returns-clause-stays : goal.returns-clause-stays
returns-clause-stays g c =
    tables_stay g.K.Keeper.tables c.args.keepers.now.items c.args.place c.index_mut-keeper.result.now c.load_pool.new.keeper c.index_mut-keeper.ensures.value c.load_pool.ensures.stays

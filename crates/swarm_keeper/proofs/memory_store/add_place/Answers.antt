use Rattle.std.proofs.Common.{refl}
use Rattle.swarm_keeper.proofs.Places.{add_place}
use Rattle.swarm_keeper.proofs.memory_store.add_place.Goals as goal

pub returns-clause-ok : goal.returns-clause-ok
returns-clause-ok c = λ none. add_place _ _ _ _ _ _ c.in_ok-push.ensures.items c.in_ok-folder.ensures c.in_ok-pool.ensures refl none

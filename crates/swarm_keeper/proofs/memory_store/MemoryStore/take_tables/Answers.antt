use Rattle.swarm_keeper.proofs.Places.{take_tables, nothing_taken}
use Rattle.swarm_keeper.proofs.memory_store.MemoryStore.take_tables.Goals as goal

pub returns-in-Some-clause-taken : goal.returns-in-Some-clause-taken
returns-in-Some-clause-taken c = take_tables _ _ _ _ _ _ c.new.ensures c.in-Some.ensures

pub returns-in_ok-add_place-in-None-clause-taken : goal.returns-in_ok-add_place-in-None-clause-taken
returns-in_ok-add_place-in-None-clause-taken c = nothing_taken _ _ _ _ _ _ _ c.in-None.ensures c.new-in-None.ensures c.new-in-None-2.ensures c.in_ok-add_place-in-None.ensures.ok

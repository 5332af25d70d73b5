use Rattle.std.proofs.Common.{subst, sym}
use Rattle.std.specs.Bool.{IsTrue}
use Rattle.swarm_keeper.proofs.Places.{replaced_places}
use Rattle.swarm_keeper.proofs.memory_store.MemoryStoreStore.detach.Goals as goal

pub returns-clause-places : goal.returns-clause-places
returns-clause-places c = λ g q h. subst (λ places. IsTrue (places g q)) (sym (replaced_places _ _ _ _ _ _ c.replace_tables-before.ensures)) h

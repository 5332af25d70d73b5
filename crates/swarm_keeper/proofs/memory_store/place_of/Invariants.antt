use Rattle.std.proofs.Common.{◌≡◌, take, false}
use Rattle.swarm_keeper.specs.Places.{has_place}
use Rattle.swarm_keeper.proofs.memory_store.place_of.Given as goal

abbrev pub invariant-loop-at : goal.invariant-loop-at
invariant-loop-at l = has_place (take l.at l.places) l.folder l.pool ≡ false

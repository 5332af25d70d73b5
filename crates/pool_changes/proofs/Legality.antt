-- A legal log goes on by an entry that may follow it.
use Rattle.std.proofs.Common.{◌+◌, ◌<◌, ◌≤◌, List, [], ◌∷◌, ◌++◌, length, arith, length-append, IsTrue}
use Rattle.std.specs.List.{sum_by}
use Rattle.std.proofs.lemmas.Bool.{and_parts}
use borrow.Author.Tests.{ltb-true, leb-true}
use Rattle.std.proofs.lemmas.List.Sums.{sum_by-append}
use Rattle.swarm_model.specs.declared.pool_state.PoolState.{PoolState}
use Rattle.swarm_model.specs.declared.entry.Entry.{Entry}
use Rattle.swarm_model.specs.Effects.{after}
use Rattle.swarm_model.specs.Entries.{weight}
use Rattle.swarm_model.specs.History.{replay, IsCaused, IsLegal, MayFollow, has_room}
use Rattle.swarm_model.specs.StateWeight.{state_weight}

-- what room means in a log that begins from these rows
pub record Rooms (base : PoolState) (log : List Entry) (entry : Entry) : Type 0 where
  pub few : length log < base.settings.most_entries
  pub light : state_weight base + sum_by weight log + weight entry ≤ base.settings.most_weight

pub rooms : (base : PoolState) (log : List Entry) (entry : Entry) → IsTrue (has_room base log entry) → Rooms base log entry
rooms base log entry room =
    let p = and_parts _ _ room in record { few = ltb-true _ _ p.0; light = leb-true _ _ p.1 }

pub caused_more : (s : PoolState) (log : List Entry) (entry : Entry) → IsCaused s log → MayFollow (replay s log) entry → IsCaused s (log ++ entry ∷ [])
caused_more s [] entry caused follows = (follows, tt)
caused_more s (e ∷ log) entry caused follows = (caused.0, caused_more (after s e) log entry caused.1 follows)

pub legal_more : (s : PoolState) (log : List Entry) (entry : Entry) → IsLegal s log → MayFollow (replay s log) entry → Rooms s log entry → IsLegal s (log ++ entry ∷ [])
legal_more s log entry legal follows room =
    record {
      caused = caused_more s log entry legal.caused follows;
      few = omega (arith, room.few, length-append log (entry ∷ []));
      light = omega (arith, room.light, sum_by-append weight log (entry ∷ []));
    }

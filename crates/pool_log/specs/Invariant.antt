-- What a pool with a log keeps, and what holds of it.
use Rattle.std.specs.Prelude.{◌≡◌, ◌<◌, ◌+◌, List, Option, IfSome, vec_len, vec_capacity}
use Rattle.std.specs.List.{sum_by}
use Rattle.content_store.specs.Contents.{Content}
use Rattle.swarm_model.specs.declared.pool_state.PoolState.{PoolState}
use Rattle.swarm_model.specs.declared.entry.Entry.{Entry}
use Rattle.swarm_model.specs.Bases.{Base}
use Rattle.swarm_model.specs.Entries.{weight}
use Rattle.swarm_model.specs.StateWeight.{state_weight}
use Rattle.pool_log.specs.Plain.{KeptPool}
use Rattle.pool_log.specs.Reached.{IsReplayOf}
use Rattle.pool_log.specs.declared.logged_pool.LoggedPool.TheInside.{Inside}

-- where the log begins
abbrev pub start_of : {R : Type 0} → Inside R → Base
start_of pool = record { rows = pool.base; count = pool.count }

abbrev pub kept_of : {R : Type 0} → PoolState → Option Entry → List Content → Inside R → KeptPool
kept_of s ready held pool = record { start = start_of pool; pool = s; log = pool.log.items; ready = ready; held = held }

-- the weight of the entry that lies ready is known, and the log has room for it
pub record IsReady {R : Type 0} (pool : Inside R) (entry : Entry) : Type 0 where
  pub weighs : pool.added ≡ weight entry
  pub room : vec_len pool.log < vec_capacity pool.log

-- the rows are the replay of the log, whose weight is known with that of the rows from which it begins
pub record IsKept {R : Type 0} (s : PoolState) (ready : Option Entry) (pool : Inside R) : Type 0 where
  pub replay_of : IsReplayOf (start_of pool) pool.log.items s
  pub weighs : pool.weight ≡ state_weight pool.base + sum_by weight pool.log.items
  pub prepared : IfSome ready (IsReady pool)

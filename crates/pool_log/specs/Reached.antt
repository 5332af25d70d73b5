-- States to which logs lead, and the entries that may come next.
use Rattle.std.specs.Prelude.{◌≡◌, IsTrue, List}
use Rattle.swarm_model.specs.declared.pool_state.PoolState.{PoolState}
use Rattle.swarm_model.specs.declared.entry.Entry.{Entry}
use Rattle.swarm_model.specs.Bases.{Base}
use Rattle.swarm_model.specs.BaseRules.{IsBase}
use Rattle.swarm_model.specs.Settings.{keeps_rules}
use Rattle.swarm_model.specs.History.{replay, IsLegal, MayFollow, has_room}

-- the state is the replay of a legal log from a base, of settings that keep the rules
pub record IsReplayOf (start : Base) (log : List Entry) (s : PoolState) : Type 0 where
  pub rules : IsTrue (keeps_rules s.settings)
  pub base : IsBase s.settings start.count start.rows
  pub replayed : s ≡ replay start.rows log
  pub legal : IsLegal start.rows log

-- some log leads to the state, from some base
pub record IsReached (s : PoolState) : Type 0 where
  pub start : Base
  pub log : List Entry
  pub replay_of : IsReplayOf start log s

-- the entry may follow in the state, to which some log leads that has room for it
pub record MayComeNext (s : PoolState) (entry : Entry) : Type 0 where
  pub start : Base
  pub log : List Entry
  pub replay_of : IsReplayOf start log s
  pub follows : MayFollow s entry
  pub room : IsTrue (has_room start.rows log entry)

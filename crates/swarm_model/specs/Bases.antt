-- Where a log begins.
use Rattle.std.specs.Prelude.{ℕ, ◌+◌, ◌-◌, nat_le, if◌then◌else◌, List, length, slice_get, Option, None}
use Rattle.swarm_model.specs.Types.{PoolSettings, PoolState, Entry}
use Rattle.swarm_model.specs.Effects.{opening}

-- the rows from which a log begins, and how many entries led to them
pub record Base : Type 0 where
  pub rows : PoolState
  pub count : ℕ

-- a pool that nothing led to
abbrev pub empty_base : PoolSettings → Base
empty_base settings = record { rows = opening settings; count = 0 }

-- the length of a log, with the entries that led to its base
abbrev pub front : Base → List Entry → ℕ
front start log = start.count + length log

-- the entry at a place that counts from the first of those that led to the base, which are there no more
abbrev pub entry_from : Base → List Entry → ℕ → Option Entry
entry_from start log at = if nat_le start.count at then slice_get log (at - start.count) else None

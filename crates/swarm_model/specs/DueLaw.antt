-- Which deadline is due.
use Rattle.std.specs.Prelude.{ℕ, ◌<◌, ◌≤◌, IsFalse, MatchOption}
use Rattle.std.specs.List.{All, Contains}
use Rattle.swarm_model.specs.Types.{PoolState, Deadline}
use Rattle.swarm_model.specs.Deadlines.{deadlines, is_earlier, due}

-- a deadline of the pool that has come by the moment, before which no other goes
pub record IsEarliestDue (s : PoolState) (moment : ℕ) (d : Deadline) : Type 0 where
  pub of_pool : Contains (deadlines s) d
  pub come : d.moment ≤ moment
  pub earliest : All (λ other. IsFalse (is_earlier other d)) (deadlines s)

-- such a deadline is due; none is due exactly where none has come
abbrev pub DueIsEarliest : Type 0
DueIsEarliest = (s : PoolState) (moment : ℕ) → MatchOption (due s moment) (All (λ d. moment < d.moment) (deadlines s)) (IsEarliestDue s moment)

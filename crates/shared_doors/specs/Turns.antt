-- A turn in which nothing is written.
use Rattle.std.specs.Prelude.{◌≡◌, ℕ, ◌+◌, ◌<◌, List, slice_set}
use mathlib.Core.List.{IsPrefix}
use Rattle.swarm_model.specs.declared.pool_state.PoolState.{PoolState}
use Rattle.swarm_model.specs.History.{IsLegal}
use Rattle.turnstile.specs.Numbers.{times, own}
use Rattle.shared_doors.specs.declared.view.PoolView.{PoolView}
use Rattle.shared_doors.specs.Joined.{by}
use Rattle.shared_doors.specs.Views.{view_at}

-- A pass took one turn. It has seen a log that begins with what it had seen, is legal from the rows where the pool's log begins, and has no
-- entry more of its numbers. But for that it knows what it knew.
pub record TakesTurn (rows : PoolState) (old new : PoolView) : Type 0 where
  pub begins : IsPrefix old.seen new.seen
  pub legal : IsLegal rows new.seen
  pub no_own : (k : ℕ) → 0 < times k old.numbers → own by k new.seen ≡ own by k old.seen
  pub rest : new ≡ record old { turns = old.turns + 1; seen = new.seen }

-- the pass at a place took one turn, and the other places are as they were
pub record TakesTurnAt (rows : PoolState) (place : ℕ) (old new : List PoolView) : Type 0 where
  pub turn : TakesTurn rows (view_at old place) (view_at new place)
  pub elsewhere : new ≡ slice_set old place (view_at new place)

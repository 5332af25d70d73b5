-- What is read of a copy.
use Rattle.std.specs.Prelude.{◌≡◌, ℕ, ◌+◌, length, Some, Result, if◌then◌else◌}
use Rattle.std.specs.declared.alloc.AllocError.{AllocError}
use Rattle.swarm_model.specs.declared.pool_state.PoolState.{PoolState}
use Rattle.swarm_model.specs.declared.reply.Reply.TheVariants as reply
use Rattle.swarm_model.specs.declared.rule.Rule.TheVariants as rule
use Rattle.swarm_model.specs.Bases.{Base}
use Rattle.swarm_model.specs.Points.{is_ahead}
use Rattle.pool_views.specs.declared.views.Viewed.{Viewed}
use Rattle.pool_views.specs.Views.{Known, Query, IsAsked, reply_of}
use Rattle.row_copies.specs.declared.kept.Kept.{Kept}
use Rattle.swarm_boards.specs.declared.rule.Seen.{Seen}

-- what a view knows whose reader knows this
abbrev pub known_by : Base → Seen → Known
known_by start v = record { start = start; seen = v.seen; told = v.told }

-- how many entries led to the rows of the copy, and the reply of those rows
pub record IsFront (kept : Kept) (count : ℕ) (query : Query) (viewed : Viewed) : Type 0 where
  pub front : viewed.front ≡ count + length kept.log
  pub reply : viewed.reply ≡ (if is_ahead (count + length kept.log) query.after then reply.No (rule.FrontAhead (count + length kept.log)) else reply_of kept.now query)

-- a question to the reader, which knows the base
pub record IsRead (count : ℕ) (v w : Seen) (query : Query) (result : Result Viewed AllocError) : Type 0 where
  pub base : w.base ≡ v.base
  pub asked : (rows : PoolState) → v.base ≡ Some rows → IsAsked (known_by (record { rows = rows; count = count }) v) (known_by (record { rows = rows; count = count }) w) query result

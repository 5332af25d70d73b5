-- What the views of a board know, and what a question to one shows.
use Rattle.std.specs.Prelude.{◌≡◌, ◌⊎◌, ℕ, Bool, true, false, List, map, set, slice_get, Option, Some, Result, Ok, Err, if◌then◌else◌}
use Rattle.std.specs.List.{All}
use Rattle.std.specs.declared.alloc.AllocError.{AllocError}
use mathlib.Core.List.{IsPrefix}
use Rattle.swarm_model.specs.declared.pool_settings.PoolSettings.{PoolSettings}
use Rattle.swarm_model.specs.declared.pool_state.PoolState.{PoolState}
use Rattle.swarm_model.specs.declared.entry.Entry.{Entry}
use Rattle.swarm_model.specs.declared.request.Request.{Request}
use Rattle.swarm_model.specs.declared.request.Request.TheVariants as ask
use Rattle.swarm_model.specs.declared.rule.Rule.TheVariants as rule
use Rattle.swarm_model.specs.declared.reply.Reply.{Reply}
use Rattle.swarm_model.specs.declared.reply.Reply.TheVariants as reply
use Rattle.swarm_model.specs.Answers.{decide}
use Rattle.swarm_model.specs.Bases.{Base, front}
use Rattle.swarm_model.specs.History.{replay, IsLegal}
use Rattle.swarm_model.specs.Points.{is_ahead}
use Rattle.pool_views.specs.declared.views.Viewed.{Viewed}

-- the requests that rows of tasks and bots answer alone
abbrev pub reads_rows : Request → Bool
reads_rows (ask.Count state) = true
reads_rows (ask.List state limit below) = true
reads_rows (ask.Result task try_no) = true
reads_rows (ask.Bots limit after) = true
reads_rows (ask.Bot bot) = true
reads_rows other = false

-- a question: the caller, the length of a log that the caller has seen, and the request
pub record Query : Type 0 where
  pub caller : List ℕ
  pub after : Option ℕ
  pub request : Request

-- what the view of a pool knows: the base from which entries are published, those that it has seen, and each list of them that it was told
pub record Known : Type 0 where
  pub start : Base
  pub seen : List Entry
  pub told : List (List Entry)

-- the settings of the pools
abbrev pub pools_of : List Known → List PoolSettings
pools_of views = map (λ view. view.start.rows.settings) views

-- the entries that the view may show next: a legal log of its base, which begins with what it has seen and with each list that it was told
pub record MayShow (view : Known) (entries : List Entry) : Type 0 where
  pub legal : IsLegal view.start.rows entries
  pub seen : IsPrefix view.seen entries
  pub told : All (λ list. IsPrefix list entries) view.told

-- how many entries led to the rows that the view shows
abbrev pub front_of : Known → ℕ
front_of view = front view.start view.seen

-- what a machine with these rows answers, at the moment of their last entry
abbrev pub reply_of : PoolState → Query → Reply
reply_of s query = (decide s query.caller s.last query.request).reply

-- the same by what the view has seen, unless the caller has seen more
abbrev pub reply_by : Known → Query → Reply
reply_by view query =
    if is_ahead (front_of view) query.after
    then reply.No (rule.FrontAhead (front_of view))
    else reply_of (replay view.start.rows view.seen) query

-- the view goes on to these entries, and shows the reply after them
pub record IsViewed (old new : Known) (query : Query) (viewed : Viewed) : Type 0 where
  pub entries : MayShow old new.seen
  pub front : viewed.front ≡ front_of new
  pub reply : viewed.reply ≡ reply_by new query

-- for want of memory the view may also stay where it is
abbrev pub Shows : Known → Known → Query → Result Viewed AllocError → Type 0
Shows old new query (Ok viewed) = IsViewed old new query viewed
Shows old new query (Err error) = (new.seen ≡ old.seen) ⊎ MayShow old new.seen

-- a question to a view, of which nothing changes but what it has seen
pub record IsAsked (old new : Known) (query : Query) (result : Result Viewed AllocError) : Type 0 where
  pub shows : Shows old new query result
  pub same : new ≡ record old { seen = new.seen }

-- a question to the view of the pool at a place, which alone changes
pub record IsAsk (old new : List Known) (place : ℕ) (query : Query) (result : Result Viewed AllocError) : Type 0 where
  pub from : Known
  pub to : Known
  pub there : slice_get old place ≡ Some from
  pub asked : IsAsked from to query result
  pub views : new ≡ set old place to

-- How a board answers one request.
use Rattle.std.specs.Prelude.{◌≡◌, ℕ, List, [], None, Some, Result, Ok, Err}
use Rattle.std.specs.Allocator.{alloc_error}
use Rattle.std.specs.declared.alloc.AllocError.{AllocError}
use Rattle.httparse.specs.Grammar.{RequestHead}
use Rattle.request_head.specs.HeadFields.{after_of}
use Rattle.swarm_model.specs.declared.pool_settings.Settings.{Settings}
use Rattle.swarm_model.specs.declared.reply.Reply.{Reply}
use Rattle.swarm_model.specs.declared.reply.Reply.TheVariants as reply
use Rattle.swarm_model.specs.declared.rule.Rule.{Rule}
use Rattle.swarm_model.specs.declared.rule.Rule.TheVariants as rule
use Rattle.pool_views.specs.declared.views.Viewed.{Viewed}
use Rattle.pool_views.specs.Views.{Query, Known, pools_of, IsAsk}
use Rattle.swarm_http.specs.Requests.{CallerRequest, board_request_of, front_of}
use Rattle.swarm_http.specs.Replies.{Shown, shown, refusal}

-- the request was refused before any view was asked; the view of its pool answered; there was no memory
-- before any view was asked; or none for the reply of the view
pub data BoardOutcome : Type 0 where
  rejected : Rule → BoardOutcome
  viewed : CallerRequest → Viewed → BoardOutcome
  no_body_memory : BoardOutcome
  no_reply_memory : CallerRequest → BoardOutcome

-- the reply
abbrev pub answer_of : BoardOutcome → Reply
answer_of (rejected why) = reply.No why
answer_of (viewed asks result) = result.reply
answer_of no_body_memory = reply.No rule.WantOfMemory
answer_of (no_reply_memory asks) = reply.No rule.WantOfMemory

-- the bytes of the reply; X-Swarming-Front stands there exactly where the reply is that of a view
abbrev pub shown_of : BoardOutcome → Shown
shown_of (rejected why) = refusal None why
shown_of (viewed asks result) = shown asks.asked.place (Some result.front) result.reply []
shown_of no_body_memory = refusal None rule.WantOfMemory
shown_of (no_reply_memory asks) = refusal None rule.WantOfMemory

-- the settings by which requests are read: the pools are those of the views
abbrev pub settings_of : List Known → Settings
settings_of views = record { store = None; pools = pools_of views }

-- the question of a request to the view of its pool
abbrev pub query_of : RequestHead → CallerRequest → Query
query_of head asks = record { caller = asks.who; after = front_of (after_of head); request = asks.asked.request }

-- the head and the body mean this request, and it was asked of the view of its pool, which alone changes
pub record IsShown (head : RequestHead) (body : List ℕ) (asks : CallerRequest) (result : Result Viewed AllocError) (old new : List Known) : Type 0 where
  pub means : board_request_of (settings_of old) head body ≡ Ok asks
  pub asked : IsAsk old new asks.asked.place (query_of head asks) result

-- what a request with this head and body does to the views
abbrev pub Acts : RequestHead → List ℕ → BoardOutcome → List Known → List Known → Type 0
Acts head body (rejected why) old new = (board_request_of (settings_of old) head body ≡ Err why) × (new ≡ old)
Acts head body (viewed asks result) old new = IsShown head body asks (Ok result) old new
Acts head body no_body_memory old new = new ≡ old
Acts head body (no_reply_memory asks) old new = IsShown head body asks (Err alloc_error) old new

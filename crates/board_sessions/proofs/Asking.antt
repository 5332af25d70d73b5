-- How a request to a board is answered, as its reply is made.
use Rattle.std.proofs.Common.{◌≡◌, inr, ℕ, List, Option, Result, Ok, Err, refl, ◌∙◌, subst}
use Rattle.std.specs.declared.alloc.AllocError.{AllocError}
use Rattle.std.specs.Allocator.{alloc_error}
use Rattle.httparse.specs.Grammar.{RequestHead}
use Rattle.request_head.specs.HeadFields.{after_of}
use Rattle.swarm_model.specs.declared.pool_settings.Settings.{Settings}
use Rattle.pool_views.specs.declared.views.Viewed.{Viewed}
use Rattle.pool_views.specs.Views.{Query, Known, pools_of, IsAsk}
use Rattle.swarm_http.specs.declared.reply.ReplyBytes.{ReplyBytes}
use Rattle.swarm_http.specs.Requests.{CallerRequest, board_request_of, front_of}
use Rattle.swarm_http.specs.Sends.{status_in, shown_in}
use Rattle.swarm_http.specs.Steps.{IsRejection, by_rule, by_memory}
use Rattle.board_sessions.specs.Outcomes.{rejected, no_body_memory, settings_of, IsShown}
use Rattle.board_sessions.specs.Steps.{Answers}
use Rattle.board_sessions.proofs.Reading.{by_views}

-- the view of the pool was asked for the request
pub is_shown : (head : RequestHead) (body : List ℕ) (asks : CallerRequest) (after : Option ℕ) (result : Result Viewed AllocError) (old new : List Known)
    → after ≡ front_of (after_of head) → board_request_of (settings_of old) head body ≡ Ok asks
    → IsAsk old new asks.asked.place (record { caller = asks.who; after = after; request = asks.asked.request }) result → IsShown head body asks result old new
is_shown head body asks after result old new same means asked = record {
  means = means;
  asked = subst (λ (seen : Option ℕ). IsAsk old new asks.asked.place (record { caller = asks.who; after = seen; request = asks.asked.request }) result) same asked;
}

-- there was no memory for a reply that the view showed
pub reply_dropped : (old new : List Known) (place : ℕ) (query : Query) (viewed : Viewed) → IsAsk old new place query (Ok viewed) → IsAsk old new place query (Err alloc_error)
reply_dropped old new place query viewed a = record {
  from = a.from;
  to = a.to;
  there = a.there;
  asked = record { shows = inr a.asked.shows.entries; same = a.asked.same };
  views = a.views;
}

-- the view had no memory for a reply
pub no_reply : (old new : List Known) (place : ℕ) (query : Query) (error : AllocError) → IsAsk old new place query (Err error) → IsAsk old new place query (Err alloc_error)
no_reply old new place query error a = record {
  from = a.from;
  to = a.to;
  there = a.there;
  asked = record { shows = a.asked.shows; same = a.asked.same };
  views = a.views;
}

-- no view was asked
pub refused_early : (settings : Settings) (views : List Known) (head : RequestHead) (body : List ℕ) (shown : ReplyBytes) → pools_of views ≡ settings.pools
    → IsRejection shown (board_request_of settings head body) → Answers head body (status_in shown) (shown_in shown) views views
refused_early settings views head body shown are (by_rule why e status text) =
    record { outcome = rejected why; acts = (by_views settings views head body are ∙ e, refl); status_is = status; shown_is = text }
refused_early settings views head body shown are (by_memory status text) = record { outcome = no_body_memory; acts = refl; status_is = status; shown_is = text }

-- One request to a board.
use Rattle.std.specs.Prelude.{◌≡◌, ℕ, List}
use Rattle.httparse.specs.Grammar.{RequestHead}
use Rattle.reply_bodies.specs.Bodies.{status_of}
use Rattle.pool_views.specs.Views.{Known}
use Rattle.swarm_http.specs.Replies.{Shown}
use Rattle.board_sessions.specs.Outcomes.{BoardOutcome, Acts, answer_of, shown_of}

-- a request with this head and body has a reply of this status and these bytes, between two states of the views
pub record Answers (head : RequestHead) (body : List ℕ) (status : ℕ) (shown : Shown) (old new : List Known) : Type 0 where
  pub outcome : BoardOutcome
  pub acts : Acts head body outcome old new
  pub status_is : status ≡ status_of (answer_of outcome)
  pub shown_is : shown ≡ shown_of outcome

-- What one connection to a board does.
use Rattle.std.specs.Prelude.{◌≡◌, ◌⊎◌, ℕ, ◌≤◌, List, [], ◌∷◌, length, map}
use Rattle.std.specs.List.{AllZip}
use mathlib.Core.List.{IsPrefix}
use Rattle.httparse.specs.Grammar.{RequestHead}
use Rattle.sw_base.specs.Link.{LinkState}
use Rattle.reply_bodies.specs.Bodies.{status_of}
use Rattle.pool_views.specs.Views.{Known, MayShow}
use Rattle.swarm_http.specs.declared.ended.Ended.{Ended}
use Rattle.swarm_http.specs.Served.{Served, IsRequest}
use Rattle.swarm_http.specs.Endings.{Transfers, EndsAs, EndsAtFault}
use Rattle.board_sessions.specs.Outcomes.{BoardOutcome, Acts, answer_of, shown_of}

-- a request as it stood on the link, what its head is, and its outcome
pub record BoardExchange : Type 0 where
  pub text : List ℕ
  pub body : List ℕ
  pub head : RequestHead
  pub outcome : BoardOutcome

-- the request, with the status and the bytes of its outcome's reply
abbrev pub served_of : BoardExchange → Served
served_of x = record { text = x.text; body = x.body; head = x.head; status = status_of (answer_of x.outcome); shown = shown_of x.outcome }

abbrev pub served : List BoardExchange → List Served
served xs = map served_of xs

-- one exchange after another: each is a request, and does to the views what its outcome says
abbrev pub Chain : List Known → List BoardExchange → List Known → Type 0
Chain old [] new = new ≡ old
Chain old (x ∷ xs) new = (mid : List Known) × IsRequest x.text x.body x.head × Acts x.head x.body x.outcome old mid × Chain mid xs new

-- what a connection to a board works on: its link, and what each view knows, in the order of the pools
pub record BoardState : Type 0 where
  pub link : LinkState
  pub views : List Known

-- The whole connection, with nothing pending at its begin: there are requests and a rest such that
-- all that was read, asked of the views, and written is theirs, in order.
pub record IsBoardAnswered (old new : BoardState) (ended : Ended) : Type 0 where
  pub xs : List BoardExchange
  pub rest : List ℕ
  pub sent : List ℕ
  pub transfers : Transfers (served xs) [] rest sent old.link new.link
  pub chain : Chain old.views xs new.views
  pub ends : EndsAs 65536 ended (served xs) rest sent old.link new.link
  pub few : length xs ≤ 65536
  pub faults : EndsAtFault ended old.link new.link

-- A view never goes back. Its base and the lists that it was told stay, and what it has seen begins with
-- what it had seen. Where it has seen more, that is a legal log, which begins with each list that it was told.
pub record KeepsView (old new : Known) : Type 0 where
  pub start : new.start ≡ old.start
  pub told : new.told ≡ old.told
  pub seen : IsPrefix old.seen new.seen
  pub shows : (new.seen ≡ old.seen) ⊎ MayShow old new.seen

-- this holds of each view
abbrev pub KeepsViews : List Known → List Known → Type 0
KeepsViews old new = AllZip KeepsView old new

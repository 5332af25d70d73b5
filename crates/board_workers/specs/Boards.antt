-- What a board does.
use Rattle.std.specs.Prelude.{◌≡◌, ℕ, List, [], ◌∷◌, map}
use Rattle.sw_base.specs.Acceptors.{AcceptorState}
use Rattle.sw_base.specs.Link.{LinkState}
use Rattle.swarm_model.specs.Bases.{empty_base}
use Rattle.board_workers.specs.Types.{PoolSettings, Settings, Ended, Worked}
use Rattle.pool_views.specs.Views.{Known}
use Rattle.board_sessions.specs.Boards.{IsBoardAnswered, KeepsViews}
use Rattle.swarm_workers.specs.Visits.{HasServed}

-- what a board has: its acceptor, what its views know, in the order of the pools, and what it did
pub record ServedBoard : Type 0 where
  pub acceptor : AcceptorState
  pub views : List Known
  pub worked : Worked

-- a session over the views of a board, of which none goes back
pub record IsBoardSession (first last : LinkState) (ending : Ended) (old new : List Known) : Type 0 where
  pub answered : IsBoardAnswered (record { link = first; views = old }) (record { link = last; views = new }) ending
  pub keeps : KeepsViews old new

-- a view of a pool to which nothing led, and of which nothing is published yet: it has seen nothing
abbrev pub new_view : PoolSettings → Known
new_view pool = record { start = empty_base pool; seen = []; told = [] ∷ [] }

-- a board served the links of its acceptor, each by a session over its views
abbrev pub HasServedBoard : ℕ → ServedBoard → ServedBoard → Type 0
HasServedBoard connections old new = HasServed IsBoardSession old.acceptor new.acceptor old.views new.views connections new.worked

-- it did that over new views of the pools
pub record IsBoardRun (settings : Settings) (connections : ℕ) (old new : ServedBoard) : Type 0 where
  pub views : old.views ≡ map new_view settings.pools
  pub serves : HasServedBoard connections old new

-- Workers and boards, once they are done and before the logs are closed.
use Rattle.std.specs.Prelude.{◌≡◌, ◌<◌, ℕ, List, ◌++◌, map}
use Rattle.std.specs.List.{AllZip}
use Rattle.sw_base.specs.Listeners.{ListenerState}
use Rattle.pool_doors.specs.Doors.{DoorState}
use Rattle.shared_doors.specs.Joined.{Joins}
use Rattle.board_workers.specs.Types.{PoolView, WorkStop}
use Rattle.shared_doors.specs.Views.{view_at}
use Rattle.swarm_workers.specs.Crews.{WorkerState, HasWorked, IsFirst, IsJoined, ShutsAll, stop_of}
use Rattle.board_workers.specs.Boards.{ServedBoard, HasServedBoard}
use Rattle.board_workers.specs.Posts.{EachReads}

-- the passes of the doors are joined, and then with one more
pub record AreJoined (place : ℕ) (doors : List DoorState) (posts all : PoolView) : Type 0 where
  pub crew : PoolView
  pub joined : IsJoined place doors crew
  pub first : IsFirst place doors crew
  pub joins : Joins crew posts all

-- this holds at each place of so many
abbrev pub JoinsAll : ℕ → List DoorState → List PoolView → List PoolView → Type 0
JoinsAll n doors posts all = (p : ℕ) → p < n → AreJoined p doors (view_at posts p) (view_at all p)

-- Workers and boards served their links beside each other, while passes read for the posts. Then all passes were joined, the workers'
-- acceptors shut, and the boards'.
pub record ServeBeside (connections board_connections pools : ℕ) (olds : List WorkerState) (old_boards : List ServedBoard) (posts : List PoolView) (before after : ListenerState) (all : List PoolView) (stopped : WorkStop) : Type 0 where
  pub news : List WorkerState
  pub new_boards : List ServedBoard
  pub new_posts : List PoolView
  pub works : AllZip (HasWorked connections) olds news
  pub board_works : AllZip (HasServedBoard board_connections) old_boards new_boards
  pub reads : EachReads pools posts new_posts
  pub joined : JoinsAll pools (map (λ w. w.door) news) new_posts all
  pub shuts : ShutsAll (map (λ w. w.acceptor) news ++ map (λ b. b.acceptor) new_boards) before after
  pub stop_is : stopped ≡ stop_of (map (λ w. w.worked.stop) news ++ map (λ b. b.worked.stop) new_boards)

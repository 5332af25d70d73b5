-- Workers and boards that serve the pools of one server beside each other.
use Rattle.std.specs.Prelude.{◌≡◌, ◌<◌, ℕ, List, ◌++◌, map, Option}
use Rattle.std.specs.List.{All, AllZip}
use Rattle.sw_base.specs.Acceptors.{AcceptorState}
use Rattle.sw_base.specs.Listeners.{ListenerState, Gives, FailsToListen}
use Rattle.sw_base.specs.declared.start_fault.StartFault.{StartFault}
use Rattle.board_workers.specs.Types.{Settings, WorkStop}
use Rattle.pool_doors.specs.Doors.{Logs}
use Rattle.swarm_workers.specs.Crews.{WorkerState, ShutsAll, stop_of}
use Rattle.swarm_workers.specs.Shared.{AreLegal, AreRuns}
use Rattle.board_workers.specs.Boards.{ServedBoard, IsBoardRun}

-- those that serve the links which come at one address: how many they are, and how many links each serves at most
pub record Crew : Type 0 where
  pub address : List ℕ
  pub number : ℕ
  pub connections : ℕ

-- Acceptors were given at the workers' address, and then at the boards', one for each. Between that and the end each worker and each
-- board served the links of its own, beside the others. The workers' acceptors were shut in their order, and then the boards'. Each pool has
-- one log, which is legal, and to which nobody but the workers wrote.
pub record ServesWithBoards (workers boards : Crew) (settings : Settings) (clock : ℕ → Option (List ℕ)) (before after : ListenerState) (logs : Logs) (stopped : WorkStop) : Type 0 where
  pub identity : ℕ → List ℕ
  pub between : ListenerState
  pub listening : ListenerState
  pub olds : List WorkerState
  pub news : List WorkerState
  pub old_boards : List ServedBoard
  pub new_boards : List ServedBoard
  pub gives : Gives (λ (given : AcceptorState). given) (map (λ w. w.acceptor) olds) workers.address before between workers.number
  pub gives_boards : Gives (λ (given : AcceptorState). given) (map (λ b. b.acceptor) old_boards) boards.address between listening boards.number
  pub runs : AreRuns settings identity clock workers.connections logs 0 olds news
  pub board_runs : AllZip (IsBoardRun settings boards.connections) old_boards new_boards
  pub shuts : ShutsAll (map (λ w. w.acceptor) news ++ map (λ b. b.acceptor) new_boards) listening after
  pub legal : AreLegal settings logs
  pub no_others : (p : ℕ) → All (λ entry. entry.pass < workers.number) (logs p)
  pub stop_is : stopped ≡ stop_of (map (λ w. w.worked.stop) news ++ map (λ b. b.worked.stop) new_boards)

-- acceptors were given at the workers' address, it could not be listened at the boards', and those were shut again
pub record ShutsAgain (workers : Crew) (fault : StartFault) (before after : ListenerState) : Type 0 where
  pub acceptors : List AcceptorState
  pub between : ListenerState
  pub refused : ListenerState
  pub gives : Gives (λ (given : AcceptorState). given) acceptors workers.address before between workers.number
  pub fails : FailsToListen fault between refused
  pub shuts : ShutsAll acceptors refused after

-- nothing was served: for want of memory, or since one of the addresses could not be listened at
pub data FailsToServe (workers : Crew) (fault : StartFault) (before after : ListenerState) : Type 0 where
  fails_first : FailsToListen fault before after → FailsToServe workers fault before after
  fails_at_boards : ShutsAgain workers fault before after → FailsToServe workers fault before after

-- Workers that serve the pools of one server beside each other.
use Rattle.std.specs.Prelude.{◌≡◌, ◌<◌, ℕ, ◌+◌, List, [], ◌∷◌, ◌++◌, length, map, filter, slice_get, Option, Some, ⊤}
use Rattle.std.specs.List.{All, flat_map}
use Rattle.sw_base.specs.Acceptors.{AcceptorState}
use Rattle.sw_base.specs.Listeners.{ListenerState, Gives}
use Rattle.swarm_workers.specs.Types.{Entry, PoolSettings, Settings}
use Rattle.swarm_model.specs.Effects.{opening}
use Rattle.swarm_model.specs.History.{IsLegal}
use Rattle.pool_doors.specs.Doors.{DoorState, Logs}
use Rattle.swarm_http.specs.Exchange.{Exchange, entries_of, has_pass}
use Rattle.swarm_workers.specs.declared.worked.WorkStop.{WorkStop}
use Rattle.swarm_workers.specs.Works.{IsWorked, ServedLink, Sessions}
use Rattle.swarm_workers.specs.Crews.{WorkerState, IsNewDoor, ShutsAll, stop_of}

-- the requests of these sessions with their outcomes, in their order
abbrev pub exchanges : (a b : ℕ → Option (List ℕ)) (old new : DoorState) (visits : List ServedLink) → Sessions a b old new visits → List Exchange
exchanges a b old new [] so = []
exchanges a b old new (v ∷ visits) so = so.0.xs ++ exchanges v.ahead b v.door new visits so.2

-- A worker served the links of its acceptor over a new door of this number to these logs, with a clock that was to hand in these
-- moments. What its door has seen by then begins each log as it is in the end; and in that log just the entries of its requests
-- have its number, each once and in their order.
pub record IsRun (settings : Settings) (identity : ℕ → List ℕ) (clock : ℕ → Option (List ℕ)) (connections : ℕ) (logs : Logs) (number : ℕ) (old new : WorkerState) : Type 0 where
  pub door : IsNewDoor settings identity number old.door
  pub clock_is : old.clock ≡ clock
  pub works : IsWorked old.acceptor new.acceptor old.clock new.clock old.door new.door connections new.worked
  pub begins : (p : ℕ) → p < length settings.pools → (rest : List Entry) × (logs p ≡ new.door.seen p ++ rest)
  pub once : (p : ℕ) → p < length settings.pools → filter (has_pass number) (logs p) ≡ flat_map (entries_of p) (exchanges old.clock new.clock old.door new.door works.visits works.sessions)

-- workers of the numbers from k on did that
abbrev pub AreRuns : Settings → (ℕ → List ℕ) → (ℕ → Option (List ℕ)) → ℕ → Logs → ℕ → List WorkerState → List WorkerState → Type 0
AreRuns settings identity clock connections logs k [] [] = ⊤
AreRuns settings identity clock connections logs k (old ∷ olds) (new ∷ news) =
    IsRun settings identity clock connections logs k old new × AreRuns settings identity clock connections logs (k + 1) olds news
AreRuns settings identity clock connections logs k olds news = ⊥

-- each pool's log is a legal one
abbrev pub AreLegal : Settings → Logs → Type 0
AreLegal settings logs = (p : ℕ) (pool : PoolSettings) → slice_get settings.pools p ≡ Some pool → IsLegal (opening pool) (logs p)

-- Acceptors were given at the address, one for each worker, and shut in the workers' order. Between that each worker served the links
-- of its own, beside the others. Each pool has one log, which is legal, and to which nobody else wrote.
pub record ServesShared (address : List ℕ) (workers connections : ℕ) (settings : Settings) (clock : ℕ → Option (List ℕ)) (before after : ListenerState) (logs : Logs) (stopped : WorkStop) : Type 0 where
  pub identity : ℕ → List ℕ
  pub listening : ListenerState
  pub olds : List WorkerState
  pub news : List WorkerState
  pub gives : Gives (λ (given : AcceptorState). given) (map (λ w. w.acceptor) olds) address before listening workers
  pub runs : AreRuns settings identity clock connections logs 0 olds news
  pub shuts : ShutsAll (map (λ w. w.acceptor) news) listening after
  pub legal : AreLegal settings logs
  pub no_others : (p : ℕ) → All (λ entry. entry.pass < workers) (logs p)
  pub stop_is : stopped ≡ stop_of (map (λ w. w.worked.stop) news)

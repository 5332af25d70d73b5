-- Workers, before and after they worked.
use Rattle.std.specs.Prelude.{◌≡◌, ℕ, ◌+◌, ◌*◌, ◌<◌, false, List, [], ◌∷◌, ◌++◌, length, Option, IfSome, slice_get, ⊤}
use Rattle.std.specs.List.{All, flat_map}
use Rattle.sw_base.specs.Acceptors.{AcceptorState}
use Rattle.sw_base.specs.Listeners.{ListenerState, Shuts}
use Rattle.swarm_workers.specs.Types.{Entry, Settings, PoolView}
use Rattle.swarm_model.specs.Bases.{empty_base}
use Rattle.pool_doors.specs.Doors.{DoorState}
use Rattle.swarm_http.specs.Answered.{KeepsDoor}
use Rattle.turnstile.specs.Numbers.{times, own}
use Rattle.shared_doors.specs.Joined.{by}
use Rattle.swarm_workers.specs.declared.worked.Worked.{Worked}
use Rattle.swarm_workers.specs.declared.worked.WorkStop.{WorkStop}
use Rattle.swarm_workers.specs.declared.worked.WorkStop.TheVariants as stop
use Rattle.swarm_workers.specs.Works.{IsWorked}

-- what a worker has: its acceptor, the moments that its clock is about to hand in, its door, and what it did
pub record WorkerState : Type 0 where
  pub acceptor : AcceptorState
  pub clock : ℕ → Option (List ℕ)
  pub door : DoorState
  pub worked : Worked

-- A door of these settings to these logs, to which nothing led and others write as well: it has seen nothing, was not called, and has a
-- pass of this number at each place.
pub record IsNewDoor (settings : Settings) (logs : ℕ → List ℕ) (number : ℕ) (door : DoorState) : Type 0 where
  pub settings_are : door.settings ≡ settings
  pub logs_are : door.writer.logs ≡ logs
  pub starts : (p : ℕ) → IfSome (slice_get settings.pools p) (λ pool. door.writer.starts p ≡ empty_base pool)
  pub seen : (p : ℕ) → door.seen p ≡ []
  pub alone : door.writer.alone ≡ false
  pub calls : door.calls ≡ 0
  pub numbers : (p : ℕ) → p < length settings.pools → door.writer.numbers p ≡ number
  pub joined : (p : ℕ) → p < length settings.pools → door.writer.joined p ≡ number ∷ []

-- a door of these settings to these logs
pub record IsDoorTo (settings : Settings) (logs : ℕ → List ℕ) (door : DoorState) : Type 0 where
  pub settings_are : door.settings ≡ settings
  pub logs_are : door.writer.logs ≡ logs

-- new doors, of the numbers from k on
abbrev pub AreNewDoors : Settings → (ℕ → List ℕ) → ℕ → List DoorState → Type 0
AreNewDoors settings logs k [] = ⊤
AreNewDoors settings logs k (door ∷ doors) = IsNewDoor settings logs k door × AreNewDoors settings logs (k + 1) doors

-- so many passes of each log were made, as the first of the doors knows
abbrev pub KnowsMade : Settings → ℕ → List DoorState → Type 0
KnowsMade settings made [] = ⊤
KnowsMade settings made (door ∷ doors) = (p : ℕ) → p < length settings.pools → door.writer.made p ≡ made

-- a worker served links over its door
pub record HasWorked (connections : ℕ) (old new : WorkerState) : Type 0 where
  pub works : IsWorked old.acceptor new.acceptor old.clock new.clock old.door new.door connections new.worked
  pub keeps : KeepsDoor (65536 * connections) old.door new.door

-- What was known of the log at a place by these doors is known by one pass: it has seen all that each had seen, and of the numbers of
-- each just what that one had seen of them.
pub record IsJoined (place : ℕ) (doors : List DoorState) (v : PoolView) : Type 0 where
  pub numbers : v.numbers ≡ flat_map (λ door. door.writer.joined place) doors
  pub begins : All (λ door. (rest : List Entry) × (v.seen ≡ door.seen place ++ rest)) doors
  pub own : All (λ door. (k : ℕ) → 0 < times k (door.writer.joined place) → own by k v.seen ≡ own by k (door.seen place)) doors

-- where the first of the doors has the number 0, the pass has it too, and knows how many were made
abbrev pub IsFirst : ℕ → List DoorState → PoolView → Type 0
IsFirst place [] v = ⊤
IsFirst place (door ∷ doors) v = door.writer.numbers place ≡ 0 → (v.number ≡ 0) × (v.made ≡ door.writer.made place)

-- these acceptors were shut, one after another
abbrev pub ShutsAll : List AcceptorState → ListenerState → ListenerState → Type 0
ShutsAll [] before after = after ≡ before
ShutsAll (acceptor ∷ acceptors) before after = (between : ListenerState) × Shuts acceptor before between × ShutsAll acceptors between after

-- of two stops the one that decides: that an accept failed before want of memory, and both before the others
abbrev pub graver : WorkStop → WorkStop → WorkStop
graver stop.Failed other = stop.Failed
graver stop.Memory stop.Failed = stop.Failed
graver stop.Memory other = stop.Memory
graver stop.Done other = other
graver stop.NoMore other = other

-- the one that decides, of a stop and these
abbrev pub gravest : WorkStop → List WorkStop → WorkStop
gravest first [] = first
gravest first (next ∷ stops) = gravest (graver first next) stops

-- the one that decides, of all
abbrev pub stop_of : List WorkStop → WorkStop
stop_of stops = gravest stop.Done stops

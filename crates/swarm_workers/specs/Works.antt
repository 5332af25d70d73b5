-- What a worker does.
use Rattle.std.specs.Prelude.{◌≡◌, ℕ, ◌+◌, ◌*◌, ◌^◌, ◌<◌, ◌≤◌, List, [], ◌∷◌, length, map, Option}
use Rattle.std.specs.List.{AllByRecursion}
use Rattle.sw_base.specs.Link.{LinkState}
use Rattle.sw_base.specs.Told.{Loses, Gains}
use Rattle.sw_base.specs.Acceptors.{AcceptorState, IsFresh}
use Rattle.swarm_workers.specs.Types.{Settings, Ended}
use Rattle.pool_doors.specs.Doors.{DoorState}
use Rattle.swarm_http.specs.declared.ended.Ended.TheVariants as ended
use Rattle.swarm_http.specs.Answered.{IsAnswered, KeepsDoor}
use Rattle.swarm_workers.specs.declared.worked.Worked.{Worked}
use Rattle.swarm_workers.specs.Visits.{StopsServing}

-- a session: its link as it came and as it ended, its ending, and what the clock had ahead and the
-- door was as it ended
pub record ServedLink : Type 0 where
  pub first : LinkState
  pub last : LinkState
  pub ending : Ended
  pub ahead : ℕ → Option (List ℕ)
  pub door : DoorState

-- one session after another, over the one door, of which each keeps what it keeps, and the one clock
abbrev pub Sessions : (ℕ → Option (List ℕ)) → (ℕ → Option (List ℕ)) → DoorState → DoorState → List ServedLink → Type 0
Sessions a b old new [] = (b ≡ a) × (new ≡ old)
Sessions a b old new (v ∷ vs) =
    IsAnswered (record { link = v.first; clock = a; door = old }) (record { link = v.last; clock = v.ahead; door = v.door }) v.ending × KeepsDoor 65536 old v.door × Sessions v.ahead b v.door new vs

-- the link came fresh, and its session ended by a fault only where the link tells one of that kind
pub record HasFaultsCounted (v : ServedLink) : Type 0 where
  pub fresh : IsFresh v.first
  pub reads : v.ending ≡ ended.ReadFault → 0 < v.last.read_faults
  pub writes : v.ending ≡ ended.WriteFault → 0 < v.last.write_faults

-- The links that came were served in the order in which they came, each by a session over the one
-- door, and each is told as it ended.
pub record IsWorked (s t : AcceptorState) (a b : ℕ → Option (List ℕ)) (old new : DoorState) (n : ℕ) (worked : Worked) : Type 0 where
  pub visits : List ServedLink
  pub number : length visits ≡ worked.sessions
  pub coming : Loses s.coming t.coming (map (λ v. v.first) visits)
  pub served : Gains s.served t.served (map (λ v. v.last) visits)
  pub out : t.out ≡ s.out
  pub counted : AllByRecursion HasFaultsCounted visits
  pub sessions : Sessions a b old new visits
  pub stops : StopsServing worked.stop n worked.sessions s t

-- a session over a door, at the moments of a clock
pub record IsDoorSession (first last : LinkState) (ending : Ended) (a b : ℕ → Option (List ℕ)) (old new : DoorState) : Type 0 where
  pub answered : IsAnswered (record { link = first; clock = a; door = old }) (record { link = last; clock = b; door = new }) ending
  pub keeps : KeepsDoor 65536 old new

-- the door has these settings, and so many sessions more may be held over it
abbrev pub MayServe : Settings → ℕ → DoorState → Type 0
MayServe settings n door = (door.settings ≡ settings) × (door.calls + 65536 * n ≤ 2 ^ 40)

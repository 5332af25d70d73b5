-- Sessions over the links of an acceptor, whatever holds them.
use Rattle.std.specs.Prelude.{◌≡◌, ℕ, ◌<◌, ◌≤◌, List, [], ◌∷◌, length, map}
use Rattle.std.specs.List.{AllByRecursion}
use Rattle.sw_base.specs.Faults.{Rose}
use Rattle.sw_base.specs.Link.{LinkState}
use Rattle.sw_base.specs.Told.{Loses, Gains, IsNoMore}
use Rattle.sw_base.specs.Acceptors.{AcceptorState, IsFresh}
use Rattle.swarm_http.specs.declared.ended.Ended.{Ended}
use Rattle.swarm_http.specs.declared.ended.Ended.TheVariants as ended
use Rattle.swarm_workers.specs.declared.worked.Worked.{Worked}
use Rattle.swarm_workers.specs.declared.worked.WorkStop.{WorkStop}
use Rattle.swarm_workers.specs.declared.worked.WorkStop.TheVariants as stop
use Rattle.swarm_workers.specs.declared.links.NextLink.{NextLink}
use Rattle.swarm_workers.specs.declared.links.NextLink.TheVariants as turn

-- a session ended by a fault only where a call on its link failed
pub record TellsFault (first last : LinkState) (ending : Ended) : Type 0 where
  pub reads : ending ≡ ended.ReadFault → Rose first.read_faults last.read_faults
  pub writes : ending ≡ ended.WriteFault → Rose first.write_faults last.write_faults

-- a session: its link as it came and as it ended, its ending, and what it left of that over which it was held
pub record Visit (S : Type 0) : Type 0 where
  pub first : LinkState
  pub last : LinkState
  pub ending : Ended
  pub after : S

-- the link came fresh, and its session ended by a fault only where the link tells one of that kind
pub record IsFaultCounted (first last : LinkState) (ending : Ended) : Type 0 where
  pub fresh : IsFresh first
  pub reads : ending ≡ ended.ReadFault → 0 < last.read_faults
  pub writes : ending ≡ ended.WriteFault → 0 < last.write_faults

-- why it stopped, where so many of n links were served
abbrev pub StopsServing : WorkStop → ℕ → ℕ → AcceptorState → AcceptorState → Type 0
StopsServing stop.Done n count s t = (count ≡ n) × (t.faults ≡ s.faults)
StopsServing stop.NoMore n count s t = (count < n) × IsNoMore t.coming × (t.faults ≡ s.faults)
StopsServing stop.Failed n count s t = (count < n) × Rose s.faults t.faults
StopsServing stop.Memory n count s t = (count ≡ 0) × (t.faults ≡ s.faults)

module _ {S : Type 0} where
  -- nothing was served
  pub record IsIdle (s t : AcceptorState) (old new : S) : Type 0 where
    pub coming : t.coming ≡ s.coming
    pub served : t.served ≡ s.served
    pub out : t.out ≡ s.out
    pub same : new ≡ old

  module _ (does : LinkState → LinkState → Ended → S → S → Type 0) where
    -- one session after another, each of which does what a session does
    abbrev pub Follow : S → S → List (Visit S) → Type 0
    Follow old new [] = new ≡ old
    Follow old new (v ∷ visits) = does v.first v.last v.ending old v.after × Follow v.after new visits

    -- The links that came were served in the order in which they came, n of them at most, and each is told as it ended.
    pub record HasServed (s t : AcceptorState) (old new : S) (n : ℕ) (worked : Worked) : Type 0 where
      pub visits : List (Visit S)
      pub number : length visits ≡ worked.sessions
      pub few : length visits ≤ n
      pub coming : Loses s.coming t.coming (map (λ v. v.first) visits)
      pub served : Gains s.served t.served (map (λ v. v.last) visits)
      pub out : t.out ≡ s.out
      pub counted : AllByRecursion (λ v. IsFaultCounted v.first v.last v.ending) visits
      pub sessions : Follow old new visits
      pub stops : StopsServing worked.stop n worked.sessions s t

    -- the next link was served
    pub record IsServed (s t : AcceptorState) (old new : S) : Type 0 where
      pub first : LinkState
      pub last : LinkState
      pub ending : Ended
      pub held : does first last ending old new
      pub counted : IsFaultCounted first last ending
      pub coming : Loses s.coming t.coming (first ∷ [])
      pub served : Gains s.served t.served (last ∷ [])
      pub out : t.out ≡ s.out
      pub faults : t.faults ≡ s.faults

    -- what came of asking for the next link
    abbrev pub IsTurn : AcceptorState → AcceptorState → S → S → NextLink → Type 0
    IsTurn s t old new turn.Served = IsServed s t old new
    IsTurn s t old new turn.NoMore = IsIdle s t old new × IsNoMore t.coming × (t.faults ≡ s.faults)
    IsTurn s t old new turn.Failed = IsIdle s t old new × Rose s.faults t.faults

-- Sessions over a door.
use Rattle.std.proofs.Common.{◌≡◌, ℕ, zero, suc, ◌+◌, ◌*◌, ◌^◌, ◌<◌, ◌≤◌, List, [], ◌∷◌, length, map, Option, refl, sym, ap, ◌∙◌, arith, subst}
use Rattle.std.specs.List.{AllByRecursion}
use Rattle.std.proofs.lemmas.List.{length-map}
use Rattle.sw_base.specs.Link.{LinkState}
use Rattle.sw_base.specs.Told.{Loses, Gains}
use Rattle.sw_base.specs.Acceptors.{AcceptorState}
use Rattle.swarm_workers.specs.Types.{Settings, Ended}
use Rattle.pool_doors.specs.Doors.{DoorState}
use Rattle.swarm_http.specs.Answered.{ConnectionState, IsAnswered, KeepsDoor}
use Rattle.swarm_workers.specs.declared.worked.Worked.{Worked}
use Rattle.swarm_workers.specs.Visits.{Visit, TellsFault, IsFaultCounted, Follow, HasServed}
use Rattle.swarm_workers.specs.Works.{ServedLink, Sessions, HasFaultsCounted, IsWorked, IsDoorSession, MayServe}
use Rattle.swarm_workers.proofs.Slices.{map_both}
use Rattle.swarm_workers.proofs.Visiting.{all_mapped}

abbrev Ahead : Type 0
Ahead = ℕ → Option (List ℕ)

-- a session that ended by a fault tells it
pub tells_fault : (v w : ConnectionState) (ending : Ended) → IsAnswered v w ending → TellsFault v.link w.link ending
tells_fault v w ending x = record {
  reads = λ e. (subst (IsAnswered v w) e x).ends.0;
  writes = λ e. (subst (IsAnswered v w) e x).ends.0;
}

-- one session more over the door
pub may_after : (settings : Settings) (n : ℕ) (d e : DoorState) → KeepsDoor 65536 d e → MayServe settings (n + 1) d → MayServe settings n e
may_after settings n d e keeps may = (keeps.settings ∙ may.0, omega (arith, may.1, keeps.calls))

keeps_all : (d : DoorState) → KeepsDoor (65536 * 0) d d
keeps_all d = record { settings = refl; writer = refl; kept = record { lines = λ p has. has; bases = refl }; no_other_blobs = λ p none. none; faults = omega arith; calls = omega arith }

keeps_then : (n : ℕ) {d e f : DoorState} → KeepsDoor 65536 d e → KeepsDoor (65536 * n) e f → KeepsDoor (65536 * suc n) d f
keeps_then n x k = record {
  settings = k.settings ∙ x.settings;
  writer = k.writer ∙ x.writer;
  kept = record { lines = λ p has. k.kept.lines p (x.kept.lines p has); bases = k.kept.bases ∙ x.kept.bases };
  no_other_blobs = λ p none. k.no_other_blobs p (x.no_other_blobs p none);
  faults = omega (arith, x.faults, k.faults);
  calls = omega (arith, x.calls, k.calls);
}

keeps_within : (m n : ℕ) {d e : DoorState} → m ≤ n → KeepsDoor m d e → KeepsDoor n d e
keeps_within m n low k = record {
  settings = k.settings;
  writer = k.writer;
  kept = k.kept;
  no_other_blobs = k.no_other_blobs;
  faults = k.faults;
  calls = omega (arith, k.calls, low);
}

module _ {X : Type 0} (ahead : X → Ahead) (door : X → DoorState) where
  -- what such a session does
  abbrev pub Holds : LinkState → LinkState → Ended → X → X → Type 0
  Holds first last ending x y = IsDoorSession first last ending (ahead x) (ahead y) (door x) (door y)

  abbrev served_link : Visit X → ServedLink
  served_link v = record { first = v.first; last = v.last; ending = v.ending; ahead = ahead v.after; door = door v.after }

  sessions_told : (x y : X) (visits : List (Visit X)) → Follow Holds x y visits → Sessions (ahead x) (ahead y) (door x) (door y) (map served_link visits)
  sessions_told x y [] so = (ap ahead so, ap door so)
  sessions_told x y (v ∷ visits) so = (so.0.answered, so.0.keeps, sessions_told v.after y visits so.1)

  keeps_told : (x y : X) (visits : List (Visit X)) → Follow Holds x y visits → KeepsDoor (65536 * length visits) (door x) (door y)
  keeps_told x y [] so = subst (λ (d : DoorState). KeepsDoor (65536 * 0) (door x) d) (sym (ap door so)) (keeps_all (door x))
  keeps_told x y (v ∷ visits) so = keeps_then (length visits) so.0.keeps (keeps_told v.after y visits so.1)

  counted_told : (visits : List (Visit X)) → AllByRecursion (λ v. IsFaultCounted v.first v.last v.ending) visits → AllByRecursion HasFaultsCounted (map served_link visits)
  counted_told visits all = all_mapped (λ (v : Visit X). IsFaultCounted v.first v.last v.ending) HasFaultsCounted served_link visits (λ v c. record { fresh = c.fresh; reads = c.reads; writes = c.writes }) all

  -- such sessions are the work of a worker
  pub worked_told : (s t : AcceptorState) (x y : X) (n : ℕ) (worked : Worked) → HasServed Holds s t x y n worked → IsWorked s t (ahead x) (ahead y) (door x) (door y) n worked
  worked_told s t x y n worked h = record {
    visits = map served_link h.visits;
    number = length-map h.visits served_link ∙ h.number;
    coming = subst (Loses s.coming t.coming) (sym (map_both (λ (v : ServedLink). v.first) served_link h.visits)) h.coming;
    served = subst (Gains s.served t.served) (sym (map_both (λ (v : ServedLink). v.last) served_link h.visits)) h.served;
    out = h.out;
    counted = counted_told h.visits h.counted;
    sessions = sessions_told x y h.visits h.sessions;
    stops = h.stops;
  }

  -- they keep the door
  pub kept_told : (s t : AcceptorState) (x y : X) (n : ℕ) (worked : Worked) → HasServed Holds s t x y n worked → KeepsDoor (65536 * n) (door x) (door y)
  kept_told s t x y n worked h = keeps_within (65536 * length h.visits) (65536 * n) (omega (arith, h.few)) (keeps_told x y h.visits h.sessions)

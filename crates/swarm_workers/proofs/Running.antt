-- Workers that ran, and the logs as they are in the end.
use Rattle.std.proofs.Common.{◌≡◌, ℕ, suc, ◌+◌, ◌<◌, List, [], ◌∷◌, ◌++◌, length, map, filter, Option, refl, sym, ap, ◌∙◌, arith, subst}
use Rattle.std.specs.List.{All, AllZip, AllByRecursion, flat_map}
use Rattle.std.proofs.lemmas.List.Elements.{All-head, All-tail}
use Rattle.swarm_workers.specs.Types.{Entry, Settings, PoolView}
use Rattle.pool_doors.specs.Doors.{DoorState, Writer, Logs}
use Rattle.swarm_http.specs.Exchange.{entries_of, has_pass}
use Rattle.turnstile.specs.Numbers.{times, own}
use Rattle.shared_doors.specs.Joined.{by, IsAloneView}
use Rattle.swarm_workers.specs.Crews.{WorkerState, HasWorked, IsNewDoor, IsDoorTo, AreNewDoors, KnowsMade, IsJoined, IsFirst}
use Rattle.swarm_workers.specs.Shared.{IsRun, AreRuns, exchanges}
use Rattle.swarm_workers.proofs.Gaining.{sessions_once, gained_all}
use Rattle.swarm_workers.proofs.Numbering.{own_filter, numbers_from, length_from, times_itself}

abbrev pub doors_of : List WorkerState → List DoorState
doors_of workers = map (λ w. w.door) workers

abbrev Begins : Logs → ℕ → DoorState → Type 0
Begins logs p door = (rest : List Entry) × (logs p ≡ door.seen p ++ rest)

abbrev HasOwn : Logs → ℕ → DoorState → Type 0
HasOwn logs p door = (k : ℕ) → 0 < times k (door.writer.joined p) → own by k (logs p) ≡ own by k (door.seen p)

-- What is known of the logs by the doors: each log begins with what each door has seen of it, and of the numbers of each has
-- just what that one had seen of them.
pub record Holds (pools : ℕ) (logs : Logs) (doors : List DoorState) : Type 0 where
  pub begins : (p : ℕ) → p < pools → All (Begins logs p) doors
  pub own : (p : ℕ) → p < pools → All (HasOwn logs p) doors

later_doors : (pools : ℕ) (logs : Logs) (door : DoorState) (doors : List DoorState) → Holds pools logs (door ∷ doors) → Holds pools logs doors
later_doors pools logs door doors h = record {
  begins = λ p lt. All-tail (Begins logs p) door doors (h.begins p lt);
  own = λ p lt. All-tail (HasOwn logs p) door doors (h.own p lt);
}

-- what joined views say of the doors, where each log is what the view at its place has seen
pub holds_joined : (pools : ℕ) (logs : Logs) (views : ℕ → PoolView) (doors : List DoorState)
    → ((p : ℕ) → p < pools → IsJoined p doors (views p)) → ((p : ℕ) → p < pools → logs p ≡ (views p).seen) → Holds pools logs doors
holds_joined pools logs views doors joined same = record {
  begins = λ p lt i d within. let known = (joined p lt).begins i d within in (known.0, same p lt ∙ known.1);
  own = λ p lt i d within k has. ap (own by k) (same p lt) ∙ (joined p lt).own i d within k has;
}

-- one worker ran
run_of : {settings : Settings} {identity : ℕ → List ℕ} {clock : ℕ → Option (List ℕ)} {connections : ℕ} {logs : Logs} {number : ℕ} {old new : WorkerState}
    → IsNewDoor settings identity number old.door → old.clock ≡ clock → HasWorked connections old new
    → ((p : ℕ) → p < length settings.pools → (rest : List Entry) × (logs p ≡ new.door.seen p ++ rest))
    → ((p : ℕ) → p < length settings.pools → (k : ℕ) → 0 < times k (new.door.writer.joined p) → own by k (logs p) ≡ own by k (new.door.seen p))
    → IsRun settings identity clock connections logs number old new
run_of {logs = logs} {number = number} {old = old} {new = new} door clock worked begins own_is = record {
  door = door;
  clock_is = clock;
  works = worked.works;
  begins = begins;
  once = λ p lt.
      let joined : new.door.writer.joined p ≡ number ∷ [] = ap (λ (w : Writer). w.joined p) worked.keeps.writer ∙ door.joined p lt in
      let has : 0 < times number (new.door.writer.joined p) = subst (λ l. 0 < times number l) (sym joined) (times_itself number) in
      let seen = gained_all (door.seen p) (sessions_once old.clock new.clock old.door new.door worked.works.visits worked.works.sessions p) in
      sym (own_filter number (logs p)) ∙ own_is p lt number has ∙ own_filter number (new.door.seen p)
      ∙ subst (λ k. filter (has_pass k) (new.door.seen p) ≡ flat_map (entries_of p) (exchanges old.clock new.clock old.door new.door worked.works.visits worked.works.sessions)) (door.numbers p lt) seen;
}

pub are_runs : (settings : Settings) (identity : ℕ → List ℕ) (clock : ℕ → Option (List ℕ)) (connections : ℕ) (logs : Logs) (k : ℕ) (olds news : List WorkerState)
    → AreNewDoors settings identity k (doors_of olds) → All (λ (w : WorkerState). w.clock ≡ clock) olds → AllZip (HasWorked connections) olds news
    → Holds (length settings.pools) logs (doors_of news) → AreRuns settings identity clock connections logs k olds news
are_runs settings identity clock connections logs k [] [] doors clocks worked holds = tt
are_runs settings identity clock connections logs k [] (new ∷ news) doors clocks worked holds = absurd worked
are_runs settings identity clock connections logs k (old ∷ olds) [] doors clocks worked holds = absurd worked
are_runs settings identity clock connections logs k (old ∷ olds) (new ∷ news) doors clocks worked holds = (
  run_of doors.0 (All-head (λ (w : WorkerState). w.clock ≡ clock) old olds clocks) worked.0
      (λ p lt. All-head (Begins logs p) new.door (doors_of news) (holds.begins p lt))
      (λ p lt. All-head (HasOwn logs p) new.door (doors_of news) (holds.own p lt)),
  are_runs settings identity clock connections logs (k + 1) olds news doors.1 (All-tail (λ (w : WorkerState). w.clock ≡ clock) old olds clocks) worked.1
      (later_doors (length settings.pools) logs new.door (doors_of news) holds),
)

-- doors over which workers worked are still doors to the same logs
pub still_doors : (settings : Settings) (identity : ℕ → List ℕ) (connections k : ℕ) (olds news : List WorkerState)
    → AreNewDoors settings identity k (doors_of olds) → AllZip (HasWorked connections) olds news → AllByRecursion (λ (w : WorkerState). IsDoorTo settings identity w.door) news
still_doors settings identity connections k [] [] doors worked = tt
still_doors settings identity connections k [] (new ∷ news) doors worked = absurd worked
still_doors settings identity connections k (old ∷ olds) [] doors worked = absurd worked
still_doors settings identity connections k (old ∷ olds) (new ∷ news) doors worked = (
  record {
    settings_are = worked.0.keeps.settings ∙ doors.0.settings_are;
    logs_are = ap (λ (w : Writer). w.logs) worked.0.keeps.writer ∙ doors.0.logs_are;
  },
  still_doors settings identity connections (k + 1) olds news doors.1 worked.1,
)

-- their numbers are those from k on
pub joined_numbers : (settings : Settings) (identity : ℕ → List ℕ) (connections k p : ℕ) (olds news : List WorkerState)
    → AreNewDoors settings identity k (doors_of olds) → AllZip (HasWorked connections) olds news → p < length settings.pools
    → flat_map (λ (door : DoorState). door.writer.joined p) (doors_of news) ≡ numbers_from k (length olds)
joined_numbers settings identity connections k p [] [] doors worked lt = refl
joined_numbers settings identity connections k p [] (new ∷ news) doors worked lt = absurd worked
joined_numbers settings identity connections k p (old ∷ olds) [] doors worked lt = absurd worked
joined_numbers settings identity connections k p (old ∷ olds) (new ∷ news) doors worked lt =
    let first : new.door.writer.joined p ≡ k ∷ [] = ap (λ (w : Writer). w.joined p) worked.0.keeps.writer ∙ doors.0.joined p lt in
    let rest = joined_numbers settings identity connections (k + 1) p olds news doors.1 worked.1 lt in
    ap (λ l. l ++ flat_map (λ (door : DoorState). door.writer.joined p) (doors_of news)) first ∙ ap (λ l. k ∷ l) rest

-- What all of them are joined in has the number 0, knows how many were made, and has the numbers of the workers.
pub record IsOfAll (made workers : ℕ) (v : PoolView) : Type 0 where
  pub number_is : v.number ≡ 0
  pub numbers_are : v.numbers ≡ numbers_from 0 workers
  pub made_is : v.made ≡ made

pub is_of_all : (settings : Settings) (identity : ℕ → List ℕ) (connections made p : ℕ) (olds news : List WorkerState) (v : PoolView)
    → AreNewDoors settings identity 0 (doors_of olds) → AllZip (HasWorked connections) olds news → KnowsMade settings made (doors_of olds) → 0 < length olds
    → p < length settings.pools → IsJoined p (doors_of news) v → IsFirst p (doors_of news) v → IsOfAll made (length olds) v
is_of_all settings identity connections made p [] news v doors worked known some lt joined first = absurd (omega (arith, some))
is_of_all settings identity connections made p (old ∷ olds) [] v doors worked known some lt joined first = absurd worked
is_of_all settings identity connections made p (old ∷ olds) (new ∷ news) v doors worked known some lt joined first =
    let zero_is : new.door.writer.numbers p ≡ 0 = ap (λ (w : Writer). w.numbers p) worked.0.keeps.writer ∙ doors.0.numbers p lt in
    let is_made : new.door.writer.made p ≡ made = ap (λ (w : Writer). w.made p) worked.0.keeps.writer ∙ known p lt in
    let told = first zero_is in
    record {
      number_is = told.0;
      numbers_are = joined.numbers ∙ joined_numbers settings identity connections 0 p (old ∷ olds) (new ∷ news) doors worked lt;
      made_is = told.1 ∙ is_made;
    }

-- where no more were made, that is alone
pub is_alone : (settings : Settings) (identity : ℕ → List ℕ) (connections made p : ℕ) (olds news : List WorkerState) (v : PoolView)
    → AreNewDoors settings identity 0 (doors_of olds) → AllZip (HasWorked connections) olds news → KnowsMade settings made (doors_of olds) → length olds ≡ made → 0 < made
    → p < length settings.pools → IsJoined p (doors_of news) v → IsFirst p (doors_of news) v → IsAloneView v
is_alone settings identity connections made p olds news v doors worked known count some lt joined first =
    let all = is_of_all settings identity connections made p olds news v doors worked known (omega (arith, count, some)) lt joined first in
    (all.number_is, ap length all.numbers_are ∙ length_from 0 (length olds) ∙ count ∙ sym all.made_is)

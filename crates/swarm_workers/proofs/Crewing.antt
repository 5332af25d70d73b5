-- The workers of a server, as a list of any kind of worker whose state can be told.
use Rattle.std.proofs.Common.{◌≡◌, ℕ, zero, suc, ◌+◌, ◌<◌, ◌≤◌, List, [], ◌∷◌, ◌++◌, length, map, take, drop, Option, Some, None, refl, sym, ap, ◌∙◌, arith, subst}
use Rattle.std.specs.Prelude.{IfSome}
use Rattle.std.specs.List.{All, AllZip, slice_get}
use Rattle.std.proofs.lemmas.List.{length-map}
use Rattle.std.proofs.lemmas.List.Elements.{All-nil, All-cons, All-head, All-tail, All-same, All-map}
use Rattle.sw_base.specs.Acceptors.{AcceptorState}
use Rattle.sw_base.specs.Listeners.{ListenerState, Gives}
use Rattle.sw_base.specs.Told.{Adds}
use Rattle.swarm_workers.specs.Types.{PoolSettings, Settings, PoolView}
use Rattle.pool_doors.specs.Doors.{DoorState, Logs}
use Rattle.shared_doors.specs.Joined.{IsAloneView}
use Rattle.swarm_workers.specs.declared.worked.WorkStop.{WorkStop}
use Rattle.swarm_workers.specs.Crews.{WorkerState, HasWorked, IsDoorTo, AreNewDoors, KnowsMade, IsJoined, IsFirst, ShutsAll, stop_of}
use Rattle.swarm_workers.specs.Shared.{ServesShared}
use Rattle.swarm_workers.proofs.Running.{doors_of, still_doors, is_alone}
use Rattle.swarm_workers.proofs.Closing.{IsKept}
use Rattle.swarm_workers.proofs.Slices.{map_both}
use Rattle.swarm_workers.proofs.Serving.{gives_told, served}
use Rattle.std.proofs.lemmas.List.Elements.{All-from_recursion}

-- settings of this store and these pools
pub same_settings : (store : Option (List ℕ)) (pools : List PoolSettings) (s : Settings) → store ≡ s.store → pools ≡ s.pools → record { store = store; pools = pools } ≡ s
same_settings store pools s one two =
    ap (λ (o : Option (List ℕ)). record { store = o; pools = pools }) one ∙ ap (λ (l : List PoolSettings). record { store = s.store; pools = l }) two

-- new doors have the settings, and were not called
pub new_settings : {W : Type 0} (door : W → DoorState) (settings s : Settings) (identity : ℕ → List ℕ) (k : ℕ) (ws xs : List W)
    → xs ≡ ws → AreNewDoors settings identity k (map door ws) → settings ≡ s → All (λ (w : W). (door w).settings ≡ s) xs
new_settings {W = W} door settings s identity k ws xs same doors is = All-same (λ w. (door w).settings ≡ s) xs ws same (go k ws doors)
  where
    go : (k : ℕ) (ws : List W) → AreNewDoors settings identity k (map door ws) → All (λ (w : W). (door w).settings ≡ s) ws
    go k [] doors = All-nil (λ (w : W). (door w).settings ≡ s)
    go k (w ∷ ws) doors = All-cons (λ (w : W). (door w).settings ≡ s) w ws (doors.0.settings_are ∙ is) (go (k + 1) ws doors.1)

pub new_calls : {W : Type 0} (door : W → DoorState) (settings : Settings) (identity : ℕ → List ℕ) (k : ℕ) (ws xs : List W)
    → xs ≡ ws → AreNewDoors settings identity k (map door ws) → All (λ (w : W). (door w).calls ≡ 0) xs
new_calls {W = W} door settings identity k ws xs same doors = All-same (λ w. (door w).calls ≡ 0) xs ws same (go k ws doors)
  where
    go : (k : ℕ) (ws : List W) → AreNewDoors settings identity k (map door ws) → All (λ (w : W). (door w).calls ≡ 0) ws
    go k [] doors = All-nil (λ (w : W). (door w).calls ≡ 0)
    go k (w ∷ ws) doors = All-cons (λ (w : W). (door w).calls ≡ 0) w ws doors.0.calls (go (k + 1) ws doors.1)

-- there are as many workers as acceptors
pub as_many : {W A : Type 0} (f : W → AcceptorState) (look : A → AcceptorState) (ws : List W) (given : List A) (n : ℕ)
    → map f ws ≡ map look given → length given ≡ n → length ws ≡ n
as_many f look ws given n same count = sym (length-map ws f) ∙ ap length same ∙ length-map given look ∙ count

pub some_of : {W : Type 0} (ws xs : List W) (n : ℕ) → xs ≡ ws → length ws ≡ n → 1 ≤ n → 0 < length xs
some_of ws xs n same count some = omega (arith, ap length same, count, some)

-- enough acceptors are out
pub out_enough : (before after : Option ℕ) (n m : ℕ) → Adds before after n → m ≤ n → IfSome after (λ k. m ≤ k)
out_enough None after n m adds low = subst (λ o. IfSome o (λ k. m ≤ k)) (sym adds) tt
out_enough (Some b) after n m adds low = subst (λ o. IfSome o (λ k. m ≤ k)) (sym adds) (omega (arith, low))

pub below_map : {A B : Type 0} (f : A → B) (xs : List A) (p : ℕ) → p < length xs → p < length (map f xs)
below_map f xs p lt = omega (arith, lt, length-map xs f)

pub above_map : {A B : Type 0} (f : A → B) (xs : List A) (p : ℕ) → p < length (map f xs) → p < length xs
above_map f xs p lt = omega (arith, lt, length-map xs f)

module _ {W : Type 0} (look : W → WorkerState) where
  doors_told : (ws : List W) → map (λ (w : W). (look w).door) ws ≡ doors_of (map look ws)
  doors_told ws = sym (map_both (λ (w : WorkerState). w.door) look ws)

  pub doors_after : (settings : Settings) (identity : ℕ → List ℕ) (connections : ℕ) (ws xs ys zs : List W) → xs ≡ ws → zs ≡ ys
      → AreNewDoors settings identity 0 (map (λ (w : W). (look w).door) ws) → AllZip (HasWorked connections) (map look xs) (map look ys)
      → All (λ (w : W). IsDoorTo settings identity (look w).door) zs
  doors_after settings identity connections ws xs ys zs same is doors worked =
      All-same (λ (w : W). IsDoorTo settings identity (look w).door) zs ys is
      (back ys (All-from_recursion (λ (w : WorkerState). IsDoorTo settings identity w.door) (map look ys)
      (still_doors settings identity connections 0 (map look xs) (map look ys)
      (subst (AreNewDoors settings identity 0) (ap (map (λ (w : W). (look w).door)) (sym same) ∙ doors_told xs) doors) worked)))
    where
      back : (ys : List W) → All (λ (w : WorkerState). IsDoorTo settings identity w.door) (map look ys) → All (λ (w : W). IsDoorTo settings identity (look w).door) ys
      back [] all = All-nil (λ (w : W). IsDoorTo settings identity (look w).door)
      back (y ∷ ys) all = All-cons (λ (w : W). IsDoorTo settings identity (look w).door) y ys
          (All-head (λ (w : WorkerState). IsDoorTo settings identity w.door) (look y) (map look ys) all)
          (back ys (All-tail (λ (w : WorkerState). IsDoorTo settings identity w.door) (look y) (map look ys) all))

  -- the view of all is alone
  pub alone_after : (settings : Settings) (identity : ℕ → List ℕ) (connections made p : ℕ) (ws xs ys zs : List W) (v : PoolView) → xs ≡ ws → zs ≡ ys → length ws ≡ made → 1 ≤ made
      → AreNewDoors settings identity 0 (map (λ (w : W). (look w).door) ws) → KnowsMade settings made (map (λ (w : W). (look w).door) ws)
      → AllZip (HasWorked connections) (map look xs) (map look ys) → p < length settings.pools
      → IsJoined p (map (λ (w : W). (look w).door) zs) v → IsFirst p (map (λ (w : W). (look w).door) zs) v → IsAloneView v
  alone_after settings identity connections made p ws xs ys zs v same is count some doors known worked lt joined first =
      let old_told = ap (map (λ (w : W). (look w).door)) (sym same) ∙ doors_told xs in
      let new_told = ap (map (λ (w : W). (look w).door)) is ∙ doors_told ys in
      is_alone settings identity connections made p (map look xs) (map look ys) v
      (subst (AreNewDoors settings identity 0) old_told doors) worked (subst (KnowsMade settings made) old_told known)
      (length-map xs look ∙ ap length same ∙ count) (omega (arith, some)) lt
      (subst (λ ds. IsJoined p ds v) new_told joined) (subst (λ ds. IsFirst p ds v) new_told first)

  -- all was served
  pub served_all : {A : Type 0} (given_look : A → AcceptorState) (given : List A) (settings s : Settings) (identity : ℕ → List ℕ) (clock : ℕ → Option (List ℕ)) (address : List ℕ) (workers connections : ℕ)
      (before listening after : ListenerState) (ws xs ys zs : List W) (logs : Logs) (stopped : WorkStop) (views : ℕ → PoolView) → settings ≡ s → xs ≡ ws → zs ≡ ys
      → Gives given_look given address before listening workers → map (λ (w : W). (look w).acceptor) ws ≡ map given_look given
      → AreNewDoors settings identity 0 (map (λ (w : W). (look w).door) ws) → All (λ (w : W). (look w).clock ≡ clock) ws
      → AllZip (HasWorked connections) (map look xs) (map look ys)
      → ((p : ℕ) → p < length settings.pools → IsJoined p (map (λ (w : W). (look w).door) zs) (views p))
      → ((p : ℕ) (pool : PoolSettings) → slice_get settings.pools p ≡ Some pool → IsKept pool (views p) (logs p))
      → ((p : ℕ) → length settings.pools ≤ p → logs p ≡ [])
      → ShutsAll (map (λ (w : W). (look w).acceptor) zs) listening after
      → stopped ≡ stop_of (map (λ (w : W). (look w).worked.stop) zs)
      → ServesShared address workers connections s clock before after logs stopped
  served_all given_look given settings s identity clock address workers connections before listening after ws xs ys zs logs stopped views agrees same is gives acceptors doors clocks worked joined kept past shuts stop =
      let old_told = ap (map (λ (w : W). (look w).door)) (sym same) ∙ doors_told xs in
      let new_told = ap (map (λ (w : W). (look w).door)) is ∙ doors_told ys in
      let told : map (λ (w : WorkerState). w.acceptor) (map look xs) ≡ map given_look given =
      map_both (λ (w : WorkerState). w.acceptor) look xs ∙ ap (map (λ (w : W). (look w).acceptor)) same ∙ acceptors in
      subst (λ s. ServesShared address workers connections s clock before after logs stopped) agrees (served settings identity clock address workers connections before listening after (map look xs) (map look ys) logs stopped views
      (gives_told given_look given (map (λ (w : WorkerState). w.acceptor) (map look xs)) address before listening workers told gives)
      (subst (AreNewDoors settings identity 0) old_told doors)
      (All-map (λ (w : WorkerState). w.clock ≡ clock) look xs (All-same (λ (w : W). (look w).clock ≡ clock) xs ws same clocks))
      worked
      (λ p lt. subst (λ ds. IsJoined p ds (views p)) new_told (joined p lt))
      kept past
      (subst (λ l. ShutsAll l listening after) (ap (map (λ (w : W). (look w).acceptor)) is ∙ sym (map_both (λ (w : WorkerState). w.acceptor) look ys)) shuts)
      (stop ∙ ap stop_of (ap (map (λ (w : W). (look w).worked.stop)) is ∙ sym (map_both (λ (w : WorkerState). w.worked.stop) look ys))))

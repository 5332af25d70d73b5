-- Workers over the pools of one server, from the listener's acceptors to the closed logs.
use Rattle.std.proofs.Common.{◌≡◌, ◌⊎◌, inl, inr, ℕ, zero, suc, ◌<◌, ◌≤◌, List, [], ◌∷◌, length, map, Option, Some, refl, sym, ap, ◌∙◌, arith, subst}
use Rattle.std.proofs.lemmas.List.{length-map}
use Rattle.std.specs.List.{All, AllZip, AllByRecursion, slice_get}
use Rattle.std.proofs.lemmas.Bool.{cases_lt}
use Rattle.std.proofs.lemmas.List.Elements.{All-nil, All-same, All-map, All-weaker, All-from_recursion}
use Rattle.sw_base.specs.Acceptors.{AcceptorState}
use Rattle.sw_base.specs.Listeners.{ListenerState, Gives, IsGiven, IsShare}
use Rattle.swarm_workers.specs.Types.{Entry, PoolSettings, Settings, PoolView}
use Rattle.pool_doors.specs.Doors.{Logs}
use Rattle.turnstile.specs.Numbers.{times}
use Rattle.swarm_workers.specs.declared.worked.WorkStop.{WorkStop}
use Rattle.swarm_workers.specs.Crews.{WorkerState, HasWorked, AreNewDoors, IsJoined, ShutsAll, stop_of}
use Rattle.swarm_workers.specs.Shared.{ServesShared}
use Rattle.swarm_workers.proofs.Numbering.{numbers_from, times_from}
use Rattle.swarm_workers.proofs.Running.{doors_of, holds_joined, are_runs, joined_numbers}
use Rattle.swarm_workers.proofs.Closing.{IsKept}

map_same : {A : Type 0} (xs : List A) → map (λ (x : A). x) xs ≡ xs
map_same [] = refl
map_same (x ∷ xs) = ap (λ l. x ∷ l) (map_same xs)

-- what was given, by what it tells
pub gives_told : {T : Type 0} (look : T → AcceptorState) (given : List T) (told : List AcceptorState) (address : List ℕ) (before after : ListenerState) (n : ℕ)
    → told ≡ map look given → Gives look given address before after n → Gives (λ (g : AcceptorState). g) told address before after n
gives_told look given told address before after n same g = record {
  number = ap length same ∙ length-map given look ∙ g.number;
  fresh = All-same IsGiven told (map look given) same (All-map IsGiven look given g.fresh);
  shared = subst (λ l. IsShare before.waiting n l after.waiting) (sym (map_same told ∙ same)) g.shared;
  listened = g.listened;
  out = g.out;
  faults = g.faults;
  ended = g.ended;
}

pub pool_at : (pools : List PoolSettings) (p : ℕ) → p < length pools → (pool : PoolSettings) × (slice_get pools p ≡ Some pool)
pool_at [] p lt = absurd (omega (arith, lt))
pool_at (pool ∷ pools) zero lt = (pool, refl)
pool_at (pool ∷ pools) (suc p) lt = pool_at pools p (omega (arith, lt))

-- nobody else wrote to the log at a place
no_others_at : (settings : Settings) (identity : ℕ → List ℕ) (connections : ℕ) (olds news : List WorkerState) (logs : Logs) (views : ℕ → PoolView) (p : ℕ)
    → AreNewDoors settings identity 0 (doors_of olds) → AllZip (HasWorked connections) olds news
    → ((q : ℕ) → q < length settings.pools → IsJoined q (doors_of news) (views q))
    → ((q : ℕ) (pool : PoolSettings) → slice_get settings.pools q ≡ Some pool → IsKept pool (views q) (logs q))
    → ((q : ℕ) → length settings.pools ≤ q → logs q ≡ [])
    → All (λ (e : Entry). e.pass < length olds) (logs p)
no_others_at settings identity connections olds news logs views p doors worked joined kept past = pick (cases_lt p (length settings.pools))
  where
    inside : p < length settings.pools → All (λ (e : Entry). e.pass < length olds) (logs p)
    inside lt =
        let at = pool_at settings.pools p lt in
        let numbers : (views p).numbers ≡ numbers_from 0 (length olds) = (joined p lt).numbers ∙ joined_numbers settings identity connections 0 p olds news doors worked lt in
        let listed = subst (λ ns. AllByRecursion (λ (e : Entry). 0 < times e.pass ns) (logs p)) numbers (kept p at.0 at.1).listed in
        All-weaker (λ (e : Entry). 0 < times e.pass (numbers_from 0 (length olds))) (λ (e : Entry). e.pass < length olds)
        (λ e has. let low = times_from e.pass 0 (length olds) has in omega (arith, low)) (logs p) (All-from_recursion (λ (e : Entry). 0 < times e.pass (numbers_from 0 (length olds))) (logs p) listed)

    pick : (p < length settings.pools) ⊎ (length settings.pools ≤ p) → All (λ (e : Entry). e.pass < length olds) (logs p)
    pick (inl lt) = inside lt
    pick (inr le) = All-same (λ (e : Entry). e.pass < length olds) (logs p) [] (past p le) (All-nil (λ (e : Entry). e.pass < length olds))

pub served : (settings : Settings) (identity : ℕ → List ℕ) (clock : ℕ → Option (List ℕ)) (address : List ℕ) (workers connections : ℕ) (before listening after : ListenerState)
    (olds news : List WorkerState) (logs : Logs) (stopped : WorkStop) (views : ℕ → PoolView)
    → Gives (λ (given : AcceptorState). given) (map (λ (w : WorkerState). w.acceptor) olds) address before listening workers
    → AreNewDoors settings identity 0 (doors_of olds) → All (λ (w : WorkerState). w.clock ≡ clock) olds → AllZip (HasWorked connections) olds news
    → ((p : ℕ) → p < length settings.pools → IsJoined p (doors_of news) (views p))
    → ((p : ℕ) (pool : PoolSettings) → slice_get settings.pools p ≡ Some pool → IsKept pool (views p) (logs p))
    → ((p : ℕ) → length settings.pools ≤ p → logs p ≡ [])
    → ShutsAll (map (λ (w : WorkerState). w.acceptor) news) listening after
    → stopped ≡ stop_of (map (λ (w : WorkerState). w.worked.stop) news)
    → ServesShared address workers connections settings clock before after logs stopped
served settings identity clock address workers connections before listening after olds news logs stopped views gives doors clocks worked joined kept past shuts stop = record {
  identity = identity;
  listening = listening;
  olds = olds;
  news = news;
  gives = gives;
  runs = are_runs settings identity clock connections logs 0 olds news doors clocks worked
      (holds_joined (length settings.pools) logs views (doors_of news) joined (λ p lt. let at = pool_at settings.pools p lt in (kept p at.0 at.1).seen));
  shuts = shuts;
  legal = λ p pool is. (kept p pool is).legal;
  no_others = λ p. subst (λ n. All (λ (e : Entry). e.pass < n) (logs p)) (sym (length-map olds (λ (w : WorkerState). w.acceptor)) ∙ gives.number)
      (no_others_at settings identity connections olds news logs views p doors worked joined kept past);
  stop_is = stop;
}

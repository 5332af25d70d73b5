-- Machines that are made of kept records, one after another.
use Rattle.std.proofs.Common.{◌≡◌, ℕ, zero, suc, ◌<◌, ◌≤◌, List, [], ◌∷◌, ◌++◌, map, length, get_or, refl, arith, ap, sym, subst, ◌∙◌, Option, None, IfSome, IfOk, Result, Ok, Err}
use Rattle.std.specs.Prelude.{slice_get, nat_le, IsSomeAnd, IsTrue}
use Rattle.std.specs.List.{All}
use Rattle.std.proofs.lemmas.Bool.{and_parts}
use Rattle.std.proofs.lemmas.List.{map-append, length-map}
use Rattle.std.proofs.lemmas.List.Elements.{All-push}
use borrow.Author.Tests.{leb-true}
use Rattle.swarm_keeper.specs.Tables.{Tables}
use Rattle.swarm_history.specs.Types.{Settings, PoolSettings, StorePart, LoadStop}
use Rattle.swarm_model.specs.BaseRules.{IsBase}
use Rattle.swarm_model.specs.Bases.{empty_base}
use Rattle.swarm_model.specs.MachineState.{MachineState}
use Rattle.swarm_model.specs.Settings.{are_settings}
use Rattle.swarm_model.specs.Words.{is_between}
use Rattle.pool_loading.specs.declared.loading.LoadStop.TheVariants as stop
use Rattle.pool_loading.specs.Records.{IsLoaded, AreFilled, AreRefusedAt}
use Rattle.pool_doors.specs.Doors.{IsFreshDoor}
use Rattle.swarm_history.specs.Machines.{pools_of, logs_of, start_at, starts_of, own_door}
use Rattle.swarm_history.specs.Records.{AreBasesOf, AreRecordsOf, AreLoaded, AreLoadable, IsBadStore, IsFirstBadRecord, IsNew, fault_of}
use Rattle.swarm_history.proofs.Keepers.{bases_kept, no_machines}

-- there are few pools
pub few_pools : (settings : Settings) → IsTrue (are_settings settings) → length settings.pools ≤ 4
few_pools settings rules =
    let counted = and_parts (is_between 1 4 (length settings.pools)) _ rules in
    leb-true (length settings.pools) 4 (and_parts (nat_le 1 (length settings.pools)) (nat_le (length settings.pools) 4) counted.0).1

-- the next machine is made too
pub loaded_more : (pools : List PoolSettings) (tables : List (Option Tables)) (machines : List MachineState) (pool : PoolSettings) (kept : MachineState)
    → length machines < length pools → length machines < length tables → pool ≡ get_or pools (length machines) pool
    → IsLoaded pool (get_or tables (length machines) None) kept → AreLoaded pools tables machines → AreLoaded pools tables (machines ++ kept ∷ [])
loaded_more [] tables machines pool kept low inside is next are = absurd (omega arith)
loaded_more (p ∷ pools) [] machines pool kept low inside is next are = absurd (omega arith)
loaded_more (p ∷ pools) (told ∷ tables) [] pool kept low inside is next are = (subst (λ (q : PoolSettings). IsLoaded q told kept) is next, tt)
loaded_more (p ∷ pools) (told ∷ tables) (m ∷ machines) pool kept low inside is next are =
    (are.0, loaded_more pools tables machines pool kept (omega arith) (omega arith) is next are.1)

-- of the records at each place before a machine can be made
loaded_before : (pools : List PoolSettings) (tables : List (Option Tables)) (machines : List MachineState) → AreLoaded pools tables machines
    → (p : ℕ) → p < length machines → IsSomeAnd (slice_get pools p) (λ pool. IsSomeAnd (slice_get tables p) (AreLoadable pool))
loaded_before pools tables [] are p low = absurd (omega arith)
loaded_before [] tables (m ∷ machines) are p low = absurd are
loaded_before (pool ∷ pools) [] (m ∷ machines) are p low = absurd are
loaded_before (pool ∷ pools) (told ∷ tables) (m ∷ machines) are zero low = (m, are.0)
loaded_before (pool ∷ pools) (told ∷ tables) (m ∷ machines) are (suc p) low = loaded_before pools tables machines are.1 p (omega arith)

refused_at : (pools : List PoolSettings) (tables : List (Option Tables)) (place : ℕ) (pool : PoolSettings) (part : StorePart) (at : ℕ)
    → place < length pools → place < length tables → pool ≡ get_or pools place pool → IfSome (get_or tables place None) (λ t. AreRefusedAt pool t part at)
    → IsSomeAnd (slice_get pools place) (λ pool. IsSomeAnd (slice_get tables place) (λ told. IfSome told (λ t. AreRefusedAt pool t part at)))
refused_at [] tables place pool part at low inside is refused = absurd (omega arith)
refused_at (p ∷ pools) [] place pool part at low inside is refused = absurd (omega arith)
refused_at (p ∷ pools) (told ∷ tables) zero pool part at low inside is refused = subst (λ (q : PoolSettings). IfSome told (λ t. AreRefusedAt q t part at)) is refused
refused_at (p ∷ pools) (told ∷ tables) (suc place) pool part at low inside is refused = refused_at pools tables place pool part at (omega arith) (omega arith) is refused

-- the first records that are refused
pub bad_store : (settings : Settings) (tables : List (Option Tables)) (machines : List MachineState) (place : ℕ) (pool : PoolSettings) (part : StorePart) (at : ℕ)
    → place ≡ length machines → place < length settings.pools → place < length tables → pool ≡ get_or settings.pools place pool
    → IfSome (get_or tables place None) (λ t. AreRefusedAt pool t part at) → AreLoaded settings.pools tables machines → IsBadStore settings tables place part at
bad_store settings tables machines place pool part at counted low inside is refused are = record {
  refused = refused_at settings.pools tables place pool part at low inside is refused;
  before = λ p less. loaded_before settings.pools tables machines are p (omega (arith, counted));
}

abbrev stopped : {T : Type 0} → LoadStop → Result T LoadStop
stopped why = Err why

-- what is told where the records at a place are not loaded
pub tells_bad : {T : Type 0} (settings : Settings) (tables now : List (Option Tables)) (machines : List MachineState) (place : ℕ) (pool : PoolSettings) (why : LoadStop)
    → now ≡ tables → place ≡ length machines → place < length settings.pools → place < length tables → pool ≡ get_or settings.pools place pool
    → ((part : StorePart) (at : ℕ) → stopped {T = T} why ≡ Err (stop.Refused part at) → IfSome (get_or now place None) (λ t. AreRefusedAt pool t part at)) → AreLoaded settings.pools tables machines
    → IsFirstBadRecord settings tables (fault_of place why)
tells_bad settings tables now machines place pool stop.Memory same counted low inside is refused are = tt
tells_bad settings tables now machines place pool stop.Failed same counted low inside is refused are = tt
tells_bad settings tables now machines place pool (stop.Refused part at) same counted low inside is refused are =
    bad_store settings tables machines place pool part at counted low inside is
    (subst (λ (all : List (Option Tables)). IfSome (get_or all place None) (λ t. AreRefusedAt pool t part at)) same (refused part at refl)) are

-- The machines of a type, each of which keeps its state, and one more.
module _ {M : Type 0} (kept : M → MachineState) (machines more : List M) (machine : M) (pushed : more ≡ machines ++ machine ∷ []) where
  states_more : map kept more ≡ map kept machines ++ kept machine ∷ []
  states_more = ap (map kept) pushed ∙ map-append kept machines (machine ∷ [])

  pub loaded_next : (pools : List PoolSettings) (tables now : List (Option Tables)) (place : ℕ) (pool : PoolSettings) → now ≡ tables → place ≡ length machines
      → place < length pools → place < length tables → pool ≡ get_or pools place pool
      → IsLoaded pool (get_or now place None) (kept machine) → AreLoaded pools tables (map kept machines) → AreLoaded pools tables (map kept more)
  loaded_next pools tables now place pool same counted low inside is next are =
      let at : place ≡ length (map kept machines) = counted ∙ sym (length-map machines kept) in
      subst (AreLoaded pools tables) (sym states_more)
      (loaded_more pools tables (map kept machines) pool (kept machine) (omega (arith, at)) (omega (arith, at))
      (subst (λ (n : ℕ). pool ≡ get_or pools n pool) at is)
      (subst (λ (all : List (Option Tables)). IsLoaded pool (get_or all (length (map kept machines)) None) (kept machine)) same
      (subst (λ (n : ℕ). IsLoaded pool (get_or now n None) (kept machine)) at next)) are)

  pub nothing_more : All IsNew (map kept machines) → IsNew (kept machine) → All IsNew (map kept more)
  nothing_more none last = subst (All IsNew) (sym states_more) (All-push IsNew (map kept machines) (kept machine) none last)

-- a machine to which nothing led under these settings is new
pub new_is : {M E : Type 0} (kept : M → MachineState) (r : Result M E) (pool : PoolSettings) (told : Option Tables) → IfOk r (λ m. IsLoaded pool told (kept m))
    → IfOk r (λ m. ((kept m).log ≡ []) × ((kept m).start ≡ empty_base pool)) → IfOk r (λ m. IsNew (kept m))
new_is kept (Ok m) pool told loaded new = (new.0, new.1 ∙ ap empty_base (sym loaded.settings_are))
new_is kept (Err e) pool told loaded new = tt

-- ---- a machine for each pool

pub loaded_pools : (pools : List PoolSettings) (tables : List (Option Tables)) (machines : List MachineState) → length machines ≡ length pools
    → AreLoaded pools tables machines → pools_of machines ≡ pools
loaded_pools [] tables [] all are = refl
loaded_pools (pool ∷ pools) tables [] all are = absurd (omega arith)
loaded_pools [] tables (m ∷ machines) all are = absurd are
loaded_pools (pool ∷ pools) [] (m ∷ machines) all are = absurd are
loaded_pools (pool ∷ pools) (told ∷ tables) (m ∷ machines) all are =
    ap (λ (p : PoolSettings). p ∷ pools_of machines) are.0.settings_are ∙ ap (λ (rest : List PoolSettings). pool ∷ rest) (loaded_pools pools tables machines (omega arith) are.1)

-- each log begins from a base
loaded_starts : (pools : List PoolSettings) (tables : List (Option Tables)) (machines : List MachineState) → length machines ≡ length pools
    → AreLoaded pools tables machines → (p : ℕ) → IfSome (slice_get pools p) (λ pool. IsBase pool (start_at (starts_of machines) p).count (start_at (starts_of machines) p).rows)
loaded_starts [] tables machines all are p = tt
loaded_starts (pool ∷ pools) tables [] all are p = absurd (omega arith)
loaded_starts (pool ∷ pools) [] (m ∷ machines) all are p = absurd are
loaded_starts (pool ∷ pools) (told ∷ tables) (m ∷ machines) all are zero = subst (λ (s : PoolSettings). IsBase s m.start.count m.start.rows) are.0.settings_are are.0.history.base
loaded_starts (pool ∷ pools) (told ∷ tables) (m ∷ machines) all are (suc p) = loaded_starts pools tables machines (omega arith) are.1 p

pub loaded_held : (pools : List PoolSettings) (tables : List (Option Tables)) (machines : List MachineState) → AreLoaded pools tables machines → All AreFilled machines
loaded_held pools tables [] are = λ place m low. absurd (omega arith)
loaded_held [] tables (m ∷ machines) are = absurd are
loaded_held (pool ∷ pools) [] (m ∷ machines) are = absurd are
loaded_held (pool ∷ pools) (told ∷ tables) (m ∷ machines) are = by_place (loaded_held pools tables machines are.1)
  where
    by_place : All AreFilled machines → All AreFilled (m ∷ machines)
    by_place rest zero d low = are.0.held
    by_place rest (suc place) d low = rest place d (omega arith)

pub loaded_records : (pools : List PoolSettings) (tables : List (Option Tables)) (machines : List MachineState) → AreLoaded pools tables machines → AreRecordsOf tables machines
loaded_records pools tables [] are = no_machines tables
loaded_records [] tables (m ∷ machines) are = absurd are
loaded_records (pool ∷ pools) [] (m ∷ machines) are = absurd are
loaded_records (pool ∷ pools) (told ∷ tables) (m ∷ machines) are = by_place (loaded_records pools tables machines are.1)
  where
    by_place : AreRecordsOf tables machines → AreRecordsOf (told ∷ tables) (m ∷ machines)
    by_place rest zero = are.0.records
    by_place rest (suc p) = rest p

-- the settings with these pools
abbrev with_pools : Option (List ℕ) → List PoolSettings → Settings
with_pools store pools = record { store = store; pools = pools }

-- a door over them is fresh
pub fresh_door : (settings : Settings) (store : Option (List ℕ)) (tables records : List (Option Tables)) (machines : List MachineState) (faults : ℕ) → store ≡ settings.store
    → length machines ≡ length settings.pools → AreLoaded settings.pools tables machines
    → IsFreshDoor settings (own_door store machines records faults 0).seen (own_door store machines records faults 0)
fresh_door settings store tables records machines faults stored all are = record {
  settings_are = ap (λ (s : Option (List ℕ)). with_pools s (pools_of machines)) stored ∙ ap (λ (pools : List PoolSettings). with_pools settings.store pools) (loaded_pools settings.pools tables machines all are);
  seen = λ p. refl;
  starts = loaded_starts settings.pools tables machines all are;
  numbers = λ p. refl;
  alone = refl;
  calls = refl;
}

-- where all machines are new, no log has an entry
pub nothing_seen : (machines : List MachineState) → All IsNew machines → (p : ℕ) → logs_of machines p ≡ []
nothing_seen [] none p = refl
nothing_seen (m ∷ machines) none zero = (none 0 m (omega arith)).0
nothing_seen (m ∷ machines) none (suc p) = nothing_seen machines (λ place d low. none (suc place) d (omega arith)) p

nothing_led : (machines : List MachineState) → All IsNew machines → (p : ℕ) → IfSome (slice_get (pools_of machines) p) (λ pool. start_at (starts_of machines) p ≡ empty_base pool)
nothing_led [] none p = tt
nothing_led (m ∷ machines) none zero = (none 0 m (omega arith)).1
nothing_led (m ∷ machines) none (suc p) = nothing_led machines (λ place d low. none (suc place) d (omega arith)) p

-- and nothing led to where each log begins
pub nothing_before : (pools : List PoolSettings) (tables : List (Option Tables)) (machines : List MachineState) → length machines ≡ length pools
    → AreLoaded pools tables machines → All IsNew machines → (p : ℕ) → IfSome (slice_get pools p) (λ pool. start_at (starts_of machines) p ≡ empty_base pool)
nothing_before pools tables machines all are none p =
    subst (λ (l : List PoolSettings). IfSome (slice_get l p) (λ pool. start_at (starts_of machines) p ≡ empty_base pool)) (loaded_pools pools tables machines all are)
    (nothing_led machines none p)

-- where they are told, the records tell where each log begins
pub loaded_bases : (pools : List PoolSettings) (tables : List (Option Tables)) (machines : List MachineState) → length machines ≡ length pools
    → AreLoaded pools tables machines → AreBasesOf pools tables (start_at (starts_of machines))
loaded_bases pools tables machines all are =
    subst (λ (l : List PoolSettings). AreBasesOf l tables (start_at (starts_of machines))) (loaded_pools pools tables machines all are)
    (bases_kept tables machines (loaded_records pools tables machines are))

-- Calls of one machine among several.
use Rattle.std.proofs.Common.{◌≡◌, ℕ, zero, suc, ◌+◌, ◌<◌, ◌≤◌, true, List, [], ◌∷◌, map, length, get_or, set, refl, arith, ap, sym, subst, ◌∙◌, Option, Result}
use Rattle.std.specs.Prelude.{IsSomeAnd, slice_get}
use Rattle.std.specs.List.{All}
use Rattle.std.proofs.lemmas.List.Elements.{All-set}
use Rattle.std.proofs.lemmas.List.{map-set, get_or-map, get_or-set_other, length-map}
use Rattle.swarm_keeper.specs.Tables.{Tables}
use Rattle.swarm_history.specs.Types.{Settings, PoolSettings, Entry, Answered, CallFault}
use Rattle.swarm_model.specs.Bases.{Base}
use Rattle.swarm_model.specs.MachineState.{MachineState}
use Rattle.swarm_model.specs.Points.{Call, Growth}
use Rattle.pool_doors.specs.Doors.{base_told, IsPoolCall, IsCall, CountsKeeper, Elsewhere, HasNoOthersAt}
use Rattle.pool_loading.specs.Records.{AreFilled}
use Rattle.swarm_history.specs.Machines.{pools_of, logs_of, start_at, starts_of, own_writer, own_door}
use Rattle.swarm_history.specs.Records.{AreKept, HoldsNoOthers}

-- what holds of the pool at a place holds of its machine's settings
of_machine : (Q : PoolSettings → Type 0) (machines : List MachineState) (place : ℕ) (old : MachineState) → old ≡ get_or machines place old
    → IsSomeAnd (slice_get (pools_of machines) place) Q → Q old.pool.settings
of_machine Q [] place old is holds = absurd holds
of_machine Q (m ∷ machines) zero old is holds = subst (λ (k : MachineState). Q k.pool.settings) (sym is) holds
of_machine Q (m ∷ machines) (suc place) old is holds = of_machine Q machines place old is holds

-- what holds of where the log of the machine at a place begins, and of the log before and after, holds at the place of its pool
of_pool : (P : Base → List Entry → List Entry → Type 0) (machines : List MachineState) (place : ℕ) (old new : MachineState)
    → place < length machines → old ≡ get_or machines place old → P old.start old.log new.log
    → IsSomeAnd (slice_get (pools_of machines) place) (λ pool. P (start_at (starts_of machines) place) (logs_of machines place) (logs_of (set machines place new) place))
of_pool P [] place old new low is holds = absurd (omega arith)
of_pool P (m ∷ machines) zero old new low is holds = subst (λ (k : MachineState). P k.start k.log new.log) is holds
of_pool P (m ∷ machines) (suc place) old new low is holds = of_pool P machines place old new (omega arith) is holds

-- the other machines' logs stay
elsewhere : (machines : List MachineState) (place : ℕ) (new : MachineState) → Elsewhere place (logs_of machines) (logs_of (set machines place new))
elsewhere machines place new = λ p other.
    ap (λ (logs : List (List Entry)). get_or logs p []) (map-set (λ (m : MachineState). m.log) machines place new)
    ∙ get_or-set_other (map (λ (m : MachineState). m.log) machines) place p new.log [] other

-- a machine that keeps its settings leaves those of all
pools_stay : (machines : List MachineState) (place : ℕ) (old new : MachineState) → old ≡ get_or machines place old
    → new.pool.settings ≡ old.pool.settings → pools_of (set machines place new) ≡ pools_of machines
pools_stay [] place old new is same = refl
pools_stay (m ∷ machines) zero old new is same =
    ap (λ (pool : PoolSettings). pool ∷ pools_of machines) (same ∙ ap (λ (k : MachineState). k.pool.settings) is)
pools_stay (m ∷ machines) (suc place) old new is same =
    ap (λ (pools : List PoolSettings). m.pool.settings ∷ pools) (pools_stay machines place old new is same)

-- and one whose log begins where it did leaves where each begins
starts_stay : (machines : List MachineState) (place : ℕ) (old new : MachineState) → old ≡ get_or machines place old
    → new.start ≡ old.start → starts_of (set machines place new) ≡ starts_of machines
starts_stay [] place old new is same = refl
starts_stay (m ∷ machines) zero old new is same = ap (λ (start : Base). start ∷ starts_of machines) (same ∙ ap (λ (k : MachineState). k.start) is)
starts_stay (m ∷ machines) (suc place) old new is same = ap (λ (starts : List Base). m.start ∷ starts) (starts_stay machines place old new is same)

-- the settings with these pools
abbrev with_pools : Option (List ℕ) → List PoolSettings → Settings
with_pools store pools = record { store = store; pools = pools }

-- where the records at a place get no other blobs, those of no pool do
no_others_set : (machines : List MachineState) (tables : List (Option Tables)) (place : ℕ) (old new : MachineState) (told now : Option Tables)
    → place < length machines → place < length tables → old ≡ get_or machines place old → told ≡ get_or tables place told
    → (HoldsNoOthers told old → HoldsNoOthers now new)
    → (p : ℕ) → HasNoOthersAt (pools_of machines) (start_at (starts_of machines)) tables (logs_of machines) p
    → HasNoOthersAt (pools_of (set machines place new)) (start_at (starts_of (set machines place new))) (set tables place now) (logs_of (set machines place new)) p
no_others_set [] tables place old new told now low inside is at adds p has = absurd (omega arith)
no_others_set (m ∷ machines) [] place old new told now low inside is at adds p has = absurd (omega arith)
no_others_set (m ∷ machines) (t ∷ tables) zero old new told now low inside is at adds zero has =
    adds (subst (λ (o : Option Tables). HoldsNoOthers o old) (sym at) (subst (HoldsNoOthers t) (sym is) has))
no_others_set (m ∷ machines) (t ∷ tables) zero old new told now low inside is at adds (suc p) has = has
no_others_set (m ∷ machines) (t ∷ tables) (suc place) old new told now low inside is at adds zero has = has
no_others_set (m ∷ machines) (t ∷ tables) (suc place) old new told now low inside is at adds (suc p) has =
    no_others_set machines tables place old new told now (omega arith) (omega arith) is at adds p has

-- and where those at one place tell what they did of where the log begins, all do
bases_stay : (tables : List (Option Tables)) (place : ℕ) (told now : Option Tables) → told ≡ get_or tables place told → base_told now ≡ base_told told
    → map base_told (set tables place now) ≡ map base_told tables
bases_stay [] place told now is same = refl
bases_stay (t ∷ tables) zero told now is same = ap (λ (b : Option (List (List ℕ) × ℕ)). b ∷ map base_told tables) (same ∙ ap base_told is)
bases_stay (t ∷ tables) (suc place) told now is same = ap (λ (rest : List (Option (List (List ℕ) × ℕ))). base_told t ∷ rest) (bases_stay tables place told now is same)

called : (store : Option (List ℕ)) (machines : List MachineState) (tables : List (Option Tables)) (before now calls place : ℕ) (call : Call) (result : Result Answered CallFault)
    (old new : MachineState) (told_old told_new : Option Tables)
    → place < length machines → place < length tables → old ≡ get_or machines place old → told_old ≡ get_or tables place told_old → new.start ≡ old.start → new.pool.settings ≡ old.pool.settings
    → before ≤ now → CountsKeeper result before now → (HoldsNoOthers told_old old → HoldsNoOthers told_new new)
    → AreKept (set tables place told_new) (logs_of (set machines place new)) → base_told told_new ≡ base_told told_old
    → (growth : Growth) × IsPoolCall old.start true call old.log new.log growth result
    → IsCall (own_door store machines tables before calls) (own_door store (set machines place new) (set tables place told_new) now (calls + 1)) place call result
called store machines tables before now calls place call result old new told_old told_new low inside is at start same grows failed adds lines base did = record {
  growth = did.0;
  done = of_pool (λ (start : Base) (before after : List Entry). IsPoolCall start true call before after did.0 result) machines place old new low is did.1;
  elsewhere = elsewhere machines place new;
  kept = record { lines = λ p had. lines p; bases = bases_stay tables place told_old told_new at base };
  no_other_blobs = no_others_set machines tables place old new told_old told_new low inside is at adds;
  settings = ap (λ (pools : List PoolSettings). with_pools store pools) (pools_stay machines place old new is same);
  writer = ap own_writer (starts_stay machines place old new is start);
  faults = grows;
  keeper = failed;
  calls = omega arith;
}

-- The machines of a type, each of which keeps its state.
module _ {M : Type 0} (kept : M → MachineState) where
  -- a pool's place is that of a machine
  pub within : (machines : List M) (place : ℕ) → place < length (pools_of (map kept machines)) → place < length machines
  within machines place low = omega (arith, length-map (map kept machines) (λ (m : MachineState). m.pool.settings), length-map machines kept)

  at : (machines : List M) (place : ℕ) (old : M) → place < length machines → old ≡ get_or machines place old
      → kept old ≡ get_or (map kept machines) place (kept old)
  at machines place old low is = ap kept is ∙ sym (get_or-map kept machines place old (kept old) low)

  pub machine_of : (Q : PoolSettings → Type 0) (machines : List M) (place : ℕ) (old : M) → place < length (pools_of (map kept machines))
      → old ≡ get_or machines place old → IsSomeAnd (slice_get (pools_of (map kept machines)) place) Q → Q (kept old).pool.settings
  machine_of Q machines place old low is holds =
      of_machine Q (map kept machines) place (kept old) (at machines place old (within machines place low) is) holds

  -- where the blobs of each machine have their bytes, those of the one at a place have theirs
  pub held_at : (machines : List M) (place : ℕ) (old : M) → place < length (pools_of (map kept machines)) → old ≡ get_or machines place old
      → All AreFilled (map kept machines) → AreFilled (kept old)
  held_at machines place old low is held =
      let inside = within machines place low in
      subst AreFilled (sym (at machines place old inside is)) (held place (kept old) (omega (arith, inside, length-map machines kept)))

  -- and where those of a changed machine have theirs, so have those of each
  pub all_held : (machines : List M) (place : ℕ) (new : M) → All AreFilled (map kept machines) → AreFilled (kept new)
      → All AreFilled (map kept (set machines place new))
  all_held machines place new held one =
      subst (All AreFilled) (sym (map-set kept machines place new)) (All-set AreFilled (map kept machines) place (kept new) one held)

  -- a call of the machine at the place, over the keeper there, is a call of the door
  pub own_call : {K : Type 0} (tables : K → Option Tables) (store : Option (List ℕ)) (machines : List M) (keepers : List K) (before now calls place : ℕ) (call : Call) (result : Result Answered CallFault)
      (old new : M) (keeper next : K)
      → place < length (pools_of (map kept machines)) → place < length keepers → old ≡ get_or machines place old → keeper ≡ get_or keepers place keeper
      → (kept new).start ≡ (kept old).start → (kept new).pool.settings ≡ (kept old).pool.settings
      → before ≤ now → CountsKeeper result before now → (HoldsNoOthers (tables keeper) (kept old) → HoldsNoOthers (tables next) (kept new))
      → AreKept (map tables (set keepers place next)) (logs_of (map kept (set machines place new))) → base_told (tables next) ≡ base_told (tables keeper)
      → (growth : Growth) × IsPoolCall (kept old).start true call (kept old).log (kept new).log growth result
      → IsCall (own_door store (map kept machines) (map tables keepers) before calls)
      (own_door store (map kept (set machines place new)) (map tables (set keepers place next)) now (calls + 1)) place call result
  own_call tables store machines keepers before now calls place call result old new keeper next low inside is at_keeper start same grows failed adds lines base did =
      let low_state : place < length (map kept machines) = omega (arith, low, length-map (map kept machines) (λ (m : MachineState). m.pool.settings)) in
      let is_state = at machines place old (within machines place low) is in
      let lines_state : AreKept (set (map tables keepers) place (tables next)) (logs_of (set (map kept machines) place (kept new))) =
      subst (λ (told : List (Option Tables)). AreKept told (logs_of (set (map kept machines) place (kept new)))) (map-set tables keepers place next)
      (subst (λ (after : List MachineState). AreKept (map tables (set keepers place next)) (logs_of after)) (map-set kept machines place new) lines) in
      let is_told : tables keeper ≡ get_or (map tables keepers) place (tables keeper) = ap tables at_keeper ∙ sym (get_or-map tables keepers place keeper (tables keeper) inside) in
      subst (λ (after : List MachineState). IsCall (own_door store (map kept machines) (map tables keepers) before calls) (own_door store after (map tables (set keepers place next)) now (calls + 1)) place call result)
      (sym (map-set kept machines place new))
      (subst (λ (told : List (Option Tables)). IsCall (own_door store (map kept machines) (map tables keepers) before calls) (own_door store (set (map kept machines) place (kept new)) told now (calls + 1)) place call result)
      (sym (map-set tables keepers place next))
      (called store (map kept machines) (map tables keepers) before now calls place call result (kept old) (kept new) (tables keeper) (tables next) low_state
      (omega (arith, inside, length-map keepers tables)) is_state is_told start same grows failed adds lines_state base did))

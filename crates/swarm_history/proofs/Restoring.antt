-- What the next start finds in the records of machines, one for each pool.
use Rattle.std.proofs.Common.{◌≡◌, ℕ, zero, suc, ◌+◌, ◌<◌, ◌≤◌, List, [], ◌∷◌, map, take, length, get_or, refl, sym, ap, ◌∙◌, subst, Option, Some, None, IfSome}
use Rattle.std.specs.Prelude.{slice_get, ⊤}
use Rattle.std.specs.List.{All}
use Rattle.std.proofs.lemmas.List.{take_all, take_more, map-append}
use Rattle.std.proofs.lemmas.List.Elements.{All-head, All-tail, All-push}
use Rattle.swarm_keeper.specs.Tables.{Tables}
use Rattle.swarm_model.specs.declared.pool_settings.PoolSettings.{PoolSettings}
use Rattle.swarm_model.specs.MachineState.{MachineState, IsHistory}
use Rattle.pool_loading.specs.Records.{AreFilled, Restores}
use Rattle.pool_loading.proofs.Restoring.{restores}
use Rattle.swarm_history.specs.Machines.{logs_of, pools_of, start_at, starts_of}
use Rattle.swarm_history.specs.Records.{AreMachineRecords, AreRecordsOf, AreRestorable}

pub restorable : (tables : List (Option Tables)) (machines : List MachineState) → All IsHistory machines → All AreFilled machines → AreRecordsOf tables machines
    → AreRestorable (pools_of machines) tables (start_at (starts_of machines)) (logs_of machines)
restorable tables [] histories filled are = λ p. tt
restorable [] (m ∷ machines) histories filled are = λ p. of_none (slice_get (pools_of (m ∷ machines)) p)
  where
    of_none : (o : Option PoolSettings) → IfSome o (λ pool. ⊤)
    of_none None = tt
    of_none (Some pool) = tt
restorable (told ∷ tables) (m ∷ machines) histories filled are =
    by_place (restorable tables machines (All-tail IsHistory m machines histories) (All-tail AreFilled m machines filled) (λ p. are (suc p)))
  where
    by_told : (o : Option Tables) → AreMachineRecords o m → IfSome o (Restores m.pool.settings m.start m.log)
    by_told None first = tt
    by_told (Some t) first =
        restores m.pool.settings t m (record { settings_are = refl; history = All-head IsHistory m machines histories; held = All-head AreFilled m machines filled; records = first })

    by_place : AreRestorable (pools_of machines) tables (start_at (starts_of machines)) (logs_of machines)
        → AreRestorable (pools_of (m ∷ machines)) (told ∷ tables) (start_at (starts_of (m ∷ machines))) (logs_of (m ∷ machines))
    by_place rest zero = by_told told (are 0)
    by_place rest (suc p) = rest p

-- of one machine more it holds too
pub one_more : {M : Type 0} (kept : M → MachineState) (P : MachineState → Type 0) (machines : List M) (place : ℕ) (machine : M) → place < length machines → machine ≡ get_or machines place machine
    → All P (map kept (take place machines)) → P (kept machine) → All P (map kept (take (place + 1) machines))
one_more {M = M} kept P machines place machine low is all one =
    subst (All P) (sym (ap (map kept) (take_more machines place machine low) ∙ map-append kept (take place machines) (get_or machines place machine ∷ [])))
    (All-push P (map kept (take place machines)) (kept (get_or machines place machine)) all (subst (λ (m : M). P (kept m)) is one))

-- of all that were passed it holds of all
pub all_passed : {M : Type 0} (kept : M → MachineState) (P : MachineState → Type 0) (machines : List M) (place : ℕ) → length machines ≤ place → All P (map kept (take place machines)) → All P (map kept machines)
all_passed {M = M} kept P machines place high all = subst (λ (l : List M). All P (map kept l)) (take_all place machines high) all

-- and so of those that are lent
pub of_lent : {M : Type 0} (kept : M → MachineState) (P : MachineState → Type 0) (machines lent : List M) → lent ≡ machines → All P (map kept lent) → All P (map kept machines)
of_lent {M = M} kept P machines lent same all = subst (λ (l : List M). All P (map kept l)) same all

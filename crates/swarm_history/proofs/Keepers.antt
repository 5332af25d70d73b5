-- The keepers beside machines, one for each.
use Rattle.std.proofs.Common.{◌≡◌, ℕ, zero, suc, ◌+◌, ◌<◌, ◌≤◌, List, [], ◌∷◌, map, length, get_or, set, refl, arith, ap, sym, subst, ◌∙◌, Option, Some, None, Result, Ok, Err, IfSome}
use Rattle.std.specs.Prelude.{slice_get, ⊤}
use Rattle.std.specs.List.{sum_by}
use Rattle.std.proofs.lemmas.List.{map-set, get_or-map, length-map}
use Rattle.std.proofs.lemmas.List.Sums.{sum_by-cons, sum_by-set}
use Rattle.sw_base.specs.Faults.{Rose}
use Rattle.swarm_keeper.specs.Tables.{Tables}
use Rattle.swarm_history.specs.Types.{PoolSettings, Answered, CallFault}
use Rattle.swarm_model.specs.MachineState.{MachineState}
use Rattle.pool_loading.specs.Records.{AreLinesOf, AreRecords}
use Rattle.pool_doors.specs.declared.door.CallFault.TheVariants as fault
use Rattle.pool_doors.specs.Doors.{CountsKeeper}
use Rattle.swarm_history.specs.Machines.{logs_of, pools_of, start_at, starts_of}
use Rattle.swarm_history.specs.Records.{TellsStart, AreBasesOf, AreKept, AreRecordsOf, AreMachineRecords}

-- ---- records

-- those of the next places
later : (told : Option Tables) (tables : List (Option Tables)) (kept : MachineState) (machines : List MachineState)
    → AreRecordsOf (told ∷ tables) (kept ∷ machines) → AreRecordsOf tables machines
later told tables kept machines are = λ p. are (suc p)

-- of no machine there are none to be told
pub no_machines : (tables : List (Option Tables)) → AreRecordsOf tables []
no_machines tables = λ p. by_place (slice_get tables p)
  where
    no_machine : Option MachineState
    no_machine = None

    by_told : (told : Option Tables) → IfSome told (λ t. IfSome no_machine (λ kept. AreRecords kept t))
    by_told None = tt
    by_told (Some t) = tt

    by_place : (o : Option (Option Tables)) → IfSome o (λ told. IfSome told (λ t. IfSome no_machine (λ kept. AreRecords kept t)))
    by_place None = tt
    by_place (Some told) = by_told told

first_with : (told : Option Tables) (tables : List (Option Tables)) (kept : MachineState) (machines : List MachineState)
    → AreMachineRecords told kept → AreRecordsOf tables machines → AreRecordsOf (told ∷ tables) (kept ∷ machines)
first_with told tables kept machines first rest zero = first
first_with told tables kept machines first rest (suc p) = rest p

-- the records at a place are those of the machine there
told_at : (tables : List (Option Tables)) (machines : List MachineState) (place : ℕ) (told : Option Tables) (kept : MachineState)
    → place < length tables → place < length machines → told ≡ get_or tables place told → kept ≡ get_or machines place kept
    → AreRecordsOf tables machines → AreMachineRecords told kept
told_at [] machines place told kept low inside is at are = absurd (omega arith)
told_at (t ∷ tables) [] place told kept low inside is at are = absurd (omega arith)
told_at (t ∷ tables) (m ∷ machines) zero told kept low inside is at are = rw (is, at) (are 0)
told_at (t ∷ tables) (m ∷ machines) (suc place) told kept low inside is at are =
    told_at tables machines place told kept (omega arith) (omega arith) is at (later t tables m machines are)

-- and where those at one place are changed with it, they are the records of each still
told_set : (tables : List (Option Tables)) (machines : List MachineState) (place : ℕ) (told : Option Tables) (kept : MachineState)
    → AreMachineRecords told kept → AreRecordsOf tables machines → AreRecordsOf (set tables place told) (set machines place kept)
told_set [] machines place told kept new are = λ p. tt
told_set (t ∷ tables) [] place told kept new are = no_machines (set (t ∷ tables) place told)
told_set (t ∷ tables) (m ∷ machines) zero told kept new are = first_with told tables kept machines new (later t tables m machines are)
told_set (t ∷ tables) (m ∷ machines) (suc place) told kept new are =
    first_with t (set tables place told) m (set machines place kept) (are 0) (told_set tables machines place told kept new (later t tables m machines are))

-- the lines are those of the logs
pub lines_kept : (tables : List (Option Tables)) (machines : List MachineState) → length tables ≤ length machines
    → AreRecordsOf tables machines → AreKept tables (logs_of machines)
lines_kept [] machines few are = λ p. tt
lines_kept (t ∷ tables) [] few are = absurd (omega arith)
lines_kept (told ∷ tables) (m ∷ machines) few are = by_place (lines_kept tables machines (omega arith) (later told tables m machines are))
  where
    by_told : (o : Option Tables) → AreMachineRecords o m → IfSome o (λ t. AreLinesOf t.lines m.log)
    by_told None first = tt
    by_told (Some t) first = first.lines

    by_place : AreKept tables (logs_of machines) → AreKept (told ∷ tables) (logs_of (m ∷ machines))
    by_place rest zero = by_told told (are 0)
    by_place rest (suc p) = rest p

-- and they tell where these begin
pub bases_kept : (tables : List (Option Tables)) (machines : List MachineState) → AreRecordsOf tables machines → AreBasesOf (pools_of machines) tables (start_at (starts_of machines))
bases_kept tables [] are = λ p. tt
bases_kept [] (m ∷ machines) are = λ p. of_none (slice_get (pools_of (m ∷ machines)) p)
  where
    of_none : (o : Option PoolSettings) → IfSome o (λ pool. ⊤)
    of_none None = tt
    of_none (Some pool) = tt
bases_kept (told ∷ tables) (m ∷ machines) are = by_place (bases_kept tables machines (later told tables m machines are))
  where
    by_told : (o : Option Tables) → AreMachineRecords o m → IfSome o (λ t. TellsStart m.pool.settings t m.start)
    by_told None first = tt
    by_told (Some t) first = record { rows = first.base; count = first.count }

    by_place : AreBasesOf (pools_of machines) tables (start_at (starts_of machines)) → AreBasesOf (pools_of (m ∷ machines)) (told ∷ tables) (start_at (starts_of (m ∷ machines)))
    by_place rest zero = by_told told (are 0)
    by_place rest (suc p) = rest p

-- ---- faults

-- a sum of counts rose where one of them did
rose_more : (old new sum after : ℕ) → old ≤ sum → after + old ≡ sum + new → Rose old new → Rose sum after
rose_more old new sum after most e rose = omega arith

at_most_sum : {K : Type 0} (faults : K → ℕ) (keepers : List K) (place : ℕ) (d : K) → place < length keepers → faults (get_or keepers place d) ≤ sum_by faults keepers
at_most_sum faults [] place d low = absurd (omega arith)
at_most_sum faults (k ∷ keepers) zero d low = let e = sum_by-cons faults k keepers in omega (arith, e)
at_most_sum faults (k ∷ keepers) (suc place) d low = let e = sum_by-cons faults k keepers in let rest = at_most_sum faults keepers place d (omega arith) in omega (arith, e, rest)

-- The keepers of a type, each of which counts its faults.
module _ {K : Type 0} (faults : K → ℕ) (keepers : List K) (place : ℕ) (old new : K) (low : place < length keepers) (is : old ≡ get_or keepers place old) where
  one_changed : sum_by faults (set keepers place new) + faults old ≡ sum_by faults keepers + faults new
  one_changed = ap (λ (k : K). sum_by faults (set keepers place new) + faults k) is ∙ sum_by-set faults keepers place new old low

  -- where no count falls, their sum doesn't
  pub sum_grows : faults old ≤ faults new → sum_by faults keepers ≤ sum_by faults (set keepers place new)
  sum_grows grows = let e = one_changed in omega (arith, e, grows)

  -- and where one rose, it did
  pub sum_rose : Rose (faults old) (faults new) → Rose (sum_by faults keepers) (sum_by faults (set keepers place new))
  sum_rose rose =
      let e = one_changed in
      let most = subst (λ (k : K). faults k ≤ sum_by faults keepers) (sym is) (at_most_sum faults keepers place old low) in
      rose_more (faults old) (faults new) (sum_by faults keepers) (sum_by faults (set keepers place new)) most e rose

  pub sum_counts : (result : Result Answered CallFault) → CountsKeeper result (faults old) (faults new) → CountsKeeper result (sum_by faults keepers) (sum_by faults (set keepers place new))
  sum_counts (Ok answered) counts = tt
  sum_counts (Err fault.Memory) counts = tt
  sum_counts (Err fault.LogFull) counts = tt
  sum_counts (Err fault.Keeper) counts = sum_rose counts

-- where the tables of the keeper at a place stay, those of each do
pub tables_stay : {K : Type 0} (tables : K → Option Tables) (keepers : List K) (place : ℕ) (old new : K) → old ≡ get_or keepers place old → tables new ≡ tables old
    → map tables (set keepers place new) ≡ map tables keepers
tables_stay tables [] place old new is same = refl
tables_stay tables (k ∷ keepers) zero old new is same = ap (λ (t : Option Tables). t ∷ map tables keepers) (same ∙ ap tables is)
tables_stay tables (k ∷ keepers) (suc place) old new is same = ap (λ (rest : List (Option Tables)). tables k ∷ rest) (tables_stay tables keepers place old new is same)

-- ---- machines and keepers of two types

module _ {M K : Type 0} (kept : M → MachineState) (tables : K → Option Tables) (machines : List M) (keepers : List K) (place : ℕ) where
  -- the keeper at a place has the records of the machine there
  pub records_at : (machine : M) (keeper : K) → place < length machines → place < length keepers → machine ≡ get_or machines place machine → keeper ≡ get_or keepers place keeper
      → AreRecordsOf (map tables keepers) (map kept machines) → AreMachineRecords (tables keeper) (kept machine)
  records_at machine keeper low inside is at are =
      told_at (map tables keepers) (map kept machines) place (tables keeper) (kept machine)
      (omega (arith, inside, length-map keepers tables)) (omega (arith, low, length-map machines kept))
      (ap tables at ∙ sym (get_or-map tables keepers place keeper (tables keeper) inside))
      (ap kept is ∙ sym (get_or-map kept machines place machine (kept machine) low)) are

  pub records_set : (machine : M) (keeper : K) → AreMachineRecords (tables keeper) (kept machine) → AreRecordsOf (map tables keepers) (map kept machines)
      → AreRecordsOf (map tables (set keepers place keeper)) (map kept (set machines place machine))
  records_set machine keeper new are =
      rw (map-set tables keepers place keeper, map-set kept machines place machine)
      (told_set (map tables keepers) (map kept machines) place (tables keeper) (kept machine) new are)

-- Records that begin anew, of one machine and of one after another.
use Rattle.std.proofs.Common.{◌≡◌, ℕ, zero, suc, ◌+◌, ◌<◌, ◌≤◌, ◌^◌, List, [], ◌∷◌, map, length, get_or, set, refl, arith, ap, sym, subst, ◌∙◌, Option, Some, None, IfSome}
use Rattle.std.specs.Prelude.{◌↔◌, slice_get}
use Rattle.std.specs.Option.{option_map}
use Rattle.std.proofs.lemmas.List.{map-set, get_or-map, get_or-set_same, get_or-set_other, length-map}
use Rattle.std.proofs.lemmas.Option.{same_Some}
use mathlib.Core.Logic.{dite}
use native.Mathlib.Decide.{ℕ_discrete}
use Rattle.dimensions.specs.declared.text.Text.{Text}
use Rattle.swarm_keeper.specs.Tables.{Tables, replaced}
use Rattle.swarm_history.specs.Types.{Entry, PoolSettings, PoolState}
use Rattle.swarm_model.specs.BaseRules.{IsBase}
use Rattle.swarm_model.specs.Bases.{Base, front}
use Rattle.swarm_model.specs.History.{replay}
use Rattle.swarm_model.specs.MachineState.{MachineState, IsHistory}
use Rattle.pool_laws.proofs.BaseVerdicts.{rest_tells}
use Rattle.pool_laws.proofs.MachineLaws.{base_now}
use Rattle.pool_laws.proofs.Rests.{rest_legal}
use Rattle.base_lines.specs.Reading.{base_lines, TellThePool}
use Rattle.pool_loading.specs.Records.{HasBase}
use Rattle.pool_loading.proofs.Bases.{base_is_told}
use Rattle.pool_doors.specs.Doors.{Logs}
use Rattle.swarm_history.specs.Machines.{logs_of, pools_of, start_at, starts_of}
use Rattle.swarm_history.specs.Checkpoints.{anew, GoesOn, BeginsAnew, told_at, BeginsAnewAt, AreAnewTo, HasBegunAt, HaveBegunTo, IsFullAt}

-- ---- one machine

-- what follows its log goes on from its rows
goes_on : (kept : MachineState) → IsHistory kept → GoesOn kept.start kept.log
goes_on kept history = record {
  legal = λ rest legal. rest_legal kept.start.rows kept.log rest history.base.sound legal;
  same = λ rest t caused. rest_tells kept.start.rows kept.log rest t history.base.sound caused;
}

-- A machine of a short history, and lines that tell its rows.
module _ (kept : MachineState) (history : IsHistory kept) (short : front kept.start kept.log ≤ 2 ^ 31) (lines : List Text)
    (written : lines ≡ base_lines kept.pool) (tells : TellThePool kept.pool lines) where
  abbrev rows : PoolState
  rows = replay kept.start.rows kept.log

  is_base : IsBase kept.pool.settings (front kept.start kept.log) rows
  is_base = subst (IsBase kept.pool.settings (front kept.start kept.log)) history.replayed (base_now kept history short)

  told_anew : TellThePool rows (base_lines rows)
  told_anew = subst (λ (s : PoolState). TellThePool s (base_lines s)) history.replayed (subst (TellThePool kept.pool) written tells)

  has_base : (old : Option Tables) → IfSome (option_map (anew kept.start kept.log) old) (λ t. HasBase kept.pool.settings t rows)
  has_base None = tt
  has_base (Some t) = record {
    told = base_is_told kept.pool.settings (front kept.start kept.log) rows (base_lines rows) is_base told_anew;
    is_base = is_base;
  }

  -- the keeper has other lines and another count
  pub begins_anew : (old new : Option Tables) (lent : List Text) (count : ℕ) → lent ≡ lines → count ≡ front kept.start kept.log
      → new ≡ option_map (replaced lent count) old → BeginsAnew kept.pool.settings kept.start kept.log old new
  begins_anew old new lent count same counted is =
      let told : new ≡ option_map (anew kept.start kept.log) old =
      is ∙ ap (λ (l : List Text). option_map (replaced l count) old) (same ∙ (written ∙ ap base_lines history.replayed)) ∙ ap (λ (n : ℕ). option_map (replaced (base_lines rows) n) old) counted in
      record {
        few = short;
        told = told;
        opens = subst (λ (o : Option Tables). IfSome o (λ t. HasBase kept.pool.settings t rows)) (sym told) (has_base old);
        goes_on = goes_on kept history;
      }

-- ---- a machine among several

-- what is told of the machine at a place
record IsAt (machines : List MachineState) (place : ℕ) (kept : MachineState) : Type 0 where
  start : start_at (starts_of machines) place ≡ kept.start
  log : logs_of machines place ≡ kept.log
  pool : slice_get (pools_of machines) place ≡ Some kept.pool.settings

is_at : (machines : List MachineState) (place : ℕ) (kept : MachineState) → place < length machines → kept ≡ get_or machines place kept → IsAt machines place kept
is_at [] place kept low is = absurd (omega arith)
is_at (m ∷ machines) zero kept low is = record {
  start = ap (λ (k : MachineState). k.start) (sym is);
  log = ap (λ (k : MachineState). k.log) (sym is);
  pool = ap (λ (k : MachineState). Some k.pool.settings) (sym is);
}
is_at (m ∷ machines) (suc place) kept low is =
    let there = is_at machines place kept (omega (arith, low)) is in record { start = there.start; log = there.log; pool = there.pool }

same_anew : (p q : PoolSettings) (b c : Base) (k l : List Entry) (old o new n : Option Tables) → q ≡ p → c ≡ b → l ≡ k → o ≡ old → n ≡ new
    → BeginsAnew p b k old new → BeginsAnew q c l o n
same_anew p q b c k l old o new n pools starts logs olds news begins = rw (pools, starts, logs, olds, news) begins

-- The machines and the keepers of two types, and what the keeper at a place has after a change.
module _ {M K : Type 0} (kept : M → MachineState) (tables : K → Option Tables) (machines : List M) (keepers : List K) (place : ℕ) (machine : M) (keeper next : K)
    (low : place < length machines) (inside : place < length keepers) (is : machine ≡ get_or machines place machine) (at : keeper ≡ get_or keepers place keeper) where
  there : IsAt (map kept machines) place (kept machine)
  there =
      is_at (map kept machines) place (kept machine) (omega (arith, low, length-map machines kept))
      (ap kept is ∙ sym (get_or-map kept machines place machine (kept machine) low))

  told_old : told_at (map tables keepers) place ≡ tables keeper
  told_old = get_or-map tables keepers place keeper None inside ∙ ap tables (sym at)

  told_new : told_at (map tables (set keepers place next)) place ≡ tables next
  told_new =
      ap (λ (l : List (Option Tables)). get_or l place None) (map-set tables keepers place next)
      ∙ get_or-set_same (map tables keepers) place (tables next) None (omega (arith, inside, length-map keepers tables))

  -- the records of the machine there begin anew, and all others stay
  pub begun_at : BeginsAnew (kept machine).pool.settings (kept machine).start (kept machine).log (tables keeper) (tables next)
      → HasBegunAt (map kept machines) place (map tables keepers) (map tables (set keepers place next))
  begun_at begins = record {
    here = λ pool found.
        same_anew (kept machine).pool.settings pool (kept machine).start (start_at (starts_of (map kept machines)) place) (kept machine).log (logs_of (map kept machines) place)
        (tables keeper) (told_at (map tables keepers) place) (tables next) (told_at (map tables (set keepers place next)) place)
        (same_Some pool (kept machine).pool.settings (sym found ∙ there.pool)) there.start there.log told_old told_new begins;
    others = λ p other.
        ap (λ (l : List (Option Tables)). get_or l p None) (map-set tables keepers place next) ∙ get_or-set_other (map tables keepers) place p (tables next) None other;
  }

  -- its count is that of the pool
  pub full_at : {X : Type 0} → X ↔ (2 ^ 31 < front (kept machine).start (kept machine).log) → X ↔ IsFullAt (map kept machines) place
  full_at {X = X} full =
      let same : front (kept machine).start (kept machine).log ≡ front (start_at (starts_of (map kept machines)) place) (logs_of (map kept machines) place) =
      ap (λ (b : Base). front b (kept machine).log) (sym there.start) ∙ ap (front (start_at (starts_of (map kept machines)) place)) (sym there.log) in
      subst (λ (n : ℕ). X ↔ (2 ^ 31 < n)) same full

-- ---- place by place

module _ (pools : List PoolSettings) (starts : ℕ → Base) (logs : Logs) (first : List (Option Tables)) where
  pub none_anew : length first ≡ length pools → AreAnewTo pools starts logs 0 first first
  none_anew counted = record {
    count = counted;
    before = λ p pool low found. absurd (omega (arith, low));
    others = λ p above. refl;
  }

  -- those at one place more
  pub more_anew : (place : ℕ) (old new : List (Option Tables)) → length new ≡ length old → AreAnewTo pools starts logs place first old → BeginsAnewAt pools starts logs place old new
      → AreAnewTo pools starts logs (place + 1) first new
  more_anew place old new counted so_far next = record {
    count = counted ∙ so_far.count;
    before = λ p pool low found. dite (ℕ_discrete p place)
        (λ same. subst (λ (n : ℕ). BeginsAnew pool (starts n) (logs n) (told_at first n) (told_at new n)) (sym same)
        (subst (λ (o : Option Tables). BeginsAnew pool (starts place) (logs place) o (told_at new place)) (so_far.others place (omega arith))
        (next.here pool (subst (λ (n : ℕ). slice_get pools n ≡ Some pool) same found))))
        (λ other. subst (λ (o : Option Tables). BeginsAnew pool (starts p) (logs p) (told_at first p) o) (sym (next.others p other))
        (so_far.before p pool (omega (arith, low, other)) found));
    others = λ p above. next.others p (λ same. absurd (omega (arith, above, same))) ∙ so_far.others p (omega (arith, above));
  }

-- machines have as many pools
pub pools_counted : {M : Type 0} (kept : M → MachineState) (machines : List M) → length (pools_of (map kept machines)) ≡ length machines
pools_counted kept machines = length-map (map kept machines) (λ (m : MachineState). m.pool.settings) ∙ length-map machines kept

-- what was done of those that are lent was done of each
pub lent_begun : {M : Type 0} (kept : M → MachineState) (machines lent : List M) (place : ℕ) (old new : List (Option Tables)) → lent ≡ machines
    → HaveBegunTo (map kept lent) place old new → HaveBegunTo (map kept machines) place old new
lent_begun {M = M} kept machines lent place old new same begun = subst (λ (l : List M). HaveBegunTo (map kept l) place old new) same begun

-- so it is of all
pub all_begun : {M : Type 0} (kept : M → MachineState) (machines lent : List M) (old new : List (Option Tables)) → lent ≡ machines
    → HaveBegunTo (map kept lent) (length lent) old new → HaveBegunTo (map kept machines) (length (pools_of (map kept machines))) old new
all_begun kept machines lent old new same begun =
    lent_begun kept machines lent (length (pools_of (map kept machines))) old new same
    (subst (λ (n : ℕ). HaveBegunTo (map kept lent) n old new) (ap length same ∙ sym (pools_counted kept machines)) begun)

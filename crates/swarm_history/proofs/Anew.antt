-- What the next start finds in records that began anew.
use Rattle.std.proofs.Common.{◌≡◌, ℕ, zero, suc, ◌≤◌, Bool, true, false, List, [], ◌∷◌, map, get_or, refl, sym, ap, subst, arith, Option, Some, None, IfSome}
use Rattle.std.proofs.lemmas.Bool.{ltb-true, ltb-false}
use Rattle.std.specs.Prelude.{IsSomeAnd, nat_lt, if◌then◌else◌, slice_get, option_map}
use Rattle.std.specs.List.{All}
use Rattle.swarm_history.specs.Types.{BlobRow, Done, Entry, PoolSettings, PoolState}
use Rattle.swarm_keeper.specs.Tables.{Tables, bytes_of}
use Rattle.swarm_model.specs.BaseRules.{IsBase}
use Rattle.swarm_model.specs.Bases.{Base, front}
use Rattle.swarm_model.specs.Bytes.{filled}
use Rattle.swarm_model.specs.History.{replay, IsLegal}
use Rattle.swarm_model.specs.MachineState.{MachineState, IsHistory}
use Rattle.swarm_model.specs.StateWeight.{state_weight}
use Rattle.pool_loading.specs.Records.{base_in, AreFilled, HasBase, IsLoaded, Restores}
use Rattle.pool_loading.proofs.Restoring.{restores}
use Rattle.pool_doors.specs.Doors.{Logs}
use Rattle.swarm_history.specs.Machines.{logs_of, pools_of, start_at, starts_of}
use Rattle.swarm_history.specs.Records.{AreRecordsOf, AreRestorable}
use Rattle.swarm_history.specs.Checkpoints.{anew, AreAnewTo, BeginsAnew, HaveBegunTo, base_anew, logs_anew, starts_anew, told_at}
use Rattle.swarm_history.proofs.Restoring.{of_lent, restorable}

-- ---- one pool

bytes_held : (s : PoolState) (digest : List ℕ) (o : Option (List ℕ)) → IsSomeAnd o (λ bytes. filled s digest bytes ≡ Done) → option_map (filled s digest) o ≡ Some Done
bytes_held s digest None has = absurd has
bytes_held s digest (Some bytes) has = ap Some has

-- Records that restored a log, and now have the lines of the rows to which it led.
module _ (pool : PoolSettings) (start : Base) (log : List Entry) (t : Tables) (has : HasBase pool (anew start log t) (replay start.rows log)) (before : Restores pool start log t) where
  abbrev rows : PoolState
  rows = replay start.rows log

  -- a machine of them
  abbrev kept : MachineState
  kept = record { start = base_anew start log; pool = rows; log = []; ready = None; held = λ digest. bytes_of t.blobs digest }

  legal : IsLegal rows []
  legal =
      let light : state_weight rows ≤ rows.settings.most_weight = subst (λ (p : PoolSettings). state_weight rows ≤ p.most_weight) (sym has.is_base.own) has.is_base.light in
      record { caused = tt; few = omega arith; light = omega (arith, light) }

  loaded : IsLoaded pool (Some (anew start log t)) kept
  loaded = record {
    settings_are = has.is_base.own;
    history = record { base = subst (λ (p : PoolSettings). IsBase p (front start log) rows) (sym has.is_base.own) has.is_base; replayed = refl; legal = legal };
    held = λ place d low. let row : BlobRow = get_or rows.blobs place d in bytes_held rows row.digest (bytes_of t.blobs row.digest) (before.bytes place d low);
    records = record {
      base = subst (λ (p : PoolSettings). base_in p (anew start log t).base ≡ Some rows) (sym has.is_base.own) has.told;
      count = refl;
      lines = refl;
      blobs = λ digest some. refl;
    };
  }

  anew_restores : Restores pool (base_anew start log) [] (anew start log t)
  anew_restores = restores pool (anew start log t) kept loaded

-- where they are told
told_restores : (pool : PoolSettings) (start : Base) (log : List Entry) (old new : Option Tables) → BeginsAnew pool start log old new → IfSome old (Restores pool start log)
    → IfSome new (Restores pool (base_anew start log) [])
told_restores pool start log None new begins before = subst (λ (o : Option Tables). IfSome o (Restores pool (base_anew start log) [])) (sym begins.told) tt
told_restores pool start log (Some t) new begins before =
    subst (λ (o : Option Tables). IfSome o (Restores pool (base_anew start log) [])) (sym begins.told)
    (anew_restores pool start log t (subst (λ (o : Option Tables). IfSome o (λ u. HasBase pool u (replay start.rows log))) begins.told begins.opens) before)

-- ---- place by place

-- what holds of what is told at a place
to_told : (R : Tables → Type 0) (tables : List (Option Tables)) (p : ℕ) → IfSome (slice_get tables p) (λ told. IfSome told R) → IfSome (told_at tables p) R
to_told R [] p holds = tt
to_told R (told ∷ tables) zero holds = holds
to_told R (told ∷ tables) (suc p) holds = to_told R tables p holds

of_told : (R : Tables → Type 0) (tables : List (Option Tables)) (p : ℕ) → IfSome (told_at tables p) R → IfSome (slice_get tables p) (λ told. IfSome told R)
of_told R [] p holds = tt
of_told R (told ∷ tables) zero holds = holds
of_told R (told ∷ tables) (suc p) holds = of_told R tables p holds

module _ (pools : List PoolSettings) (starts : ℕ → Base) (logs : Logs) (place : ℕ) (old new : List (Option Tables)) (begun : AreAnewTo pools starts logs place old new)
    (before : AreRestorable pools old starts logs) where
  abbrev There : PoolSettings → ℕ → Bool → Type 0
  There pool p early = IfSome (told_at new p) (Restores pool (if early then base_anew (starts p) (logs p) else starts p) (if early then [] else logs p))

  old_there : (p : ℕ) (pool : PoolSettings) → slice_get pools p ≡ Some pool → IfSome (told_at old p) (Restores pool (starts p) (logs p))
  old_there p pool is =
      to_told (Restores pool (starts p) (logs p)) old p
      (subst (λ (o : Option PoolSettings). IfSome o (λ it. IfSome (slice_get old p) (λ told. IfSome told (Restores it (starts p) (logs p))))) is (before p))

  new_there : (p : ℕ) (pool : PoolSettings) → slice_get pools p ≡ Some pool → (early : Bool) → nat_lt p place ≡ early → There pool p early
  new_there p pool is true early =
      told_restores pool (starts p) (logs p) (told_at old p) (told_at new p) (begun.before p pool (ltb-true p place early) is) (old_there p pool is)
  new_there p pool is false late =
      subst (λ (o : Option Tables). IfSome o (Restores pool (starts p) (logs p))) (sym (begun.others p (ltb-false p place late))) (old_there p pool is)

  pub anew_restorable : AreRestorable pools new (starts_anew place starts logs) (logs_anew place logs)
  anew_restorable p = by_pool (slice_get pools p) refl
    where
      by_pool : (o : Option PoolSettings) → slice_get pools p ≡ o
          → IfSome o (λ pool. IfSome (slice_get new p) (λ told. IfSome told (Restores pool (starts_anew place starts logs p) (logs_anew place logs p))))
      by_pool None is = tt
      by_pool (Some pool) is = of_told (Restores pool (starts_anew place starts logs p) (logs_anew place logs p)) new p (new_there p pool is (nat_lt p place) refl)

-- ---- machines, one for each pool

pub machines_restorable : {M : Type 0} (kept : M → MachineState) (machines lent : List M) (place : ℕ) (old new : List (Option Tables)) → lent ≡ machines → All IsHistory (map kept lent)
    → All AreFilled (map kept machines) → AreRecordsOf old (map kept machines) → HaveBegunTo (map kept machines) place old new
    → AreRestorable (pools_of (map kept machines)) new (starts_anew place (start_at (starts_of (map kept machines))) (logs_of (map kept machines))) (logs_anew place (logs_of (map kept machines)))
machines_restorable kept machines lent place old new same histories filled are begun =
    anew_restorable (pools_of (map kept machines)) (start_at (starts_of (map kept machines))) (logs_of (map kept machines)) place old new begun
    (restorable old (map kept machines) (of_lent kept IsHistory machines lent same histories) filled are)

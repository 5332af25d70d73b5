-- The outcomes that were taken, and the numbers of blobs, are kept by each entry.
use Rattle.std.proofs.Common.{◌≡◌, ℕ, ◌+◌, ◌≤◌, ◌<◌, ◌==◌, true, false, List, map, get_or, length, refl, sym, ap, ◌∙◌, subst, arith, Option, Some, None, IfSome, eqb-true}
use Rattle.std.specs.List.{All, AllPairs}
use Rattle.std.specs.Option.{option_map_or}
use Rattle.std.proofs.lemmas.List.{length-map, get_or-map}
use Rattle.std.proofs.lemmas.List.Elements.{All-map, All-filter, All-push, All-weaker}
use Rattle.std.proofs.lemmas.List.Kept.{AllPairs-filter}
use Rattle.std.proofs.lemmas.List.Quantifiers.{all_pairs_push}
use Rattle.pool_laws.specs.Types.{BlobRow, TaskRow, PoolState, Entry, EntryKind}
use Rattle.blob_rows.specs.BlobRows.{has_digest, is_other, renewed_until, longer_kept, new_blob}
use Rattle.blob_rows.proofs.Distinct.{no-renewed}
use Rattle.swarm_model.specs.declared.entry.EntryKind.TheVariants as kind
use Rattle.swarm_model.specs.Finding.{is_final, is_task, task_of}
use Rattle.swarm_model.specs.Reuse.{ended_well}
use Rattle.swarm_model.specs.Effects.{after, task_after, added_tasks, blobs_in, life, new_row}
use Rattle.swarm_model.specs.History.{MayFollow}
use Rattle.swarm_model.specs.Soundness.{IsSound}
use Rattle.swarm_model.specs.BaseRules.{HasOutcome, HaveOutcomes}
use Rattle.pool_laws.proofs.Lists.{Among, Found, each, each_one, find_is}
use Rattle.pool_laws.proofs.Preconditions.{Finds, FindsSource}
use Rattle.pool_laws.proofs.EntryPreconditions.{finds, fitting}
use Rattle.pool_laws.proofs.Rows.{all_tasks, find_task}
use Rattle.pool_laws.proofs.Origins.{Origin, origin_same}
use Rattle.pool_laws.proofs.Tracks.{final_same}
use Rattle.pool_laws.proofs.OutcomeLaw.{ended_final, stays_there}
use Rattle.pool_laws.proofs.Sound.{sound_after}
use Rattle.pool_laws.proofs.BlobChanges.{BlobSteps, blobs_by}

module _ (s : PoolState) (e : Entry) (o : IsSound s) (follows : MayFollow s e) where
  -- ---- outcomes that were taken

  -- the source of an outcome stays there
  outcome_still : (x : TaskRow) (n : ℕ) → HasOutcome s x n → HasOutcome (after s e) x n
  outcome_still x n h = record { completed = h.completed; no_run = h.no_run; source = by_row (task_of s n) refl h.source }
    where
      by_row : (r : Option TaskRow) → task_of s n ≡ r → option_map_or ended_well r false ≡ true → option_map_or ended_well (task_of (after s e) n) false ≡ true
      by_row None is t = absurd (cc (t))
      by_row (Some y) is t =
          (let f : Found (is_task n) s.tasks y = find_is (is_task n) s.tasks y is in
          ap (λ (r : Option TaskRow). option_map_or ended_well r false)
          (find_task (after s e) (sound_after s e o follows) y n (stays_there s e o follows y f.among (ended_final y t)) (eqb-true y.no n f.passes)) ∙ t)

  -- a row that took one is final, so it stays as it is
  row_outcome : (x : TaskRow) → Among x s.tasks → IfSome x.source (HasOutcome s x) → IfSome (task_after s e.moment e.kind x).source (HasOutcome (after s e) (task_after s e.moment e.kind x))
  row_outcome x a h = by_source x.source refl h
    where
      y : TaskRow
      y = task_after s e.moment e.kind x

      by_source : (r : Option ℕ) → x.source ≡ r → IfSome r (HasOutcome s x) → IfSome y.source (HasOutcome (after s e) y)
      by_source None is g =
          subst (λ (r : Option ℕ). IfSome r (HasOutcome (after s e) y)) (sym (ap (λ (z : Origin). z.source) (origin_same s e.moment e.kind o (finds s e follows) x a) ∙ is)) tt
      by_source (Some n) is g =
          (let final : is_final x.state ≡ true = ap is_final g.completed in
          let as_was : y ≡ x = final_same s e.moment e.kind o (finds s e follows) x a final in
          subst (λ (z : TaskRow). IfSome z.source (HasOutcome (after s e) z)) (sym as_was)
          (subst (λ (r : Option ℕ). IfSome r (HasOutcome (after s e) x)) (sym is) (outcome_still x n g)))

  -- and a new one takes that of a row that is there
  added_outcome : (k : EntryKind) → Finds s k → (x : TaskRow) → Among x (added_tasks e.moment k) → IfSome x.source (HasOutcome (after s e) x)
  added_outcome (kind.New t who request state slice from) g x a =
      each_one (λ (y : TaskRow). IfSome y.source (HasOutcome (after s e) y)) (new_row e.moment t who request state slice from) (by_from from g.takes) x a
    where
      by_from : (r : Option ℕ) → IfSome r (FindsSource s request state slice) → IfSome r (HasOutcome (after s e) (new_row e.moment t who request state slice from))
      by_from None h = tt
      by_from (Some n) h =
          record {
            completed = h.completed;
            no_run = refl;
            source = ap (λ (r : Option TaskRow). option_map_or ended_well r false)
                (find_task (after s e) (sound_after s e o follows) h.source n (stays_there s e o follows h.source h.among (ended_final h.source h.ended)) h.named) ∙ h.ended;
          }
  added_outcome k g x a = elim a [ ]

  pub outcomes_after : HaveOutcomes s → HaveOutcomes (after s e)
  outcomes_after h =
      all_tasks (λ (x : TaskRow). IfSome x.source (HasOutcome (after s e) x)) s e.moment e.kind
      (λ x a. row_outcome x a (each (λ (y : TaskRow). IfSome y.source (HasOutcome s y)) s.tasks h x a)) (added_outcome e.kind (finds s e follows))

  -- ---- blobs by their numbers

  -- what each step keeps holds after the entry
  pub steps : (P : List BlobRow → ℕ → Type 0) → BlobSteps P s e.moment e.kind → P (after s e).blobs (after s e).placed
  steps P p = blobs_by P s e.moment e.kind (finds s e follows) (fitting s e follows) p

  abbrev FromOne : BlobRow → Type 0
  FromOne blob = 1 ≤ blob.no

  pub blobs_from : All FromOne s.blobs → All FromOne (after s e).blobs
  blobs_from h =
      steps (λ rows placed. All FromOne rows) (record {
        same = h;
        renews = λ digest. All-map FromOne (renewed_until (e.moment + life s) digest) s.blobs
            (All-weaker FromOne (λ x. FromOne (renewed_until (e.moment + life s) digest x)) (λ x low. let its = no-renewed (has_digest digest x) (e.moment + life s) x in omega (arith, low, its)) s.blobs h);
        keeps = λ n is. All-map FromOne (longer_kept (life s) n) s.blobs
            (All-weaker FromOne (λ x. FromOne (longer_kept (life s) n x)) (λ x low. let its = no-renewed (x.no == n) (x.deadline + life s) x in omega (arith, low, its)) s.blobs h);
        removes = λ n is. All-filter (is_other n) FromOne s.blobs h;
        places = λ digest size place p. All-push FromOne s.blobs (new_blob (blobs_in s) (e.moment + life s) digest size place) h (omega arith);
      })

  abbrev Rise : List BlobRow → Type 0
  Rise rows = AllPairs (λ a b. a.no < b.no) rows

  -- rows that keep their numbers
  rise_changed : (change : BlobRow → BlobRow) → ((row : BlobRow) → (change row).no ≡ row.no) → (rows : List BlobRow) → Rise rows → Rise (map change rows)
  rise_changed change same rows rising i j d less low =
      let far : j < length rows = omega (arith, low, length-map rows change) in
      let one : (get_or (map change rows) i d).no ≡ (get_or rows i d).no = ap (λ (r : BlobRow). r.no) (get_or-map change rows i d d (omega (arith, less, far))) ∙ same (get_or rows i d) in
      let two : (get_or (map change rows) j d).no ≡ (get_or rows j d).no = ap (λ (r : BlobRow). r.no) (get_or-map change rows j d d far) ∙ same (get_or rows j d) in
      let old = rising i j d less far in
      omega (arith, one, two, old)

  pub rise_after : Rise s.blobs → Rise (after s e).blobs
  rise_after h =
      steps (λ rows placed. Rise rows) (record {
        same = h;
        renews = λ digest. rise_changed (renewed_until (e.moment + life s) digest) (λ row. no-renewed (has_digest digest row) (e.moment + life s) row) s.blobs h;
        keeps = λ n is. rise_changed (longer_kept (life s) n) (λ row. no-renewed (row.no == n) (row.deadline + life s) row) s.blobs h;
        removes = λ n is. AllPairs-filter (λ (a b : BlobRow). a.no < b.no) (is_other n) s.blobs h;
        places = λ digest size place p. all_pairs_push (λ (a b : BlobRow). a.no < b.no) s.blobs (new_blob (blobs_in s) (e.moment + life s) digest size place) h
            (λ k d low. let old : (get_or s.blobs k d).no ≤ s.placed = (o.blobs k d low).placed in omega (arith, old));
      })

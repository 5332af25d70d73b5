-- The rows of blobs stay sound.
use Rattle.std.proofs.Common.{◌≡◌, ℕ, ◌+◌, ◌≤◌, ◌==◌, true, List, [], ◌∷◌, map, length, refl, sym, ap, ◌∙◌, subst, arith}
use Rattle.std.specs.List.{All}
use Rattle.std.proofs.lemmas.Bool.{cond_both}
use Rattle.std.proofs.lemmas.Option.{same_Some}
use Rattle.std.proofs.lemmas.List.{length-map, length-append}
use Rattle.std.proofs.lemmas.List.Sums.{length-filter, count_by-le-length}
use Rattle.std.proofs.lemmas.List.Elements.{All-map, All-filter, All-push, All-weaker}
use Rattle.pool_laws.specs.Types.{BlobRow, PoolState, PoolSettings, Entry}
use Rattle.blob_rows.specs.BlobRows.{has_digest, is_blob, is_other, extent_of_row, renewed, renewed_until, longer_kept, new_blob}
use Rattle.blob_rows.proofs.Distinct.{stored-renewed, no-renewed}
use Rattle.blob_rows.specs.Extents.{AreApart}
use Rattle.swarm_model.specs.declared.entry.EntryKind.TheVariants as kind
use Rattle.swarm_model.specs.Blobs.{most_blobs}
use Rattle.swarm_model.specs.Effects.{life, blobs_in, after}
use Rattle.swarm_model.specs.History.{MayFollow}
use Rattle.swarm_model.specs.Soundness.{IsSound, IsSoundBlob}
use Rattle.pool_laws.proofs.Lists.{Among, each, all, found_once}
use Rattle.pool_laws.proofs.Preconditions.{FindsBlob}
use Rattle.pool_laws.proofs.EntryPreconditions.{finds, fitting, finds_blob}
use Rattle.pool_laws.proofs.Bots.{settings_same}
use Rattle.pool_laws.proofs.BlobLists.{AreDistinct, distinct_changed, distinct_filtered, distinct_added, apart_changed, apart_filtered, apart_added, place_is}
use Rattle.pool_laws.proofs.BlobChanges.{BlobSteps, blobs_by}

-- the pool at a moment, with so many blobs placed
abbrev pool_at : PoolState → ℕ → ℕ → PoolState
pool_at s m placed = record s { last = m; placed = placed }

module _ (s : PoolState) (e : Entry) (o : IsSound s) (follows : MayFollow s e) where
  abbrev m : ℕ
  m = e.moment

  abbrev Holds : (List BlobRow → ℕ → Type 0) → Type 0
  Holds P = P (after s e).blobs (after s e).placed

  steps : (P : List BlobRow → ℕ → Type 0) → BlobSteps P s m e.kind → Holds P
  steps P p = blobs_by P s m e.kind (finds s e follows) (fitting s e follows) p

  -- a blob that is kept longer was due
  kept_due : (n : ℕ) → e.kind ≡ kind.Blob n true → (x : BlobRow) → Among x s.blobs → (x.no == n) ≡ true → x.deadline ≡ m
  kept_due n is x a named =
      let f : FindsBlob s m n true = finds_blob s o e n true follows is in
      let same : x ≡ f.blob = same_Some _ _ (sym (found_once (is_blob n) s.blobs x a named (o.numbers n)) ∙ f.there) in
      ap (λ (y : BlobRow). y.deadline) same ∙ f.come

  -- ---- how many

  pub blobs_few : length (after s e).blobs ≤ most_blobs
  blobs_few =
      steps (λ rows placed. length rows ≤ most_blobs) (record {
        same = o.few_blobs;
        renews = λ digest. let few = o.few_blobs in omega (arith, few, length-map s.blobs (renewed_until (m + life s) digest));
        keeps = λ n is. let few = o.few_blobs in omega (arith, few, length-map s.blobs (longer_kept (life s) n));
        removes = λ n is. let few = o.few_blobs in omega (arith, few, length-filter (is_other n) s.blobs, count_by-le-length (is_other n) s.blobs);
        places = λ digest size place p. let few = p.few in let more = length-append s.blobs (new_blob (blobs_in s) (m + life s) digest size place ∷ []) in omega (arith, few, more);
      })

  -- ---- each

  -- at the entry's moment each blob is as it was
  each_now : All (IsSoundBlob (pool_at s m s.placed)) s.blobs
  each_now =
      All-weaker (IsSoundBlob s) (IsSoundBlob (pool_at s m s.placed))
      (λ x b. record { units = b.units; inside = b.inside; placed = b.placed; size = b.size; deadline = let old = b.deadline in let before = follows.not_before in omega (arith, old, before) })
      s.blobs o.blobs

  is_now : (x : BlobRow) → Among x s.blobs → IsSoundBlob (pool_at s m s.placed) x
  is_now x a = each (IsSoundBlob (pool_at s m s.placed)) s.blobs each_now x a

  -- with a deadline that is near enough
  until : (x : BlobRow) (deadline : ℕ) → deadline ≤ m + life s → IsSoundBlob (pool_at s m s.placed) x → IsSoundBlob (pool_at s m s.placed) (renewed deadline x)
  until x deadline near b = record { units = b.units; inside = b.inside; placed = b.placed; size = b.size; deadline = near }

  each_then : All (IsSoundBlob (pool_at s m (after s e).placed)) (after s e).blobs
  each_then =
      steps (λ rows placed. All (IsSoundBlob (pool_at s m placed)) rows) (record {
        same = each_now;
        renews = λ digest. All-map (IsSoundBlob (pool_at s m s.placed)) (renewed_until (m + life s) digest) s.blobs
            (all (λ x. IsSoundBlob (pool_at s m s.placed) (renewed_until (m + life s) digest x)) s.blobs
            (λ x a. cond_both (has_digest digest x) (renewed (m + life s) x) x (IsSoundBlob (pool_at s m s.placed)) (λ t. until x (m + life s) (omega arith) (is_now x a)) (λ t. is_now x a)));
        keeps = λ n is. All-map (IsSoundBlob (pool_at s m s.placed)) (longer_kept (life s) n) s.blobs
            (all (λ x. IsSoundBlob (pool_at s m s.placed) (longer_kept (life s) n x)) s.blobs
            (λ x a. cond_both (x.no == n) (renewed (x.deadline + life s) x) x (IsSoundBlob (pool_at s m s.placed))
            (λ t. until x (x.deadline + life s) (let due = kept_due n is x a t in omega (arith, due)) (is_now x a)) (λ t. is_now x a)));
        removes = λ n is. All-filter (is_other n) (IsSoundBlob (pool_at s m s.placed)) s.blobs each_now;
        places = λ digest size place p.
            All-push (IsSoundBlob (pool_at s m (s.placed + 1))) s.blobs (new_blob (blobs_in s) (m + life s) digest size place)
            (All-weaker (IsSoundBlob (pool_at s m s.placed)) (IsSoundBlob (pool_at s m (s.placed + 1)))
            (λ x b. record { units = b.units; inside = b.inside; placed = let low = b.placed in omega (arith, low); size = b.size; deadline = b.deadline }) s.blobs each_now)
            (record { units = refl; inside = (place_is (blobs_in s) size place p.found).inside; placed = omega arith; size = p.short; deadline = omega arith });
      })

  pub blobs_sound : All (IsSoundBlob (after s e)) (after s e).blobs
  blobs_sound =
      All-weaker (IsSoundBlob (pool_at s m (after s e).placed)) (IsSoundBlob (after s e))
      (λ x b. record {
        units = b.units;
        inside = subst (λ (settings : PoolSettings). x.extent.at + x.extent.units ≤ settings.store_units) (sym (settings_same s m e.kind)) b.inside;
        placed = b.placed;
        size = b.size;
        deadline = subst (λ (settings : PoolSettings). x.deadline ≤ m + settings.blob_life_secs) (sym (settings_same s m e.kind)) b.deadline;
      }) (after s e).blobs each_then

  -- ---- no digest and no number twice

  old_distinct : AreDistinct s.blobs s.placed
  old_distinct = record { digests = o.digests; numbers = o.numbers; below = All-weaker (IsSoundBlob s) (λ (x : BlobRow). x.no ≤ s.placed) (λ x b. b.placed) s.blobs o.blobs }

  pub blobs_distinct : AreDistinct (after s e).blobs (after s e).placed
  blobs_distinct =
      steps AreDistinct (record {
        same = old_distinct;
        renews = λ digest. distinct_changed s.blobs s.placed old_distinct (renewed_until (m + life s) digest) (λ row. stored-renewed (has_digest digest row) (m + life s) row) (λ row. no-renewed (has_digest digest row) (m + life s) row);
        keeps = λ n is. distinct_changed s.blobs s.placed old_distinct (longer_kept (life s) n) (λ row. stored-renewed (row.no == n) (row.deadline + life s) row) (λ row. no-renewed (row.no == n) (row.deadline + life s) row);
        removes = λ n is. distinct_filtered s.blobs s.placed old_distinct (is_other n);
        places = λ digest size place p. distinct_added s.blobs s.placed old_distinct (new_blob (blobs_in s) (m + life s) digest size place) refl p.absent;
      })

  -- ---- no unit twice

  pub blobs_apart : AreApart (map extent_of_row (after s e).blobs)
  blobs_apart =
      steps (λ rows placed. AreApart (map extent_of_row rows)) (record {
        same = o.apart;
        renews = λ digest. apart_changed (renewed_until (m + life s) digest) (λ row. stored-renewed (has_digest digest row) (m + life s) row) s.blobs o.apart;
        keeps = λ n is. apart_changed (longer_kept (life s) n) (λ row. stored-renewed (row.no == n) (row.deadline + life s) row) s.blobs o.apart;
        removes = λ n is. apart_filtered (is_other n) s.blobs o.apart;
        places = λ digest size place p. apart_added s.blobs (new_blob (blobs_in s) (m + life s) digest size place) (place_is (blobs_in s) size place p.found).free o.apart;
      })

  -- ---- deadlines

  -- where no deadline lay before the entry, none does after it
  pub blobs_ahead : All (λ (x : BlobRow). m ≤ x.deadline) s.blobs → All (λ (x : BlobRow). m ≤ x.deadline) (after s e).blobs
  blobs_ahead ahead =
      steps (λ rows placed. All Ahead rows) (record {
        same = ahead;
        renews = λ digest. All-map Ahead (renewed_until (m + life s) digest) s.blobs
            (all (λ x. Ahead (renewed_until (m + life s) digest x)) s.blobs (λ x a. cond_both (has_digest digest x) (renewed (m + life s) x) x Ahead (λ t. omega arith) (λ t. each Ahead s.blobs ahead x a)));
        keeps = λ n is. All-map Ahead (longer_kept (life s) n) s.blobs
            (all (λ x. Ahead (longer_kept (life s) n x)) s.blobs
            (λ x a. cond_both (x.no == n) (renewed (x.deadline + life s) x) x Ahead (λ t. let low = each Ahead s.blobs ahead x a in omega (arith, low)) (λ t. each Ahead s.blobs ahead x a)));
        removes = λ n is. All-filter (is_other n) Ahead s.blobs ahead;
        places = λ digest size place p. All-push Ahead s.blobs (new_blob (blobs_in s) (m + life s) digest size place) ahead (omega arith);
      })
    where
      Ahead : BlobRow → Type 0
      Ahead x = m ≤ x.deadline

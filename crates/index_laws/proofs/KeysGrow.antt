-- Claims and uuids come with the entries that bring them, and stay.
use Rattle.std.proofs.Common.{◌≡◌, ℕ, ◌==◌, ◌⊎◌, inl, inr, true, false, [], ◌∷◌, ◌++◌, map, refl, sym, ap, ◌∙◌, subst, Option, Some, None, eqb-true, List, cond}
use Rattle.std.specs.Option.{option_map}
use Rattle.std.proofs.lemmas.Bool.{cond_both, eq-eqb}
use Rattle.std.proofs.lemmas.Option.{same_Some}
use Rattle.dimensions.specs.Rules.{is_empty}
use Rattle.index_laws.specs.Types.{Attempt, Retried, TaskState, Pending, TaskRow, PoolState, Entry, EntryKind, Outcome}
use Rattle.swarm_model.specs.declared.entry.EntryKind.TheVariants as kind
use Rattle.swarm_model.specs.declared.entry.Outcome.TheVariants as outcome
use Rattle.swarm_model.specs.Finding.{is_state}
use Rattle.swarm_model.specs.Deadlines.{next_of}
use Rattle.swarm_model.specs.Effects.{task_after, added_tasks, expired_slice, retried_run, killed, with_chunk, with_last_report, started_run, new_row, after}
use Rattle.swarm_model.specs.History.{MayFollow}
use Rattle.swarm_model.specs.Soundness.{IsSound, key_of, claim_key, lost_key, HasKey}
use Rattle.pool_laws.proofs.Lists.{Among, each_one, among_left, among_right, among_map, here}
use Rattle.pool_laws.proofs.Preconditions.{Finds, HasTask, waits}
use Rattle.pool_laws.proofs.EntryPreconditions.{finds}
use Rattle.pool_laws.proofs.Rows.{task_is, row_is, task_by, lost_is, claim_waits, fits_in}
use Rattle.pool_laws.proofs.Origins.{Origin, origin_same}
use Rattle.pool_laws.proofs.Claimed.{key_in, is_claiming, key_kept, again_key, key_before}
use Rattle.pool_laws.proofs.Numbers.{task_no}
use Rattle.index_laws.specs.Keys.{IsKnown, IsKey, KeysGrow}
use Rattle.index_laws.specs.TaskClaims.{Claimed, IsClaimOf, claim_to_come}
use Rattle.index_laws.specs.TaskUuids.{Sent, sent_of, uuid_to_come}
use Rattle.index_laws.proofs.Keys.{grows, contains_of}
use Rattle.index_laws.proofs.LostRuns.{none_before}

-- ---- the claims of the runs of a row

-- a task that waits has no run
none_yet : (state : TaskState) (attempt : Option Attempt) (ended : Option ℕ) → fits_in state attempt ended ≡ true → is_state state Pending ≡ true → key_in attempt ≡ None
none_yet state None ended h w = refl
none_yet Pending (Some a) ended h w = absurd (cc (h))
none_yet state (Some a) ended h w = absurd (cc (w))

-- a run that is tried again keeps its claim, and none was before it
again_stays : (m : ℕ) (x : TaskRow) (p : ℕ × List ℕ) → x.retried ≡ None → HasKey x p → HasKey (retried_run m x) p
again_stays m x p none (inl h) = inr (again_key m x.slice x.attempt ∙ h)
again_stays m x p none (inr h) = absurd (let gone : lost_key x ≡ None = ap (option_map (λ (lost : Retried). key_of lost.attempt)) none in cc (gone, h))

module _ (s : PoolState) (m : ℕ) (o : IsSound s) where
  -- only a claim changes the claims of a row: where none comes, each stays
  key_stays : (k : EntryKind) → Finds s k → is_claiming k ≡ false → (x : TaskRow) → Among x s.tasks → (p : ℕ × List ℕ) → HasKey x p → HasKey (task_after s m k x) p
  key_stays k f q x a p =
      task_by (λ (y : TaskRow). HasKey x p → HasKey y p) s m o x a k f (record {
        same = λ h. h;
        moves = λ w h. by_outcome (next_of s x) h;
        loses = λ w. lost_is (λ (y : TaskRow). HasKey x p → HasKey y p) s.settings.retries m x (λ t. again_stays m x p (none_before s o x a t)) (λ t h. h);
        begins = λ b t id is found w own. absurd (cc (q, ap is_claiming is));
        cancels = λ w h. h;
        marks = λ w h. changed killed (λ a. refl) x h;
        grows = λ chunk fresh g w h. changed (with_chunk chunk) (λ a. refl) x h;
        finishes = λ chunk last report y w e h. changed (with_last_report chunk last) (λ a. refl) y (e h);
      })
    where
      by_outcome : (to : Outcome) → HasKey x p → HasKey (expired_slice m to x) p
      by_outcome (outcome.Slice place) h = h
      by_outcome (outcome.Ended state) h = h

      changed : (g : Attempt → Attempt) → ((r : Attempt) → key_in (Some (g r)) ≡ key_in (Some r)) → (y : TaskRow) → HasKey y p → (key_in (option_map g y.attempt) ≡ Some p) ⊎ (lost_key y ≡ Some p)
      changed g kept y (inl h) = inl (key_kept g kept y.attempt ∙ h)
      changed g kept y (inr h) = inr h

  claim_stays : (k : EntryKind) → Finds s k → (x : TaskRow) → Among x s.tasks → (c : Claimed) → IsClaimOf x c → IsClaimOf (task_after s m k x) c
  claim_stays k f x a c h = (by_kind k f h.0, task_no s m k o f x a ∙ h.1)
    where
      by_kind : (k : EntryKind) → Finds s k → HasKey x (c.0, c.1) → HasKey (task_after s m k x) (c.0, c.1)
      by_kind (kind.Claim b t id) f g =
          cond_both (x.no == t) (started_run m b id x) x (λ (z : TaskRow). HasKey z (c.0, c.1))
          (λ n. begun (none_yet x.state x.attempt x.ended (task_is s o x a).state (row_is s o t waits (claim_waits s b t id f) x a n)) g) (λ n. g)
        where
          begun : claim_key x ≡ None → HasKey x (c.0, c.1) → HasKey (started_run m b id x) (c.0, c.1)
          begun none (inl e) = absurd (cc (none, e))
          begun none (inr e) = inr e
      by_kind k f g = key_stays k f refl x a (c.0, c.1) g

  claim_from : (k : EntryKind) → Finds s k → (x : TaskRow) → Among x s.tasks → (c : Claimed) → IsClaimOf (task_after s m k x) c → IsClaimOf x c ⊎ (claim_to_come k ≡ Some c)
  claim_from (kind.Claim b t id) f x a c h =
      cond_both (x.no == t) (started_run m b id x) x (λ (z : TaskRow). IsClaimOf z c → IsClaimOf x c ⊎ (Some (b, id, t) ≡ Some c))
      (λ n g. begun (eqb-true x.no t n) g.0 g.1) (λ n g. inl g) h
    where
      begun : x.no ≡ t → HasKey (started_run m b id x) (c.0, c.1) → x.no ≡ c.2 → IsClaimOf x c ⊎ (Some (b, id, t) ≡ Some c)
      begun n (inl e) is =
          (let both : (b, id) ≡ (c.0, c.1) = same_Some _ _ e in
          inr (ap (λ (p : ℕ × List ℕ). Some (p.0, p.1, t)) both ∙ ap (λ (j : ℕ). Some (c.0, c.1, j)) (sym n ∙ is)))
      begun n (inr e) is = inl (inr e, is)
  claim_from k f x a c h = inl (key_before s m k o f refl x a (c.0, c.1) h.0, sym (task_no s m k o f x a) ∙ h.1)

  claim_added : (k : EntryKind) → (x : TaskRow) → Among x (added_tasks m k) → (c : Claimed) → IsClaimOf x c → claim_to_come k ≡ Some c
  claim_added (kind.New t who request state slice from) x a c h =
      absurd (each_one (λ (y : TaskRow). HasKey y (c.0, c.1) → ⊥) (new_row m t who request state slice from) none x a h.0)
    where
      none : HasKey (new_row m t who request state slice from) (c.0, c.1) → ⊥
      none (inl e) = cc (e)
      none (inr e) = cc (e)
  claim_added k x a c h = elim a [ ]

  claim_comes : (k : EntryKind) → Finds s k → (c : Claimed) → claim_to_come k ≡ Some c → IsKnown IsClaimOf (map (task_after s m k) s.tasks ++ added_tasks m k) c
  claim_comes (kind.Claim b t id) f c h =
      let w : HasTask s t waits = claim_waits s b t id f in
      let g : TaskRow → TaskRow = task_after s m (kind.Claim b t id) in
      let its : Claimed = (b, id, t) in
      let is : its ≡ c = same_Some _ _ h in
      record {
        task = g w.task;
        among = contains_of _ (g w.task) (among_left (g w.task) (map g s.tasks) [] (among_map g s.tasks w.task w.among));
        keyed = cond_both (w.task.no == t) (started_run m b id w.task) w.task (λ (z : TaskRow). IsClaimOf z c)
            (λ n. subst (IsClaimOf (started_run m b id w.task)) is (inl refl, w.named)) (λ n. absurd (let y : (w.task.no == t) ≡ true = eq-eqb w.task.no t w.named in cc (n, y)));
      }
  claim_comes k f c h = absurd (cc (h))

  -- no entry changes the uuid of a row
  sent_same : (k : EntryKind) → Finds s k → (x : TaskRow) → Among x s.tasks → sent_of (task_after s m k x) ≡ sent_of x
  sent_same k f x a =
      ap (λ (z : Origin). cond {A = Option Sent} (is_empty z.request.request_uuid) None (Some (z.creator, z.request.request_uuid, z.no))) (origin_same s m k o f x a)

  sent_added : (k : EntryKind) → (x : TaskRow) → Among x (added_tasks m k) → (p : Sent) → sent_of x ≡ Some p → uuid_to_come k ≡ Some p
  sent_added (kind.New t who request state slice from) x a p h =
      each_one (λ (y : TaskRow). sent_of y ≡ Some p → uuid_to_come (kind.New t who request state slice from) ≡ Some p) (new_row m t who request state slice from) (λ g. g) x a h
  sent_added k x a p h = elim a [ ]

  sent_comes : (k : EntryKind) → (p : Sent) → uuid_to_come k ≡ Some p → IsKnown (IsKey sent_of) (map (task_after s m k) s.tasks ++ added_tasks m k) p
  sent_comes (kind.New t who request state slice from) p h =
      let row : TaskRow = new_row m t who request state slice from in
      let g : TaskRow → TaskRow = task_after s m (kind.New t who request state slice from) in
      record { task = row; among = contains_of _ row (among_right row (map g s.tasks) (row ∷ []) here); keyed = h }
  sent_comes k p h = absurd (cc (h))

pub claims_grow : (s : PoolState) (e : Entry) → IsSound s → MayFollow s e → KeysGrow IsClaimOf (claim_to_come e.kind) s.tasks (after s e).tasks
claims_grow s e o follows =
    let f = finds s e follows in
    grows s e o follows IsClaimOf (claim_to_come e.kind) (claim_stays s e.moment o e.kind f) (claim_from s e.moment o e.kind f) (claim_added s e.moment o e.kind) (claim_comes s e.moment o e.kind f)

pub uuids_grow : (s : PoolState) (e : Entry) → IsSound s → MayFollow s e → KeysGrow (IsKey sent_of) (uuid_to_come e.kind) s.tasks (after s e).tasks
uuids_grow s e o follows =
    let f = finds s e follows in
    grows s e o follows (IsKey sent_of) (uuid_to_come e.kind) (λ x a p h. sent_same s e.moment o e.kind f x a ∙ h) (λ x a p h. inl (sym (sent_same s e.moment o e.kind f x a) ∙ h))
    (sent_added s e.moment o e.kind) (sent_comes s e.moment o e.kind)

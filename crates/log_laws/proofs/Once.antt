-- A log accepts at most one task of a caller under a uuid.
use Rattle.std.proofs.Common.{◌≡◌, inl, inr, ℕ, ◌+◌, ◌==◌, ◌≤◌, List, [], ◌∷◌, ◌++◌, refl, sym, ap, ◌∙◌, subst, cond, true, false, Bool, Option, map, count_by, arith, true≢false}
use Rattle.std.specs.Prelude.{◌&&◌, ◌⊎◌}
use Rattle.std.specs.List.{list_any}
use Rattle.std.proofs.lemmas.Bool.{and_parts, and_from, eq-eqb}
use Rattle.std.proofs.lemmas.List.Sums.{sum_by-cons}
use Rattle.dimensions.specs.Alike.{same}
use Rattle.dimensions.specs.Rules.{is_empty}
use Rattle.log_laws.specs.Types.{NewTask, TaskState, TaskRow, PoolState, Entry, EntryKind}
use Rattle.swarm_model.specs.declared.entry.EntryKind.TheVariants as kind
use Rattle.swarm_model.specs.Effects.{task_after, added_tasks, new_row, after}
use Rattle.swarm_model.specs.History.{MayFollow, IsCaused, replay}
use Rattle.swarm_model.specs.Soundness.{IsSound}
use Rattle.pool_laws.proofs.Lists.{Among, here, each_append, each_map, each_one, among_right}
use Rattle.pool_laws.proofs.Preconditions.{Finds}
use Rattle.pool_laws.proofs.EntryPreconditions.{finds}
use Rattle.pool_laws.proofs.Numbers.{task_no}
use Rattle.pool_laws.proofs.Sound.{sound_after}
use Rattle.pool_laws.proofs.Alike.{same_is, is_same}
use Rattle.pool_laws.proofs.UuidLaw.{IsKeyed, key_tells, key_from, key_same, unsent_new}
use Rattle.pool_laws.proofs.Tracks.{still_among}
use Rattle.log_laws.specs.Sent.{sends, sends_kind, sends_as, sends_kind_as}

module _ (who uuid : List ℕ) (named : is_empty uuid ≡ false) where
  -- the pool has a row of the key
  pub record HasRow (s : PoolState) (t : ℕ) : Type 0 where
    pub row : TaskRow
    pub among : Among row s.tasks
    pub keyed : IsKeyed row who uuid
    pub numbered : row.no ≡ t

  kept_key : (s : PoolState) (e : Entry) → IsSound s → MayFollow s e → (x : TaskRow) → Among x s.tasks → IsKeyed x who uuid → IsKeyed (task_after s e.moment e.kind x) who uuid
  kept_key s e o follows x a keyed = key_tells _ who uuid (key_same s e.moment e.kind o (finds s e follows) x a ∙ key_from x who uuid keyed)

  has_still : (s : PoolState) (e : Entry) (t : ℕ) → IsSound s → MayFollow s e → HasRow s t → HasRow (after s e) t
  has_still s e t o follows h = record {
    row = task_after s e.moment e.kind h.row;
    among = still_among s e h.row h.among;
    keyed = kept_key s e o follows h.row h.among h.keyed;
    numbered = task_no s e.moment e.kind o (finds s e follows) h.row h.among ∙ h.numbered;
  }

  -- what an entry that accepts the task adds
  keyed_new : (m t : ℕ) (caller : List ℕ) (request : NewTask) (state : TaskState) (slice : ℕ) (from : Option ℕ) → (same caller who && same request.request_uuid uuid) ≡ true
      → IsKeyed (new_row m t caller request state slice from) who uuid
  keyed_new m t caller request state slice from e =
      let both = and_parts (same caller who) (same request.request_uuid uuid) e in
      record { not_empty = named; by = same_is caller who both.0; under = same_is request.request_uuid uuid both.1 }

  -- where the pool has the row, no entry accepts the task again
  none_again : (s : PoolState) (k : EntryKind) (t : ℕ) → Finds s k → HasRow s t → sends_kind who uuid k ≡ true → ⊥
  none_again s (kind.New u caller request state slice from) t f h e =
      (let both = and_parts (same caller who) (same request.request_uuid uuid) e in
      unsent_new s caller request.request_uuid f.unsent h.row h.among (who, uuid) h.keyed (same_is caller who both.0) (same_is request.request_uuid uuid both.1))
  none_again s k t f h e = elim (true≢false (sym e)) [ ]

  not_again : (s : PoolState) (k : EntryKind) (t : ℕ) → Finds s k → HasRow s t → (b : Bool) → sends_kind who uuid k ≡ b → b ≡ false
  not_again s k t f h true e = elim (none_again s k t f h e) [ ]
  not_again s k t f h false e = refl

  count_cons : (e : Entry) (log : List Entry) (b : Bool) → sends who uuid e ≡ b → count_by (sends who uuid) (e ∷ log) ≡ cond b 1 0 + count_by (sends who uuid) log
  count_cons e log b is = sum_by-cons (λ (x : Entry). cond (sends who uuid x) 1 0) e log ∙ ap (λ (c : Bool). cond c 1 0 + count_by (sends who uuid) log) is

  pub quiet : (s : PoolState) (log : List Entry) (t : ℕ) → IsSound s → IsCaused s log → HasRow s t → count_by (sends who uuid) log ≡ 0
  quiet s [] t o caused h = refl
  quiet s (e ∷ log) t o caused h =
      (let first = count_cons e log false (not_again s e.kind t (finds s e caused.0) h _ refl) in
      let rest = quiet (after s e) log t (sound_after s e o caused.0) caused.1 (has_still s e t o caused.0 h) in
      omega (arith, first, rest))

  has_now : (s : PoolState) (e : Entry) (k : EntryKind) → e.kind ≡ k → sends_kind who uuid k ≡ true → (t : ℕ) × HasRow (after s e) t
  has_now s e (kind.New t caller request state slice from) is b = (
    t,
    record {
      row = new_row e.moment t caller request state slice from;
      among = subst (λ (k : EntryKind). Among (new_row e.moment t caller request state slice from) (map (task_after s e.moment e.kind) s.tasks ++ added_tasks e.moment k)) (sym is) (among_right _ (map (task_after s e.moment e.kind) s.tasks) _ here);
      keyed = keyed_new e.moment t caller request state slice from b;
      numbered = refl;
    },
  )
  has_now s e k is b = elim (true≢false (sym b)) [ ]

  fewer : (s : PoolState) (e : Entry) (log : List Entry) → IsSound s → IsCaused s (e ∷ log) → count_by (sends who uuid) log ≤ 1 → (b : Bool) → sends who uuid e ≡ b → count_by (sends who uuid) (e ∷ log) ≤ 1
  fewer s e log o caused rest true is =
      (let now = has_now s e e.kind refl is in
      let none = quiet (after s e) log now.0 (sound_after s e o caused.0) caused.1 now.1 in
      let more = count_cons e log true is in
      omega (arith, more, none))
  fewer s e log o caused rest false is = (let more = count_cons e log false is in omega (arith, more, rest))

  pub at_most_once : (s : PoolState) (log : List Entry) → IsSound s → IsCaused s log → count_by (sends who uuid) log ≤ 1
  at_most_once s [] o caused = omega arith
  at_most_once s (e ∷ log) o caused = fewer s e log o caused (at_most_once (after s e) log (sound_after s e o caused.0) caused.1) _ refl

  -- a row came by an entry of the log, or was there before
  pub came : (s : PoolState) (log : List Entry) (t : ℕ) → IsSound s → IsCaused s log → HasRow (replay s log) t → HasRow s t ⊎ (list_any (sends_as who uuid t) log ≡ true)
  came s [] t o caused h = inl h
  came s (e ∷ log) t o caused h = by_rest (came (after s e) log t (sound_after s e o caused.0) caused.1 h)
    where
      later_any : list_any (sends_as who uuid t) log ≡ true → list_any (sends_as who uuid t) (e ∷ log) ≡ true
      later_any r = grind (arith, r)

      this_any : sends_as who uuid t e ≡ true → list_any (sends_as who uuid t) (e ∷ log) ≡ true
      this_any r = grind (arith, r)

      added : (k : EntryKind) → e.kind ≡ k → (x : TaskRow) → Among x (added_tasks e.moment k) → IsKeyed x who uuid → x.no ≡ t → sends_kind_as who uuid t k ≡ true
      added (kind.New u caller request state slice from) is x a =
          each_one (λ (z : TaskRow). IsKeyed z who uuid → z.no ≡ t → sends_kind_as who uuid t (kind.New u caller request state slice from) ≡ true) (new_row e.moment u caller request state slice from)
          (λ keyed nth. and_from _ (u == t) (and_from (same caller who) (same request.request_uuid uuid) (is_same caller who keyed.by) (is_same request.request_uuid uuid keyed.under)) (eq-eqb u t nth)) x a
      added k is x a = elim a [ ]

      old : (x : TaskRow) → Among x s.tasks → IsKeyed (task_after s e.moment e.kind x) who uuid → (task_after s e.moment e.kind x).no ≡ t → HasRow s t ⊎ (list_any (sends_as who uuid t) (e ∷ log) ≡ true)
      old x a keyed nth = inl (record {
        row = x;
        among = a;
        keyed = key_tells x who uuid (sym (key_same s e.moment e.kind o (finds s e caused.0) x a) ∙ key_from (task_after s e.moment e.kind x) who uuid keyed);
        numbered = sym (task_no s e.moment e.kind o (finds s e caused.0) x a) ∙ nth;
      })

      by_rest : HasRow (after s e) t ⊎ (list_any (sends_as who uuid t) log ≡ true) → HasRow s t ⊎ (list_any (sends_as who uuid t) (e ∷ log) ≡ true)
      by_rest (inr r) = inr (later_any r)
      by_rest (inl g) =
          each_append (λ (x : TaskRow). IsKeyed x who uuid → x.no ≡ t → HasRow s t ⊎ (list_any (sends_as who uuid t) (e ∷ log) ≡ true))
          (map (task_after s e.moment e.kind) s.tasks) (added_tasks e.moment e.kind)
          (each_map (λ (x : TaskRow). IsKeyed x who uuid → x.no ≡ t → HasRow s t ⊎ (list_any (sends_as who uuid t) (e ∷ log) ≡ true)) (task_after s e.moment e.kind) s.tasks old)
          (λ x a keyed nth. inr (this_any (added e.kind refl x a keyed nth)))
          g.row g.among g.keyed g.numbered

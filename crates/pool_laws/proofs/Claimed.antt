-- No bot claims two tasks under one id.
use Rattle.std.proofs.Common.{◌≡◌, ℕ, ◌==◌, ◌||◌, ◌⊎◌, inl, inr, List, find, subst, refl, sym, ap, ◌∙◌, cond, true, false, Bool, Option, Some, None, eqb-true}
use Rattle.std.specs.List.{All}
use Rattle.std.specs.Option.{option_map, option_map_or}
use Rattle.std.proofs.lemmas.Bool.{and_parts, and_from, eq-eqb}
use Rattle.std.proofs.lemmas.Option.{same_Some}
use Rattle.pool_laws.specs.Types.{Attempt, Retried, TaskRow, PoolState, Entry, EntryKind, Outcome}
use Rattle.swarm_model.specs.declared.entry.EntryKind.TheVariants as kind
use Rattle.swarm_model.specs.declared.entry.Outcome.TheVariants as outcome
use Rattle.dimensions.specs.Alike.{same}
use Rattle.swarm_model.specs.Answers.{claimed, is_claim, is_claimed, was_claimed, has_claim}
use Rattle.swarm_model.specs.Deadlines.{next_of}
use Rattle.swarm_model.specs.Effects.{task_after, added_tasks, task_at, started_run, expired_slice, retried_from, retried_run, killed, with_chunk, with_last_report, new_row, after}
use Rattle.swarm_model.specs.History.{MayFollow}
use Rattle.swarm_model.specs.Soundness.{IsSound, key_of, lost_key, HasKey, AreClaimedApart}
use Rattle.pool_laws.proofs.Lists.{Among, Found, each, all, each_one, find_is, find_none}
use Rattle.pool_laws.proofs.Preconditions.{Finds, FindsClaim}
use Rattle.pool_laws.proofs.EntryPreconditions.{finds, or_right}
use Rattle.pool_laws.proofs.Rows.{task_by, all_tasks, one_task, lost_is}
use Rattle.pool_laws.proofs.Numbers.{task_no}
use Rattle.pool_laws.proofs.Alike.{same_is, is_same}

abbrev pub Key : Type 0
Key = Option (ℕ × List ℕ)

abbrev pub key_in : Option Attempt → Key
key_in attempt = option_map key_of attempt

-- a key, as the test for a claim sees it

-- a row that passes has the key
is_by : (b : ℕ) (id : List ℕ) (a : Option Attempt) → option_map_or (is_claim b id) a false ≡ true → key_in a ≡ Some (b, id)
is_by b id None e = absurd (cc (e))
is_by b id (Some a) e =
    let both = and_parts (a.bot == b) (same a.claim id) e in let first = eqb-true a.bot b both.0 in let second = same_is a.claim id both.1 in cc (first, second)

-- and one that has it passes
pub by_key : (b : ℕ) (id : List ℕ) (a : Option Attempt) → key_in a ≡ Some (b, id) → option_map_or (is_claim b id) a false ≡ true
by_key b id None e = absurd (cc (e))
by_key b id (Some a) e =
    let both : (a.bot, a.claim) ≡ (b, id) = same_Some _ _ e in
    and_from (a.bot == b) (same a.claim id) (eq-eqb a.bot b (ap (λ (p : ℕ × List ℕ). p.0) both)) (is_same a.claim id (ap (λ (p : ℕ × List ℕ). p.1) both))

-- so with the run that was tried again
abbrev pub lost_in : Option Retried → Option Attempt
lost_in r = option_map (λ lost. lost.attempt) r

lost_test : (b : ℕ) (id : List ℕ) (r : Option Retried) → option_map_or (λ (lost : Retried). is_claim b id lost.attempt) r false ≡ option_map_or (is_claim b id) (lost_in r) false
lost_test b id None = refl
lost_test b id (Some lost) = refl

pub lost_key_in : (r : Option Retried) → option_map (λ (lost : Retried). key_of lost.attempt) r ≡ key_in (lost_in r)
lost_key_in None = refl
lost_key_in (Some lost) = refl

-- a row with a claim has its key
pub claim_keys : (b : ℕ) (id : List ℕ) (x : TaskRow) → has_claim b id x ≡ true → HasKey x (b, id)
claim_keys b id x e = by_test (is_claimed b id x) refl e
  where
    by_test : (c : Bool) → is_claimed b id x ≡ c → (c || was_claimed b id x) ≡ true → HasKey x (b, id)
    by_test true g h = inl (is_by b id x.attempt g)
    by_test false g h = inr (lost_key_in x.retried ∙ is_by b id (lost_in x.retried) (sym (lost_test b id x.retried) ∙ h))

-- and the other way round
pub key_claims : (b : ℕ) (id : List ℕ) (x : TaskRow) → HasKey x (b, id) → has_claim b id x ≡ true
key_claims b id x (inl e) = ap (λ c. c || was_claimed b id x) (by_key b id x.attempt e)
key_claims b id x (inr e) = or_right (is_claimed b id x) (lost_test b id x.retried ∙ by_key b id (lost_in x.retried) (sym (lost_key_in x.retried) ∙ e))

-- what an entry does to the keys of a row

abbrev pub is_claiming : EntryKind → Bool
is_claiming (kind.Claim b t id) = true
is_claiming entry = false

-- a run that is marked or closed keeps its own
pub key_kept : (f : Attempt → Attempt) → ((a : Attempt) → key_in (Some (f a)) ≡ key_in (Some a)) → (attempt : Option Attempt) → key_in (option_map f attempt) ≡ key_in attempt
key_kept f e None = refl
key_kept f e (Some a) = e a

-- so each key is one of before
kept_key : (f : Attempt → Attempt) → ((a : Attempt) → key_in (Some (f a)) ≡ key_in (Some a)) → (attempt : Option Attempt) (lost : Key) (p : ℕ × List ℕ) →
    (key_in (option_map f attempt) ≡ Some p) ⊎ (lost ≡ Some p) → (key_in attempt ≡ Some p) ⊎ (lost ≡ Some p)
kept_key f e attempt lost p (inl h) = inl (sym (key_kept f e attempt) ∙ h)
kept_key f e attempt lost p (inr h) = inr h

-- a run that is tried again keeps its own
pub again_key : (m slice : ℕ) (attempt : Option Attempt) → option_map (λ (lost : Retried). key_of lost.attempt) (option_map (retried_from m slice) attempt) ≡ key_in attempt
again_key m slice None = refl
again_key m slice (Some a) = refl

tried_key : (m : ℕ) (x : TaskRow) (p : ℕ × List ℕ) → HasKey (retried_run m x) p → HasKey x p
tried_key m x p (inl h) = absurd (cc (h))
tried_key m x p (inr h) = inl (sym (again_key m x.slice x.attempt) ∙ h)

-- only a claim brings one
pub key_before : (s : PoolState) (m : ℕ) (k : EntryKind) → IsSound s → Finds s k → is_claiming k ≡ false → (x : TaskRow) → Among x s.tasks → (p : ℕ × List ℕ) → HasKey (task_after s m k x) p → HasKey x p
key_before s m k o f q x a p =
    task_by (λ (y : TaskRow). HasKey y p → HasKey x p) s m o x a k f (record {
      same = λ h. h;
      moves = λ w h. by_outcome (next_of s x) h;
      loses = λ w. lost_is (λ (y : TaskRow). HasKey y p → HasKey x p) s.settings.retries m x (λ t. tried_key m x p) (λ t h. h);
      begins = λ b t id is found w own. absurd (cc (q, ap is_claiming is));
      cancels = λ w h. h;
      marks = λ w h. kept_key killed (λ a. refl) x.attempt (lost_key x) p h;
      grows = λ chunk fresh g w h. kept_key (with_chunk chunk) (λ a. refl) x.attempt (lost_key x) p h;
      finishes = λ chunk last report y w e h. e (kept_key (with_last_report chunk last) (λ a. refl) y.attempt (lost_key y) p h);
    })
  where
    by_outcome : (to : Outcome) → HasKey (expired_slice m to x) p → HasKey x p
    by_outcome (outcome.Slice place) h = h
    by_outcome (outcome.Ended state) h = h

-- a claim brings its own to the task that it names
abbrev IsNewKey : ℕ → ℕ → List ℕ → TaskRow → (ℕ × List ℕ) → Type 0
IsNewKey b t id x p = (x.no ≡ t) × (p ≡ (b, id))

key_begun : (m b t : ℕ) (id : List ℕ) (x : TaskRow) (p : ℕ × List ℕ) → HasKey (task_at t (started_run m b id) x) p → IsNewKey b t id x p ⊎ HasKey x p
key_begun m b t id x p = by_test (x.no == t) refl
  where
    by_kind : (x.no == t) ≡ true → HasKey (started_run m b id x) p → IsNewKey b t id x p ⊎ HasKey x p
    by_kind e (inl h) = inl (eqb-true x.no t e, sym (same_Some _ _ h))
    by_kind e (inr h) = inr (inr h)

    by_test : (c : Bool) → (x.no == t) ≡ c → HasKey (cond c (started_run m b id x) x) p → IsNewKey b t id x p ⊎ HasKey x p
    by_test true e h = by_kind e h
    by_test false e h = inr h

-- a row that is added has none
added_key : (m : ℕ) (k : EntryKind) (x : TaskRow) → Among x (added_tasks m k) → (p : ℕ × List ℕ) → HasKey x p → ⊥
added_key m (kind.New t who request state slice from) x a = each_one (λ (y : TaskRow). (p : ℕ × List ℕ) → HasKey y p → ⊥) (new_row m t who request state slice from) none x a
  where
    none : (p : ℕ × List ℕ) → HasKey (new_row m t who request state slice from) p → ⊥
    none p (inl h) = cc (h)
    none p (inr h) = cc (h)
added_key m k x a = elim a [ ]

module _ (s : PoolState) (o : IsSound s) where
  -- rows of a sound pool are apart
  pub apart : (x : TaskRow) → Among x s.tasks → (y : TaskRow) → Among y s.tasks → AreClaimedApart x y
  apart x a y c = each (AreClaimedApart x) s.tasks (each (λ (z : TaskRow). All (AreClaimedApart z) s.tasks) s.tasks o.claims x a) y c

  -- a claim that is fresh is under no key yet
  fresh : (b t : ℕ) (id : List ℕ) → FindsClaim s b t id → (x : TaskRow) → Among x s.tasks → HasKey x (b, id) → ⊥
  fresh b t id f x a e =
      let none : has_claim f.bot.no id x ≡ false = find_none (has_claim f.bot.no id) s.tasks f.fresh x a in
      absurd (cc (none, key_claims f.bot.no id x (subst (λ (n : ℕ). HasKey x (n, id)) (sym f.named) e)))

  -- they stay so where no claim comes
  quiet : (m : ℕ) (k : EntryKind) → Finds s k → is_claiming k ≡ false → (x : TaskRow) → Among x s.tasks → (y : TaskRow) → Among y s.tasks → AreClaimedApart (task_after s m k x) (task_after s m k y)
  quiet m k f q x a y c p e1 e2 =
      task_no s m k o f x a ∙ apart x a y c p (key_before s m k o f q x a p e1) (key_before s m k o f q y c p e2) ∙ sym (task_no s m k o f y c)

  -- a new key is unlike each that was there
  once : (b t : ℕ) (id : List ℕ) → FindsClaim s b t id → (x : TaskRow) → Among x s.tasks → (y : TaskRow) → Among y s.tasks → (p : ℕ × List ℕ) → IsNewKey b t id x p ⊎ HasKey x p → IsNewKey b t id y p ⊎ HasKey y p → x.no ≡ y.no
  once b t id f x a y c p (inl g) (inl h) = g.0 ∙ sym h.0
  once b t id f x a y c p (inl g) (inr h) = absurd (fresh b t id f y c (subst (HasKey y) g.1 h))
  once b t id f x a y c p (inr g) (inl h) = absurd (fresh b t id f x a (subst (HasKey x) h.1 g))
  once b t id f x a y c p (inr g) (inr h) = apart x a y c p g h

  -- and where one comes
  row_apart : (m : ℕ) (k : EntryKind) → Finds s k → (x : TaskRow) → Among x s.tasks → (y : TaskRow) → Among y s.tasks → AreClaimedApart (task_after s m k x) (task_after s m k y)
  row_apart m (kind.Claim b t id) f x a y c p e1 e2 =
      task_no s m (kind.Claim b t id) o f x a
      ∙ once b t id f x a y c p (key_begun m b t id x p e1) (key_begun m b t id y p e2)
      ∙ sym (task_no s m (kind.Claim b t id) o f y c)
  row_apart m k f x a y c p e1 e2 = quiet m k f refl x a y c p e1 e2

  -- what a bot claimed under an id is found by both
  pub claim_found : (b : ℕ) (id : List ℕ) (x : TaskRow) → Among x s.tasks → HasKey x (b, id) → claimed s b id ≡ Some x
  claim_found b id x a e = by_found (find (has_claim b id) s.tasks) refl
    where
      by_found : (r : Option TaskRow) → find (has_claim b id) s.tasks ≡ r → r ≡ Some x
      by_found None g = absurd (cc (find_none (has_claim b id) s.tasks g x a, key_claims b id x e))
      by_found (Some y) g =
          (let f : Found (has_claim b id) s.tasks y = find_is (has_claim b id) s.tasks y g in
          ap (λ (z : TaskRow). Some z) (one_task s o y x f.among a (apart y f.among x a (b, id) (claim_keys b id y f.passes) e)))

-- claims stay apart
pub claims_apart : (s : PoolState) (e : Entry) → IsSound s → MayFollow s e → All (λ task. All (AreClaimedApart task) (after s e).tasks) (after s e).tasks
claims_apart s e o follows =
    let f = finds s e follows in
    all_tasks (λ (x : TaskRow). All (AreClaimedApart x) (after s e).tasks) s e.moment e.kind
    (λ x a. all_tasks (AreClaimedApart (task_after s e.moment e.kind x)) s e.moment e.kind (row_apart s o e.moment e.kind f x a) (λ y c p e1 e2. absurd (added_key e.moment e.kind y c p e2)))
    (λ x a. all (AreClaimedApart x) (after s e).tasks (λ y c p e1 e2. absurd (added_key e.moment e.kind x a p e1)))

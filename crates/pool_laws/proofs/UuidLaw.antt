-- No caller has two tasks under one uuid.
use Rattle.std.proofs.Common.{◌≡◌, ℕ, List, refl, sym, ap, ◌∙◌, cond, true, false, Bool, Option, Some, None}
use Rattle.std.specs.List.{All, find}
use Rattle.std.proofs.lemmas.Bool.{and_parts, and_from}
use Rattle.std.proofs.lemmas.Option.{same_Some}
use Rattle.dimensions.specs.Alike.{same}
use Rattle.dimensions.specs.Rules.{is_empty}
use Rattle.pool_laws.specs.Types.{TaskRow, PoolState, Entry, EntryKind}
use Rattle.swarm_model.specs.declared.entry.EntryKind.TheVariants as kind
use Rattle.swarm_model.specs.Effects.{task_after, added_tasks, new_row, after}
use Rattle.swarm_model.specs.History.{MayFollow}
use Rattle.swarm_model.specs.Reuse.{sent, is_sent}
use Rattle.swarm_model.specs.Soundness.{IsSound, sent_key, AreSentApart}
use Rattle.pool_laws.proofs.Lists.{Among, Found, each, each_one, find_is, find_none}
use Rattle.pool_laws.proofs.Preconditions.{Finds}
use Rattle.pool_laws.proofs.EntryPreconditions.{finds}
use Rattle.pool_laws.proofs.Rows.{all_tasks, one_task}
use Rattle.pool_laws.proofs.Numbers.{task_no}
use Rattle.pool_laws.proofs.Alike.{same_is, is_same}
use Rattle.pool_laws.proofs.Origins.{Origin, origin_same}

-- a key, as the test for a task that was sent sees it

-- a caller sent the row under a uuid that is not empty
pub record IsKeyed (x : TaskRow) (who uuid : List ℕ) : Type 0 where
  pub not_empty : is_empty uuid ≡ false
  pub by : x.creator ≡ who
  pub under : x.request.request_uuid ≡ uuid

pub key_tells : (x : TaskRow) (who uuid : List ℕ) → sent_key x ≡ Some (who, uuid) → IsKeyed x who uuid
key_tells x who uuid e = by_test (is_empty x.request.request_uuid) refl e
  where
    by_test : (b : Bool) → is_empty x.request.request_uuid ≡ b → cond {A = Option (List ℕ × List ℕ)} b None (Some (x.creator, x.request.request_uuid)) ≡ Some (who, uuid) → IsKeyed x who uuid
    by_test true t g = absurd (cc (g))
    by_test false t g =
        (let both : (x.creator, x.request.request_uuid) ≡ (who, uuid) = same_Some _ _ g in
        let under : x.request.request_uuid ≡ uuid = ap (λ (p : List ℕ × List ℕ). p.1) both in
        record { not_empty = ap is_empty (sym under) ∙ t; by = ap (λ (p : List ℕ × List ℕ). p.0) both; under = under })

-- and back
pub key_from : (x : TaskRow) (who uuid : List ℕ) → IsKeyed x who uuid → sent_key x ≡ Some (who, uuid)
key_from x who uuid f = rw (f.by, f.under, f.not_empty) refl

-- such a row passes
keyed_passes : (x : TaskRow) (who uuid : List ℕ) → IsKeyed x who uuid → is_sent who uuid x ≡ true
keyed_passes x who uuid f = and_from (same x.creator who) (same x.request.request_uuid uuid) (is_same x.creator who f.by) (is_same x.request.request_uuid uuid f.under)

-- and a row that passes is such
pub passes_keyed : (x : TaskRow) (who uuid : List ℕ) → is_empty uuid ≡ false → is_sent who uuid x ≡ true → IsKeyed x who uuid
passes_keyed x who uuid not_empty e =
    let both = and_parts (same x.creator who) (same x.request.request_uuid uuid) e in
    record { not_empty = not_empty; by = same_is x.creator who both.0; under = same_is x.request.request_uuid uuid both.1 }

-- a uuid that is not empty is looked for
pub sent_find : (s : PoolState) (who uuid : List ℕ) → is_empty uuid ≡ false → sent s who uuid ≡ find (is_sent who uuid) s.tasks
sent_find s who uuid e = ap (λ (b : Bool). cond b None (find (is_sent who uuid) s.tasks)) e

-- what an entry does to a key

-- nothing
pub key_same : (s : PoolState) (m : ℕ) (k : EntryKind) → IsSound s → Finds s k → (x : TaskRow) → Among x s.tasks → sent_key (task_after s m k x) ≡ sent_key x
key_same s m k o f x a =
    ap (λ (z : Origin). cond {A = Option (List ℕ × List ℕ)} (is_empty z.request.request_uuid) None (Some (z.creator, z.request.request_uuid))) (origin_same s m k o f x a)

-- a key under which none is found is that of no row
pub unsent_new : (s : PoolState) (who uuid : List ℕ) → sent s who uuid ≡ None → (x : TaskRow) → Among x s.tasks → (p : List ℕ × List ℕ) → IsKeyed x p.0 p.1 → who ≡ p.0 → uuid ≡ p.1 → ⊥
unsent_new s who uuid unsent x a p f by under =
    let not_empty : is_empty uuid ≡ false = ap is_empty under ∙ f.not_empty in
    let none : is_sent who uuid x ≡ false = find_none (is_sent who uuid) s.tasks (sym (sent_find s who uuid not_empty) ∙ unsent) x a in
    absurd (cc (none, keyed_passes x who uuid (record { not_empty = not_empty; by = f.by ∙ sym by; under = f.under ∙ sym under })))

-- so the key of a row that is added is new
added_new : (s : PoolState) (m : ℕ) (k : EntryKind) → Finds s k → (x : TaskRow) → Among x (added_tasks m k) → (y : TaskRow) → Among y s.tasks → (p : List ℕ × List ℕ) →
    sent_key x ≡ Some p → sent_key y ≡ Some p → ⊥
added_new s m (kind.New t who request state slice from) f x a y c p e1 e2 =
    each_one (λ (z : TaskRow). sent_key z ≡ Some p → ⊥) (new_row m t who request state slice from) (λ e.
    let g : IsKeyed (new_row m t who request state slice from) p.0 p.1 = key_tells (new_row m t who request state slice from) p.0 p.1 e in
    unsent_new s who request.request_uuid f.unsent y c p (key_tells y p.0 p.1 e2) g.by g.under) x a e1
added_new s m k f x a y c p e1 e2 = elim a [ ]

-- an entry adds one row at most
added_one : (m : ℕ) (k : EntryKind) (x : TaskRow) → Among x (added_tasks m k) → (y : TaskRow) → Among y (added_tasks m k) → x.no ≡ y.no
added_one m (kind.New t who request state slice from) x a y c =
    each_one (λ (z : TaskRow). z.no ≡ y.no) (new_row m t who request state slice from)
    (each_one (λ (z : TaskRow). t ≡ z.no) (new_row m t who request state slice from) refl y c) x a
added_one m k x a y c = elim a [ ]

module _ (s : PoolState) (o : IsSound s) where
  -- rows of a sound pool are apart
  pub sent_apart : (x : TaskRow) → Among x s.tasks → (y : TaskRow) → Among y s.tasks → AreSentApart x y
  sent_apart x a y c = each (AreSentApart x) s.tasks (each (λ (z : TaskRow). All (AreSentApart z) s.tasks) s.tasks o.sent x a) y c

  -- they stay so
  row_apart : (m : ℕ) (k : EntryKind) → Finds s k → (x : TaskRow) → Among x s.tasks → (y : TaskRow) → Among y s.tasks → AreSentApart (task_after s m k x) (task_after s m k y)
  row_apart m k f x a y c p e1 e2 =
      task_no s m k o f x a ∙ sent_apart x a y c p (sym (key_same s m k o f x a) ∙ e1) (sym (key_same s m k o f y c) ∙ e2) ∙ sym (task_no s m k o f y c)

  -- and apart from one that is added
  new_apart : (m : ℕ) (k : EntryKind) → Finds s k → (x : TaskRow) → Among x s.tasks → (y : TaskRow) → Among y (added_tasks m k) → (p : List ℕ × List ℕ) →
      sent_key (task_after s m k x) ≡ Some p → sent_key y ≡ Some p → ⊥
  new_apart m k f x a y c p e1 e2 = added_new s m k f y c x a p e2 (sym (key_same s m k o f x a) ∙ e1)

  -- what a caller sent under a uuid is found by both
  pub sent_found : (x : TaskRow) → Among x s.tasks → is_empty x.request.request_uuid ≡ false → sent s x.creator x.request.request_uuid ≡ Some x
  sent_found x a e = sent_find s x.creator x.request.request_uuid e ∙ by_found (find test s.tasks) refl
    where
      test : TaskRow → Bool
      test = is_sent x.creator x.request.request_uuid

      own : IsKeyed x x.creator x.request.request_uuid
      own = record { not_empty = e; by = refl; under = refl }

      by_found : (r : Option TaskRow) → find test s.tasks ≡ r → r ≡ Some x
      by_found None g = absurd (cc (find_none test s.tasks g x a, keyed_passes x x.creator x.request.request_uuid own))
      by_found (Some y) g =
          (let f : Found test s.tasks y = find_is test s.tasks y g in
          ap (λ (z : TaskRow). Some z) (one_task s o y x f.among a
          (sent_apart y f.among x a (x.creator, x.request.request_uuid) (key_from y x.creator x.request.request_uuid (passes_keyed y x.creator x.request.request_uuid e f.passes))
          (key_from x x.creator x.request.request_uuid own))))

-- tasks stay apart
pub all_sent_apart : (s : PoolState) (e : Entry) → IsSound s → MayFollow s e → All (λ task. All (AreSentApart task) (after s e).tasks) (after s e).tasks
all_sent_apart s e o follows =
    let f = finds s e follows in
    all_tasks (λ (x : TaskRow). All (AreSentApart x) (after s e).tasks) s e.moment e.kind
    (λ x a. all_tasks (AreSentApart (task_after s e.moment e.kind x)) s e.moment e.kind (row_apart s o e.moment e.kind f x a) (λ y c p e1 e2. absurd (new_apart s o e.moment e.kind f x a y c p e1 e2)))
    (λ x a. all_tasks (AreSentApart x) s e.moment e.kind (λ y c p e1 e2. absurd (new_apart s o e.moment e.kind f y c x a p e2 e1)) (λ y c p e1 e2. added_one e.moment e.kind x a y c))

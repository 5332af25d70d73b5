-- Entries of logs, and elements of lists.
use Rattle.std.proofs.Common.{◌≡◌, ◌⊎◌, inl, inr, ℕ, zero, suc, ◌+◌, ◌≤◌, ◌<◌, ◌==◌, ◌&&◌, Bool, true, false, IsTrue, List, [], ◌∷◌, ◌++◌, length, count_by, Option, Some, refl, ap, sym, ◌∙◌, subst, arith, true≢false, eqb-true}
use Rattle.std.specs.Prelude.{slice_get, ◌||◌}
use Rattle.std.specs.List.{AllByRecursion, All, Contains, list_any}
use Rattle.std.proofs.lemmas.Bool.{and_parts}
use Rattle.std.proofs.lemmas.Option.{none-some, same_Some, slice_get_past}
use Rattle.std.proofs.lemmas.List.Elements.{All-contains_itself}
use Rattle.dimensions.specs.Alike.{same}
use Rattle.batch_plays.specs.Types.{NewTask, TaskState, Entry}
use Rattle.swarm_model.specs.declared.entry.EntryKind.{EntryKind}
use Rattle.swarm_model.specs.declared.entry.EntryKind.TheVariants as kind
use Rattle.swarm_model.specs.Entries.{is_deadline}
use Rattle.pool_laws.proofs.Alike.{same_is}
use Rattle.pool_laws.proofs.Lists.{Among, each, all, counted}
use Rattle.pool_laws.proofs.Lists.Among.{here, later}
use Rattle.log_laws.specs.Sent.{sends, sends_kind, sends_as, sends_kind_as}

-- ---- elements of lists

pub among_of : {X : Type 0} (xs : List X) (x : X) → Contains xs x → Among x xs
among_of xs x c = subst (λ z. Among z xs) c.2 (all (λ z. Among z xs) xs (λ z a. a) c.0 x c.1)

pub contains_of : {X : Type 0} (xs : List X) (x : X) → Among x xs → Contains xs x
contains_of xs x a = each (Contains xs) xs (All-contains_itself xs) x a

-- a place of a list with one element more is one of the list, or the last
pub at_end : {A : Type 0} (xs : List A) (x y : A) (i : ℕ) → slice_get (xs ++ x ∷ []) i ≡ Some y → (slice_get xs i ≡ Some y) ⊎ ((i ≡ length xs) × (x ≡ y))
at_end [] x y zero e = inr (refl, same_Some _ _ e)
at_end [] x y (suc i) e = elim (none-some y (sym (slice_get_past (x ∷ []) (suc i) (omega arith)) ∙ e)) [ ]
at_end (z ∷ xs) x y zero e = inl e
at_end (z ∷ xs) x y (suc i) e = by_rest (at_end xs x y i e)
  where
    by_rest : (slice_get xs i ≡ Some y) ⊎ ((i ≡ length xs) × (x ≡ y)) → (slice_get (z ∷ xs) (suc i) ≡ Some y) ⊎ ((suc i ≡ length (z ∷ xs)) × (x ≡ y))
    by_rest (inl h) = inl h
    by_rest (inr h) = inr (ap suc h.0, h.1)

-- a place where there is an element is within the list
pub within : {X : Type 0} (xs : List X) (i : ℕ) (x : X) → slice_get xs i ≡ Some x → i < length xs
within [] i x h = absurd (cc)
within (y ∷ xs) zero x h = omega arith
within (y ∷ xs) (suc i) x h = let k = within xs i x h in omega (arith, k)

pub none_at : {A : Type 0} (x : A) (i : ℕ) → slice_get [] i ≡ Some x → ⊥
none_at x i e = none-some x (sym (slice_get_past [] i (omega arith)) ∙ e)

-- ---- entries that accept a task

-- an entry accepts a task of a caller
pub record IsNew (entry : Entry) (who : List ℕ) (t : ℕ) (task : NewTask) : Type 0 where
  pub state : TaskState
  pub slice : ℕ
  pub source : Option ℕ
  pub is : entry.kind ≡ kind.New t who task state slice source

-- a deadline accepts none
pub due_is_not_new : (log : List Entry) → AllByRecursion (λ e. IsTrue (is_deadline e.kind)) log → (e : Entry) → Among e log → (who : List ℕ) (t : ℕ) (task : NewTask) → IsNew e who t task → ⊥
due_is_not_new [] d e a who t task n = elim a [ ]
due_is_not_new (x ∷ xs) d e here who t task n = (let k : is_deadline (kind.New t who task n.state n.slice n.source) ≡ true = ap is_deadline (sym n.is) ∙ d.0 in cc)
due_is_not_new (x ∷ xs) d e (later a) who t task n = due_is_not_new xs d.1 e a who t task n

or_later : (a b : Bool) → a ≡ false → (a || b) ≡ true → b ≡ true
or_later true b is f = elim (true≢false is) [ ]
or_later false b is f = f

module _ {A : Type 0} (test : A → Bool) where
  -- an element that passes
  pub record Passes (xs : List A) : Type 0 where
    pub found : A
    pub among : Among found xs
    pub passes : test found ≡ true

  -- where one passes, there is one
  pub any_among : (xs : List A) → list_any test xs ≡ true → Passes xs
  any_among [] e = elim (true≢false (sym e)) [ ]
  any_among (y ∷ ys) e = by_first (test y) refl (any_among ys)
    where
      by_first : (b : Bool) → test y ≡ b → (list_any test ys ≡ true → Passes ys) → Passes (y ∷ ys)
      by_first true is rest = record { found = y; among = here; passes = is }
      by_first false is rest = (let more = rest (or_later (test y) (list_any test ys) is e) in record { found = more.found; among = later more.among; passes = more.passes })

-- an entry that accepts a task as that of a number accepts it, and is one of the caller's under the uuid
plain : (who uuid : List ℕ) (t : ℕ) (k : EntryKind) → sends_kind_as who uuid t k ≡ true → sends_kind who uuid k ≡ true
plain who uuid t (kind.New u caller request state slice from) e = (and_parts (same caller who && same request.request_uuid uuid) _ e).0
plain who uuid t k e = e

pub sends_new : (who uuid : List ℕ) (t : ℕ) (e : Entry) → sends_as who uuid t e ≡ true → sends who uuid e ≡ true
sends_new who uuid t e h = plain who uuid t e.kind h

-- the task that such an entry accepts
pub record IsSent (who uuid : List ℕ) (t : ℕ) (e : Entry) : Type 0 where
  pub task : NewTask
  pub new : IsNew e who t task
  pub uuid_is : task.request_uuid ≡ uuid

pub sent_as : (who uuid : List ℕ) (t : ℕ) (e : Entry) → sends_as who uuid t e ≡ true → IsSent who uuid t e
sent_as who uuid t e h = by_kind e.kind refl h
  where
    by_kind : (k : EntryKind) → e.kind ≡ k → sends_kind_as who uuid t k ≡ true → IsSent who uuid t e
    by_kind (kind.New u caller request state slice from) is f =
        (let both = and_parts (same caller who && same request.request_uuid uuid) (u == t) f in
        let key = and_parts (same caller who) (same request.request_uuid uuid) both.0 in
        let by : caller ≡ who = same_is caller who key.0 in
        let number : u ≡ t = eqb-true u t both.1 in
        let kind_is : e.kind ≡ kind.New t who request state slice from = is ∙ ap (λ (c : List ℕ). kind.New u c request state slice from) by ∙ ap (λ (n : ℕ). kind.New n who request state slice from) number in
        record { task = request; new = record { state = state; slice = slice; source = from; is = kind_is }; uuid_is = same_is request.request_uuid uuid key.1 })
    by_kind k is f = elim (true≢false (sym f)) [ ]

-- what is among a log is counted
pub sent_counted : (who uuid : List ℕ) (t : ℕ) (log : List Entry) (e : Entry) → Among e log → sends_as who uuid t e ≡ true → 1 ≤ count_by (sends who uuid) log
sent_counted who uuid t log e a h = counted (sends who uuid) log e a (sends_new who uuid t e h)

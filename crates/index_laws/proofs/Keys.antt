-- The keys of rows after an entry.
use Rattle.std.proofs.Common.{◌≡◌, ◌↔◌, ℕ, zero, suc, ◌<◌, ◌⊎◌, inl, inr, List, [], ◌∷◌, map, length, get_or, refl, sym, ap, ◌∙◌, subst, Option, Some, None, arith}
use Rattle.std.specs.List.{Contains}
use Rattle.std.specs.Option.{option_and_then}
use Rattle.index_laws.specs.Types.{TaskRow, PoolState, Entry}
use Rattle.swarm_model.specs.Finding.{is_task, task_of}
use Rattle.swarm_model.specs.Effects.{task_after, added_tasks, after}
use Rattle.swarm_model.specs.History.{MayFollow}
use Rattle.swarm_model.specs.Soundness.{IsSound}
use Rattle.pool_laws.proofs.Lists.{Among, here, later, Found, find_is, each_append, each_map, among_left, among_map}
use Rattle.pool_laws.proofs.EntryPreconditions.{finds}
use Rattle.pool_laws.proofs.Rows.{find_task}
use Rattle.pool_laws.proofs.Numbers.{task_no}
use Rattle.pool_laws.proofs.Sound.{sound_after}
use Rattle.index_laws.specs.Touched.{touched_task}
use Rattle.index_laws.specs.Keys.{IsKnown, HasKey, KeysGrow}
use Rattle.index_laws.proofs.Untouched.{same_task, added_touched}
use Rattle.index_laws.proofs.NumberedRows.{is_touched}

-- what a list contains by a place is among its elements, and back
pub among_of : {X : Type 0} (xs : List X) (x : X) → Contains xs x → Among x xs
among_of [] x c = let low : c.0 < 0 = c.1 in absurd (omega (arith, low))
among_of (y ∷ ys) x c = by_place (among_of ys x) c.0 c.1 c.2
  where
    by_place : (Contains ys x → Among x ys) → (k : ℕ) → k < length (y ∷ ys) → get_or (y ∷ ys) k x ≡ x → Among x (y ∷ ys)
    by_place rest zero low is = subst (λ z. Among z (y ∷ ys)) is here
    by_place rest (suc k) low is = later (rest (k, omega (arith, low), is))

pub contains_of : {X : Type 0} (xs : List X) (x : X) → Among x xs → Contains xs x
contains_of [] x a = elim a [ ]
contains_of (y ∷ ys) x here = (0, omega arith, refl)
contains_of (y ∷ ys) x (later a) = let c = contains_of ys x a in (suc c.0, (let low : c.0 < length ys = c.1 in omega (arith, low)), c.2)

module _ (s : PoolState) (e : Entry) (o : IsSound s) (follows : MayFollow s e) where
  abbrev new : PoolState
  new = after s e

  abbrev change : TaskRow → TaskRow
  change = task_after s e.moment e.kind

  -- a row that is not touched is one of the new ones
  kept_row : (x : TaskRow) → Among x s.tasks → (touched_task s e.kind ≡ Some x.no → ⊥) → Among x new.tasks
  kept_row x a u =
      subst (λ (y : TaskRow). Among y new.tasks) (same_task s o e.moment e.kind (finds s e follows) x a u)
      (among_left (change x) (map change s.tasks) (added_tasks e.moment e.kind) (among_map change s.tasks x a))

  -- and a new row that is not touched was there
  old_row : (y : TaskRow) → Among y new.tasks → (touched_task s e.kind ≡ Some y.no → ⊥) → Among y s.tasks
  old_row =
      each_append (λ (y : TaskRow). (touched_task s e.kind ≡ Some y.no → ⊥) → Among y s.tasks) (map change s.tasks) (added_tasks e.moment e.kind)
      (each_map (λ (y : TaskRow). (touched_task s e.kind ≡ Some y.no → ⊥) → Among y s.tasks) change s.tasks (λ x a u.
      let v : touched_task s e.kind ≡ Some x.no → ⊥ = λ t. u (t ∙ ap (λ (n : ℕ). Some n) (sym (task_no s e.moment e.kind o (finds s e follows) x a))) in
      subst (λ (y : TaskRow). Among y s.tasks) (sym (same_task s o e.moment e.kind (finds s e follows) x a v)) a))
      (λ y a u. absurd (u (added_touched s e.moment e.kind y a)))

  module _ {K : Type 0} (key : TaskRow → Option K) (number_of : K → ℕ) (tells : (x : TaskRow) (k : K) → key x ≡ Some k → x.no ≡ number_of k) where
    -- the keys after the entry are those of rows that it doesn't touch, and the one of the touched row
    pub keyed_after : (k : K) → HasKey key new.tasks k ↔ ((HasKey key s.tasks k × (touched_task s e.kind ≡ Some (number_of k) → ⊥)) ⊎ (option_and_then key (option_and_then (task_of new) (touched_task s e.kind)) ≡ Some k))
    keyed_after k = (there, back)
      where
        there : HasKey key new.tasks k → (HasKey key s.tasks k × (touched_task s e.kind ≡ Some (number_of k) → ⊥)) ⊎ (option_and_then key (option_and_then (task_of new) (touched_task s e.kind)) ≡ Some k)
        there h =
            let a = among_of new.tasks h.task h.among in
            let is : h.task.no ≡ number_of k = tells h.task k h.keyed in
            elim (is_touched (touched_task s e.kind) h.task.no) [
              | inl t ↦ inr (ap (λ (r : Option ℕ). option_and_then key (option_and_then (task_of new) r)) t ∙ ap (option_and_then key) (find_task new (sound_after s e o follows) h.task h.task.no a refl) ∙ h.keyed)
              | inr u ↦ inl (record { task = h.task; among = contains_of s.tasks h.task (old_row h.task a u); keyed = h.keyed }, λ t. u (t ∙ ap (λ (n : ℕ). Some n) (sym is)))
            ]

        by_row : (r : Option TaskRow) → ((y : TaskRow) → r ≡ Some y → Among y new.tasks) → option_and_then key r ≡ Some k → HasKey key new.tasks k
        by_row None there h = absurd (cc (h))
        by_row (Some y) there h = record { task = y; among = contains_of new.tasks y (there y refl); keyed = h }

        by_number : (r : Option ℕ) → option_and_then key (option_and_then (task_of new) r) ≡ Some k → HasKey key new.tasks k
        by_number None h = absurd (cc (h))
        by_number (Some n) h = by_row (task_of new n) (λ y q. let found : Found (is_task n) new.tasks y = find_is (is_task n) new.tasks y q in found.among) h

        back : (HasKey key s.tasks k × (touched_task s e.kind ≡ Some (number_of k) → ⊥)) ⊎ (option_and_then key (option_and_then (task_of new) (touched_task s e.kind)) ≡ Some k) → HasKey key new.tasks k
        back (inl both) =
            (let h = both.0 in
            let u = both.1 in
            let is : h.task.no ≡ number_of k = tells h.task k h.keyed in
            record { task = h.task; among = contains_of new.tasks h.task (kept_row h.task (among_of s.tasks h.task h.among) (λ t. u (t ∙ ap (λ (n : ℕ). Some n) is))); keyed = h.keyed })
        back (inr h) = by_number (touched_task s e.kind) h

  module _ {K : Type 0} (by : TaskRow → K → Type 0) (come : Option K) (stays : (x : TaskRow) → Among x s.tasks → (k : K) → by x k → by (change x) k)
      (from : (x : TaskRow) → Among x s.tasks → (k : K) → by (change x) k → by x k ⊎ (come ≡ Some k)) (adds : (y : TaskRow) → Among y (added_tasks e.moment e.kind) → (k : K) → by y k → come ≡ Some k)
      (comes : (k : K) → come ≡ Some k → IsKnown by new.tasks k) where
    -- no key is lost, and at most one comes
    pub grows : KeysGrow by come s.tasks new.tasks
    grows k = (there, back)
      where
        of_row : (y : TaskRow) → Among y new.tasks → by y k → IsKnown by s.tasks k ⊎ (come ≡ Some k)
        of_row =
            each_append (λ (y : TaskRow). by y k → IsKnown by s.tasks k ⊎ (come ≡ Some k)) (map change s.tasks) (added_tasks e.moment e.kind)
            (each_map (λ (y : TaskRow). by y k → IsKnown by s.tasks k ⊎ (come ≡ Some k)) change s.tasks (λ x a h. elim (from x a k h) [
              | inl g ↦ inl (record { task = x; among = contains_of s.tasks x a; keyed = g })
              | inr c ↦ inr c
            ]))
            (λ y a h. inr (adds y a k h))

        there : IsKnown by new.tasks k → IsKnown by s.tasks k ⊎ (come ≡ Some k)
        there h = of_row h.task (among_of new.tasks h.task h.among) h.keyed

        back : IsKnown by s.tasks k ⊎ (come ≡ Some k) → IsKnown by new.tasks k
        back (inl h) =
            (let a = among_of s.tasks h.task h.among in
            record { task = change h.task; among = contains_of new.tasks (change h.task) (among_left (change h.task) (map change s.tasks) (added_tasks e.moment e.kind) (among_map change s.tasks h.task a)); keyed = stays h.task a k h.keyed })
        back (inr c) = comes k c

-- The earliest of some deadlines is what a search of all of them finds.
use Rattle.std.proofs.Common.{◌≡◌, ℕ, zero, suc, false, List, [], ◌∷◌, ◌⊎◌, inl, inr, refl, sym, ap, ◌∙◌, subst, Option, Some, None}
use Rattle.std.specs.List.{fold, filter_map}
use Rattle.std.proofs.lemmas.Bool.{cases_Bool, cond-true, cond-false}
use Rattle.swarm_model.specs.declared.deadline.Deadline.{Deadline}
use Rattle.swarm_model.specs.Deadlines.{is_earlier, sooner}
use Rattle.pool_index.specs.Deadlines.{deadline_at, IsFirstOf}
use Rattle.pool_index.proofs.DeadlineOrder.{tie}

-- the deadline is one of these
abbrev pub IsIn : Deadline → List Deadline → Type 0
IsIn d [] = ⊥
IsIn d (x ∷ xs) = (x ≡ d) ⊎ IsIn d xs

-- none of these is earlier
abbrev pub NoneBefore : Deadline → List Deadline → Type 0
NoneBefore d [] = Unit {0}
NoneBefore d (x ∷ xs) = (is_earlier x d ≡ false) × NoneBefore d xs

abbrev NotBefore : Deadline → Option Deadline → Type 0
NotBefore d None = Unit {0}
NotBefore d (Some x) = is_earlier x d ≡ false

-- one step of the search
still : (d : Deadline) (best : Option Deadline) (x : Deadline) → NotBefore d best → is_earlier x d ≡ false → NotBefore d (sooner best x)
still d None x h g = g
still d (Some b) x h g = elim (cases_Bool (is_earlier x b)) [
  | inl t ↦ subst (λ (y : Deadline). is_earlier y d ≡ false) (sym (cond-true (is_earlier x b) x b t)) g
  | inr f ↦ subst (λ (y : Deadline). is_earlier y d ≡ false) (sym (cond-false (is_earlier x b) x b f)) h
]

-- where the best so far is the deadline, it stays
stays : (d : Deadline) (best : Option Deadline) (x : Deadline) → best ≡ Some d → is_earlier x d ≡ false → sooner best x ≡ Some d
stays d None x e g = absurd (cc)
stays d (Some b) x e g =
    let same : b ≡ d = cc in
    let no : is_earlier x b ≡ false = subst (λ (y : Deadline). is_earlier x y ≡ false) (sym same) g in
    ap (λ (y : Deadline). Some y) (cond-false (is_earlier x b) x b no ∙ same)

-- where the deadline comes next, it is taken
taken : (d : Deadline) (best : Option Deadline) (x : Deadline) → NotBefore d best → x ≡ d → sooner best x ≡ Some d
taken d None x h e = ap (λ (y : Deadline). Some y) e
taken d (Some b) x h e = elim (cases_Bool (is_earlier x b)) [
  | inl t ↦ ap (λ (y : Deadline). Some y) (cond-true (is_earlier x b) x b t ∙ e)
  | inr f ↦
      let no : is_earlier d b ≡ false = subst (λ (y : Deadline). is_earlier y b ≡ false) e f in
      ap (λ (y : Deadline). Some y) (cond-false (is_earlier x b) x b f ∙ tie b d h no)
]

found : (d : Deadline) (best : Option Deadline) (ds : List Deadline) → NotBefore d best → NoneBefore d ds → (best ≡ Some d) ⊎ IsIn d ds → fold sooner best ds ≡ Some d
found d best [] h none (inl e) = e
found d best [] h none (inr i) = absurd i
found d best (x ∷ xs) h none (inl e) = found d (sooner best x) xs (still d best x h none.0) none.1 (inl (stays d best x e none.0))
found d best (x ∷ xs) h none (inr (inl e)) = found d (sooner best x) xs (still d best x h none.0) none.1 (inl (taken d best x h e))
found d best (x ∷ xs) h none (inr (inr i)) = found d (sooner best x) xs (still d best x h none.0) none.1 (inr i)

-- one that is there, and before which there is none, is what is found
pub fold_least : (d : Deadline) (ds : List Deadline) → IsIn d ds → NoneBefore d ds → fold sooner None ds ≡ Some d
fold_least d ds i none = found d None ds tt none (inr i)

-- ---- deadlines of rows

abbrev the_ends : List (Option Deadline) → List Deadline
the_ends ends = filter_map (λ end. end) ends

in_ends : (d : Deadline) (ends : List (Option Deadline)) (k : ℕ) → deadline_at ends k ≡ Some d → IsIn d (the_ends ends)
in_ends d [] k e = absurd (cc (e))
in_ends d (None ∷ ends) zero e = absurd (cc (e))
in_ends d (Some x ∷ ends) zero e = inl (cc (e))
in_ends d (None ∷ ends) (suc k) e = in_ends d ends k e
in_ends d (Some x ∷ ends) (suc k) e = inr (in_ends d ends k e)

none_in : (d : Deadline) (ends : List (Option Deadline)) → ((k : ℕ) (x : Deadline) → deadline_at ends k ≡ Some x → is_earlier x d ≡ false) → NoneBefore d (the_ends ends)
none_in d [] h = tt
none_in d (None ∷ ends) h = none_in d ends (λ k x e. h (suc k) x e)
none_in d (Some y ∷ ends) h = (h zero y refl, none_in d ends (λ k x e. h (suc k) x e))

no_ends : (ends : List (Option Deadline)) → ((k : ℕ) → deadline_at ends k ≡ None) → the_ends ends ≡ []
no_ends [] h = refl
no_ends (None ∷ ends) h = no_ends ends (λ k. h (suc k))
no_ends (Some x ∷ ends) h = absurd (let e : Some x ≡ None = h zero in cc (e))

pub fold_first : (ends : List (Option Deadline)) (first : Option Deadline) → IsFirstOf ends first → fold sooner None (filter_map (λ end. end) ends) ≡ first
fold_first ends None none = ap (fold sooner None) (no_ends ends none)
fold_first ends (Some d) is = fold_least d (the_ends ends) (in_ends d ends is.place is.there) (none_in d ends is.least)

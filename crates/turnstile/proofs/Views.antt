-- Facts about each view and about any two, where one view changes or one more comes.
use Rattle.std.proofs.Common.{◌≡◌, ◌≢◌, ◌⊎◌, ℕ, zero, suc, ◌+◌, false, List, [], ◌∷◌, ◌++◌, length, set, refl, sym, ap, ◌∙◌, subst, ⊎_elim, inl, inr, arith}
use mathlib.Core.Option.{some, some-ne-none, some-injective}
use mathlib.Core.Logic.{dite}
use native.Mathlib.Decide.{ℕ_discrete}
use lib.ListN.{get_elem?}
use Rattle.atomic_table.proofs.Lists.{at_set, set_else}
use Rattle.turnstile.specs.declared.view.View.{View}
use Rattle.turnstile.specs.Numbers.{times}
use Rattle.turnstile.specs.Rule.{EachAndAnyTwo, AddUp, NobodyServes}
use Rattle.turnstile.proofs.Totals.{total_set}

pub set_at : {A : Type 0} (l : List A) (i : ℕ) (a b : A) → get_elem? l i ≡ some b → get_elem? (set l i a) i ≡ some a
set_at [] i a b e = absurd (some-ne-none b (sym e))
set_at (x ∷ xs) zero a b e = refl
set_at (x ∷ xs) (suc i) a b e = set_at xs i a b e

pub set_apart : {A : Type 0} (l : List A) (i j : ℕ) (a b : A) → i ≢ j → set (set l i a) j b ≡ set (set l j b) i a
set_apart [] i j a b ne = refl
set_apart (x ∷ xs) zero zero a b ne = absurd (ne refl)
set_apart (x ∷ xs) zero (suc j) a b ne = refl
set_apart (x ∷ xs) (suc i) zero a b ne = refl
set_apart (x ∷ xs) (suc i) (suc j) a b ne = ap (λ l. x ∷ l) (set_apart xs i j a b (λ e. ne (ap suc e)))

-- one place of a list has one value
pub one_value : {A : Type 0} (l : List A) (i j : ℕ) (a b : A) → get_elem? l i ≡ some a → get_elem? l j ≡ some b → i ≡ j → a ≡ b
one_value l i j a b ea eb same = some-injective a b (sym ea ∙ ap (get_elem? l) same ∙ eb)

at_snoc : {A : Type 0} (l : List A) (a b : A) (j : ℕ) → get_elem? (l ++ a ∷ []) j ≡ some b → (get_elem? l j ≡ some b) ⊎ ((j ≡ length l) × (a ≡ b))
at_snoc [] a b zero e = inr (refl, some-injective a b e)
at_snoc [] a b (suc j) e = absurd (some-ne-none b (sym e))
at_snoc (x ∷ xs) a b zero e = inl e
at_snoc (x ∷ xs) a b (suc j) e = ⊎_elim (λ t. inl t) (λ t. inr (ap suc t.0, t.1)) (at_snoc xs a b j e)

module _ {V I : Type 0} where
  pub each_set : (P P' : View V I → Type 0) (Q : View V I → View V I → Type 0) (views : List (View V I)) (id : ℕ) (w : View V I) → EachAndAnyTwo P Q views → P' w → ((i : ℕ) (u : View V I) → i ≢ id → get_elem? views i ≡ some u → P' u × Q w u × Q u w) → EachAndAnyTwo P' Q (set views id w)
  each_set P P' Q views id w h mine others = record {
    each = λ i v e. ⊎_elim
        (λ (x : (i ≡ id) × (w ≡ v)). subst P' x.1 mine)
        (λ (x : (i ≢ id) × (get_elem? views i ≡ some v)). (others i v x.0 x.1).0)
        (at_set views id i w v e);
    two = λ i j v u ne ei ej. ⊎_elim
        (λ (x : (i ≡ id) × (w ≡ v)). ⊎_elim
        (λ (y : (j ≡ id) × (w ≡ u)). absurd (ne (x.0 ∙ sym y.0)))
        (λ (y : (j ≢ id) × (get_elem? views j ≡ some u)). subst (λ (z : View V I). Q z u) x.1 (others j u y.0 y.1).1)
        (at_set views id j w u ej))
        (λ (x : (i ≢ id) × (get_elem? views i ≡ some v)). ⊎_elim
        (λ (y : (j ≡ id) × (w ≡ u)). subst (λ (z : View V I). Q v z) y.1 (others i v x.0 x.1).2)
        (λ (y : (j ≢ id) × (get_elem? views j ≡ some u)). h.two i j v u ne x.1 y.1)
        (at_set views id j w u ej))
        (at_set views id i w v ei);
  }

  pub each_snoc : (P : View V I → Type 0) (Q : View V I → View V I → Type 0) (views : List (View V I)) (w : View V I) → EachAndAnyTwo P Q views → P w → ((i : ℕ) (u : View V I) → get_elem? views i ≡ some u → Q w u × Q u w) → EachAndAnyTwo P Q (views ++ w ∷ [])
  each_snoc P Q views w h mine others = record {
    each = λ i v e. ⊎_elim
        (λ (x : get_elem? views i ≡ some v). h.each i v x)
        (λ (x : (i ≡ length views) × (w ≡ v)). subst P x.1 mine)
        (at_snoc views w v i e);
    two = λ i j v u ne ei ej. ⊎_elim
        (λ (x : get_elem? views i ≡ some v). ⊎_elim
        (λ (y : get_elem? views j ≡ some u). h.two i j v u ne x y)
        (λ (y : (j ≡ length views) × (w ≡ u)). subst (λ (z : View V I). Q v z) y.1 (others i v x).1)
        (at_snoc views w u j ej))
        (λ (x : (i ≡ length views) × (w ≡ v)). ⊎_elim
        (λ (y : get_elem? views j ≡ some u). subst (λ (z : View V I). Q z u) x.1 (others j u y).0)
        (λ (y : (j ≡ length views) × (w ≡ u)). absurd (ne (x.0 ∙ sym y.0)))
        (at_snoc views w u j ej))
        (at_snoc views w v i ei);
  }

  -- the sums where one view keeps its numbers
  pub sums_set : (next next' made : ℕ) (views : List (View V I)) (id : ℕ) (v w : View V I) → AddUp next made views → get_elem? views id ≡ some v → v.numbers ≡ w.numbers → w.turns + next ≡ v.turns + next' → AddUp next' made (set views id w)
  sums_set next next' made views id v w h at same turns = record {
    sizes = omega (arith, h.sizes, ap length same, total_set (λ (u : View V I). length u.numbers) views id v w at);
    once = λ k. omega (arith, h.once k, ap (times k) same, total_set (λ (u : View V I). times k u.numbers) views id v w at);
    turns = omega (arith, h.turns, turns, total_set (λ (u : View V I). u.turns) views id v w at);
  }

  -- nobody served before where nobody serves after, and the one that changed served no more than now
  pub nobody_before : (views : List (View V I)) (id : ℕ) (v w : View V I) → get_elem? views id ≡ some v → (w.has_turn ≡ false → v.has_turn ≡ false) → NobodyServes (set views id w) → NobodyServes views
  nobody_before views id v w at same nobody i u e = dite (ℕ_discrete i id)
      (λ here. subst (λ (z : View V I). z.has_turn ≡ false) (one_value views id i v u at e (sym here)) (same (nobody id w (set_at views id w v at))))
      (λ ne. nobody i u (set_else views id i w ne ∙ e))

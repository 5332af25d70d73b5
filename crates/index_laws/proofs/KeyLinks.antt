-- Links that follow the keys of rows.
use Rattle.std.proofs.Common.{◌≡◌, ◌↔◌, ◌⊎◌, inl, inr, List, [], ◌∷◌, ◌++◌, refl, sym, ap, ◌∙◌, subst, Option, Some, None, MatchOption}
use Rattle.std.proofs.lemmas.Option.{same_Some}
use Rattle.pool_laws.proofs.Lists.{Among, here, each_append, each_one, among_left, among_right}

-- each key has a link, and a link tells its key
module _ {L X : Type 0} (link : X → L) (key : L → X) (tells : (x : X) → key (link x) ≡ x) where
  -- links with one more are those that there were, and the new one
  of_more : (old : List L) (y x : X) → Among (link x) (old ++ link y ∷ []) → Among (link x) old ⊎ (y ≡ x)
  of_more old y x h =
      each_append (λ (z : L). z ≡ link x → Among (link x) old ⊎ (y ≡ x)) old (link y ∷ []) (λ z a e. inl (subst (λ (l : L). Among l old) e a))
      (each_one (λ (z : L). z ≡ link x → Among (link x) old ⊎ (y ≡ x)) (link y) (λ e. inr (sym (tells y) ∙ ap key e ∙ tells x))) (link x) h refl

  to_more : (old : List L) (y x : X) → Among (link x) old ⊎ (y ≡ x) → Among (link x) (old ++ link y ∷ [])
  to_more old y x (inl a) = among_left (link x) old (link y ∷ []) a
  to_more old y x (inr e) = among_right (link x) old (link y ∷ []) (subst (λ (z : X). Among (link x) (link z ∷ [])) (sym e) here)

  -- where the link of the key to come is added to those of the old rows' keys, they are those of the new rows' keys
  pub links_follow : (Old New : X → Type 0) (come : Option X) → ((x : X) → New x ↔ (Old x ⊎ (come ≡ Some x))) → (old new : List L) → ((x : X) → Among (link x) old ↔ Old x) →
      MatchOption come (new ≡ old) (λ y. new ≡ old ++ link y ∷ []) → (x : X) → Among (link x) new ↔ New x
  links_follow Old New None grow old new are is x = (
    λ h. (grow x).1 (inl ((are x).0 (subst (λ (ls : List L). Among (link x) ls) is h))),
    λ h. elim ((grow x).0 h) [
      | inl g ↦ subst (λ (ls : List L). Among (link x) ls) (sym is) ((are x).1 g)
      | inr c ↦ absurd (cc (c))
    ],
  )
  links_follow Old New (Some y) grow old new are is x = (
    λ h. elim (of_more old y x (subst (λ (ls : List L). Among (link x) ls) is h)) [
      | inl g ↦ (grow x).1 (inl ((are x).0 g))
      | inr c ↦ (grow x).1 (inr (ap (λ (t : X). Some t) c))
    ],
    λ h. subst (λ (ls : List L). Among (link x) ls) (sym is) (elim ((grow x).0 h) [
      | inl g ↦ to_more old y x (inl ((are x).1 g))
      | inr c ↦ to_more old y x (inr (same_Some _ _ c))
    ]),
  )

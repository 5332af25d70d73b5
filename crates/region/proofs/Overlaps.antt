-- Extents that are apart in whatever order they stand.
use Rattle.std.proofs.Common.{◌≡◌, ◌≢◌, ℕ, zero, suc, ◌+◌, ◌-◌, ◌≤◌, ◌<◌, Bool, true, false, not, ◌&&◌, ◌||◌, List, [], ◌∷◌, length, get_or, refl, ap, ◌∙◌, arith, inl, inr, ltb, ◌⊎◌}
use Rattle.std.specs.List.{list_any, insert}
use Rattle.std.proofs.lemmas.Bool.{cases_lt}
use Rattle.std.proofs.lemmas.Bool.Decides.{nat_tests}
use Rattle.std.proofs.lemmas.List.Edits.{length-insert, get_or-insert_at, get_or-insert_below, get_or-insert_above}
use Rattle.blob_rows.specs.declared.extent.Extent.{Extent}
use Rattle.blob_rows.specs.Places.{overlaps, is_free}
use Rattle.blob_rows.specs.Extents.{AreApart}

and_turned : (a b : Bool) → a && b ≡ b && a
and_turned true true = refl
and_turned true false = refl
and_turned false true = refl
and_turned false false = refl

overlaps-turned : (a b : Extent) → overlaps a.at a.units b ≡ overlaps b.at b.units a
overlaps-turned a b = and_turned (ltb b.at (a.at + a.units)) (ltb a.at (b.at + b.units))

-- free units share none with any of the extents
clear_of_free : (p n : ℕ) (xs : List Extent) (k : ℕ) (d : Extent) → is_free xs n p ≡ true → k < length xs → overlaps p n (get_or xs k d) ≡ false
clear_of_free p n [] k d free low = absurd (omega arith)
clear_of_free p n (x ∷ xs) k d free low = by_test (overlaps p n x) refl free k low (clear_of_free p n xs)
  where
    by_test : (t : Bool) → overlaps p n x ≡ t → not (t || list_any (overlaps p n) xs) ≡ true → (k : ℕ) → k < length (x ∷ xs) →
        ((k : ℕ) (d : Extent) → is_free xs n p ≡ true → k < length xs → overlaps p n (get_or xs k d) ≡ false) → overlaps p n (get_or (x ∷ xs) k d) ≡ false
    by_test true is free k low rest = absurd (cc)
    by_test false is free zero low rest = is
    by_test false is free (suc k) low rest = rest k d free (omega arith)

-- two extents at different places
pub clear_of : (xs : List Extent) (i j : ℕ) (d : Extent) → AreApart xs → i < length xs → j < length xs → i ≢ j → overlaps (get_or xs i d).at (get_or xs i d).units (get_or xs j d) ≡ false
clear_of xs i j d apart low high other =
    elim (cases_lt i j) [
      | inl less ↦ apart i j d less high
      | inr rest ↦ let more : j < i = omega (arith, other) in overlaps-turned (get_or xs i d) (get_or xs j d) ∙ apart j i d more low
    ]

-- two extents that share no unit: one ends before the other begins
pub one_first : (a b : Extent) → 1 ≤ a.units → 1 ≤ b.units → overlaps a.at a.units b ≡ false → (a.at + a.units ≤ b.at) ⊎ (b.at + b.units ≤ a.at)
one_first a b some other clear = grind (arith, nat_tests)

-- an extent more, which shares no unit with the others
module _ (xs : List Extent) (i : ℕ) (e : Extent) (within : i ≤ length xs) (apart : AreApart xs) (free : is_free xs e.units e.at ≡ true) where
  clear : (a b x y : Extent) → x ≡ a → y ≡ b → overlaps a.at a.units b ≡ false → overlaps x.at x.units y ≡ false
  clear a b x y first second h = ap (λ (z : Extent). overlaps z.at z.units y) first ∙ ap (λ (z : Extent). overlaps a.at a.units z) second ∙ h

  behind : (k : ℕ) (d : Extent) → i < k → get_or (insert xs i e) k d ≡ get_or xs (k - 1) d
  behind k d high = let next : k ≡ (k - 1) + 1 = omega arith in
      ap (λ (n : ℕ). get_or (insert xs i e) n d) next ∙ get_or-insert_above xs i e d (k - 1) (omega arith) within

  from_before : (j k : ℕ) (d : Extent) → j < i → j < k → k < length xs + 1 → overlaps (get_or (insert xs i e) j d).at (get_or (insert xs i e) j d).units (get_or (insert xs i e) k d) ≡ false
  from_before j k d low less high =
      let own = get_or-insert_below xs i e d j low within in
      elim (cases_lt k i) [
        | inl before ↦ clear (get_or xs j d) (get_or xs k d) _ _ own (get_or-insert_below xs i e d k before within) (apart j k d less (omega arith))
        | inr other ↦ elim (cases_lt i k) [
          | inl far ↦ clear (get_or xs j d) (get_or xs (k - 1) d) _ _ own (behind k d far) (apart j (k - 1) d (omega arith) (omega arith))
          | inr same ↦ let at : k ≡ i = omega arith in
              clear (get_or xs j d) e _ _ own (ap (λ (n : ℕ). get_or (insert xs i e) n d) at ∙ get_or-insert_at xs i e d within)
              (overlaps-turned (get_or xs j d) e ∙ clear_of_free e.at e.units xs j d free (omega arith))
        ]
      ]

  from_behind : (j k : ℕ) (d : Extent) → i ≤ j → j < k → k < length xs + 1 → overlaps (get_or (insert xs i e) j d).at (get_or (insert xs i e) j d).units (get_or (insert xs i e) k d) ≡ false
  from_behind j k d low less high =
      elim (cases_lt i j) [
        | inl far ↦ clear (get_or xs (j - 1) d) (get_or xs (k - 1) d) _ _ (behind j d far) (behind k d (omega arith)) (apart (j - 1) (k - 1) d (omega arith) (omega arith))
        | inr same ↦ let at : j ≡ i = omega arith in
            clear e (get_or xs (k - 1) d) _ _ (ap (λ (n : ℕ). get_or (insert xs i e) n d) at ∙ get_or-insert_at xs i e d within) (behind k d (omega arith))
            (clear_of_free e.at e.units xs (k - 1) d free (omega arith))
      ]

  pub insert-apart : AreApart (insert xs i e)
  insert-apart = λ j k d less low.
      let high : k < length xs + 1 = omega (arith, low, length-insert xs i e within) in
      elim (cases_lt j i) [
        | inl before ↦ from_before j k d before less high
        | inr after ↦ from_behind j k d after less high
      ]

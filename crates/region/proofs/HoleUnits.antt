-- Which units are in holes, by the units at which the holes start.
use Rattle.std.proofs.Common.{◌≡◌, ℕ, zero, suc, ◌+◌, ◌<◌, ◌≤◌, Bool, true, false, List, refl, sym, subst, arith, inl, inr, ltb}
use Rattle.std.proofs.lemmas.Bool.{cases_lt, cases_eq, cases_Bool, lt-ltb, ltb-true, or_cases, or_left, or_right}
use Rattle.std.proofs.lemmas.List.FromFn.{get_or-map-range_with_len}
use Rattle.region.specs.HoleSizes.{size_at, is_reached, is_in_hole, region_of, AreHoles}
use Rattle.region.specs.Plain.{is_free_unit}

-- ---- a unit in a hole

abbrev pub InHole : List ℕ → ℕ → Type 0
InHole sizes u = (s : ℕ) × (s ≤ u) × (u < s + size_at sizes s)

reached : (sizes : List ℕ) (u n s : ℕ) → s < n → u < s + size_at sizes s → is_reached sizes u n ≡ true
reached sizes u zero s low past = absurd (omega arith)
reached sizes u (suc n) s low past =
    elim (cases_eq s n) [
      | inl same ↦ or_left (ltb u (n + size_at sizes n)) (is_reached sizes u n) (lt-ltb u (n + size_at sizes n) (subst (λ (k : ℕ). u < k + size_at sizes k) same past))
      | inr other ↦ or_right (ltb u (n + size_at sizes n)) (is_reached sizes u n) (reached sizes u n s (omega (arith, low, other)) past)
    ]

reaching : (sizes : List ℕ) (u n : ℕ) → is_reached sizes u n ≡ true → (s : ℕ) × (s < n) × (u < s + size_at sizes s)
reaching sizes u zero is = absurd (cc)
reaching sizes u (suc n) is =
    elim (or_cases (ltb u (n + size_at sizes n)) (is_reached sizes u n) is) [
      | inl last ↦ (n, omega arith, ltb-true u (n + size_at sizes n) last)
      | inr earlier ↦ let found = reaching sizes u n earlier in (found.0, omega (arith, found.1), found.2)
    ]

pub in_hole : (sizes : List ℕ) (u : ℕ) → InHole sizes u → is_in_hole sizes u ≡ true
in_hole sizes u hole = reached sizes u (suc u) hole.0 (omega (arith, hole.1)) hole.2

pub hole_of : (sizes : List ℕ) (u : ℕ) → is_in_hole sizes u ≡ true → InHole sizes u
hole_of sizes u is = let found = reaching sizes u (suc u) is in (found.0, omega (arith, found.1), found.2)

-- such a unit is free, and no other one
pub free_unit : (sizes : List ℕ) (units u : ℕ) → u < units → is_free_unit (region_of sizes units) u ≡ is_in_hole sizes u
free_unit sizes units u low = get_or-map-range_with_len (is_in_hole sizes) 0 units u u false low (omega arith)

-- two tests that hold of the same
pub same_test : (a b : Bool) → (a ≡ true → b ≡ true) → (b ≡ true → a ≡ true) → a ≡ b
same_test true b there back = sym (there refl)
same_test false true there back = back refl
same_test false false there back = refl

-- ---- holes are apart

module _ (sizes : List ℕ) (holes : AreHoles sizes) where
  -- no hole starts in another one, or right behind it
  pub no_start : (s u : ℕ) → 1 ≤ size_at sizes u → s < u → s + size_at sizes s < u
  no_start s u starts before =
      elim (cases_lt (s + size_at sizes s) u) [
        | inl apart ↦ apart
        | inr over ↦ let none = (holes s (omega (arith, before, over))).1 u before over in absurd (omega (arith, none, starts))
      ]

  -- the unit behind a hole is in none
  pub none_behind : (s : ℕ) → 1 ≤ size_at sizes s → is_in_hole sizes (s + size_at sizes s) ≡ false
  none_behind s starts =
      elim (cases_Bool (is_in_hole sizes (s + size_at sizes s))) [
        | inl is ↦ absurd (not_there (hole_of sizes (s + size_at sizes s) is))
        | inr none ↦ none
      ]
    where
      not_there : InHole sizes (s + size_at sizes s) → ⊥
      not_there hole =
          let r : ℕ = hole.0 in
          elim (cases_lt r s) [
            | inl before ↦ let apart = no_start r s starts before in omega (arith, apart, hole.2)
            | inr more ↦ elim (cases_eq s r) [
              | inl same ↦ let past : s + size_at sizes s < s + size_at sizes s = subst (λ (k : ℕ). s + size_at sizes s < k + size_at sizes k) (sym same) hole.2 in omega (arith, past)
              | inr other ↦ let none = (holes s starts).1 r (omega (arith, more, other)) hole.1 in omega (arith, none, hole.1, hole.2)
            ]
          ]

-- One unit and runs of units.
use Rattle.std.proofs.Common.{◌≡◌, ℕ, suc, ◌+◌, ◌<◌, ◌≤◌, Bool, true, false, not, ◌||◌, ◌⊎◌, List, [], ◌∷◌, refl, ap, ◌∙◌, arith, inl, inr, ltb}
use Rattle.std.specs.List.{list_any, All}
use Rattle.std.proofs.lemmas.Bool.{cases_lt, both_ways, ltb-true, and_parts, or_parts, or_cases, or_left, or_right, not-false}
use Rattle.std.proofs.lemmas.Bool.Decides.{nat_tests}
use Rattle.blob_rows.specs.declared.extent.Extent.{Extent}
use Rattle.blob_rows.specs.Places.{overlaps, is_free}
use Rattle.region.specs.FreeUnits.{is_within}

-- each extent has a unit, by recursion over the list
abbrev pub Each : List Extent → Type 0
Each [] = Unit
Each (e ∷ es) = (1 ≤ e.units) × Each es

pub each_from : (es : List Extent) → All (λ e. 1 ≤ e.units) es → Each es
each_from [] all = tt
each_from (e ∷ es) all = (all 0 e (omega arith), each_from es (λ k d low. all (suc k) d (omega (arith, low))))

pub has_unit : (e : Extent) (u : ℕ) → e.at ≤ u → u < e.at + e.units → overlaps u 1 e ≡ true
has_unit e u low high = grind (arith, nat_tests)

pub unit_before : (e : Extent) (u : ℕ) → u < e.at → overlaps u 1 e ≡ false
unit_before e u low = grind (arith, nat_tests)

pub unit_behind : (e : Extent) (u : ℕ) → e.at + e.units ≤ u → overlaps u 1 e ≡ false
unit_behind e u high = grind (arith, nat_tests)

pub unit_inside : (e : Extent) (u : ℕ) → overlaps u 1 e ≡ true → (e.at ≤ u) × (u < e.at + e.units)
unit_inside e u is =
    let parts = and_parts (ltb e.at (u + 1)) (ltb u (e.at + e.units)) is in
    let low = ltb-true e.at (u + 1) parts.0 in
    let high = ltb-true u (e.at + e.units) parts.1 in
    (omega arith, high)

pub unit_outside : (e : Extent) (u : ℕ) → overlaps u 1 e ≡ false → e.at ≤ u → e.at + e.units ≤ u
unit_outside e u is low =
    elim (cases_lt u (e.at + e.units)) [
      | inl high ↦ absurd (both_ways (overlaps u 1 e) is (has_unit e u low high))
      | inr far ↦ far
    ]

-- a run of which a unit is in use is not free
meets : (q n : ℕ) (e : Extent) → e.at < q + n → q < e.at + e.units → overlaps q n e ≡ true
meets q n e low high = grind (arith, nat_tests)

pub run_blocked : (es : List Extent) (u q n : ℕ) → is_within es u ≡ true → q ≤ u → u < q + n → is_free es n q ≡ false
run_blocked [] u q n is low high = absurd (cc)
run_blocked (e ∷ es) u q n is low high = ap not (wider (or_cases (overlaps u 1 e) (is_within es u) is) (λ rest. run_blocked es u q n rest low high))
  where
    wider : (overlaps u 1 e ≡ true) ⊎ (is_within es u ≡ true) → (is_within es u ≡ true → is_free es n q ≡ false) → (overlaps q n e || list_any (overlaps q n) es) ≡ true
    wider (inl own) later = let at = unit_inside e u own in or_left (overlaps q n e) (list_any (overlaps q n) es) (meets q n e (omega (arith, at.0)) (omega (arith, at.1)))
    wider (inr rest) later = or_right (overlaps q n e) (list_any (overlaps q n) es) (not-false (list_any (overlaps q n) es) (later rest))

-- units that are all free are free as a run, where each extent has a unit
pub run_free : (es : List Extent) (p n : ℕ) → 1 ≤ n → Each es → ((u : ℕ) → p ≤ u → u < p + n → is_within es u ≡ false) → is_free es n p ≡ true
run_free [] p n wide some free = refl
run_free (e ∷ es) p n wide some free =
    let rest = run_free es p n wide some.1 (λ u low high. (or_parts (overlaps u 1 e) (is_within es u) (free u low high)).1) in
    let own : overlaps p n e ≡ false = clear (λ u low high. (or_parts (overlaps u 1 e) (is_within es u) (free u low high)).0) in
    ap (λ (t : Bool). not (t || list_any (overlaps p n) es)) own ∙ rest
  where
    clear : ((u : ℕ) → p ≤ u → u < p + n → overlaps u 1 e ≡ false) → overlaps p n e ≡ false
    clear each =
        elim (cases_lt e.at (p + n)) [
          | inl before ↦ elim (cases_lt p (e.at + e.units)) [
            | inl meets ↦ elim (cases_lt e.at p) [
              | inl low ↦ absurd (both_ways (overlaps p 1 e) (each p (omega arith) (omega (arith, wide))) (has_unit e p (omega (arith, low)) meets))
              | inr high ↦ absurd (both_ways (overlaps e.at 1 e) (each e.at high before) (has_unit e e.at (omega arith) (omega (arith, some.0))))
            ]
            | inr past ↦ grind (arith, nat_tests)
          ]
          | inr behind ↦ grind (arith, nat_tests)
        ]

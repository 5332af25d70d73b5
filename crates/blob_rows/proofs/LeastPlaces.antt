-- The least place is what it says, whatever finds it.
use Rattle.std.proofs.Common.{◌≡◌, ℕ, zero, suc, ◌+◌, ◌-◌, ◌<◌, ◌≤◌, Bool, true, false, not, cond, List, Option, Some, None, refl, sym, ap, ◌∙◌, subst, arith, inl, inr, ltb}
use Rattle.std.proofs.lemmas.Bool.{cases_lt, ltb-true, ltb-false, both_ways}
use Rattle.blob_rows.proofs.SameItems.{list_any-same}
use Rattle.blob_rows.specs.declared.extent.Extent.{Extent}
use Rattle.blob_rows.specs.Places.{overlaps, is_free, first_free, least_place}
use Rattle.blob_rows.specs.SameItems.{SameItems}

-- of the places from one on, the first that is free
abbrev pub IsLeastFrom : List Extent → ℕ → ℕ → ℕ → Option ℕ → Type 0
IsLeastFrom es n units from None = (q : ℕ) → from ≤ q → q + n ≤ units → is_free es n q ≡ false
IsLeastFrom es n units from (Some p) = (from ≤ p) × (p + n ≤ units) × (is_free es n p ≡ true) × ((q : ℕ) → from ≤ q → q < p → is_free es n q ≡ false)

pub only_one : (es : List Extent) (n units from : ℕ) (a b : Option ℕ) → IsLeastFrom es n units from a → IsLeastFrom es n units from b → a ≡ b
only_one es n units from None None a b = refl
only_one es n units from None (Some r) a b = absurd (both_ways (is_free es n r) (a r b.0 b.1) b.2)
only_one es n units from (Some p) None a b = absurd (both_ways (is_free es n p) (b p a.0 a.1) a.2)
only_one es n units from (Some p) (Some r) a b =
    elim (cases_lt p r) [
      | inl low ↦ absurd (both_ways (is_free es n p) (b.3 p a.0 low) a.2)
      | inr high ↦ elim (cases_lt r p) [
        | inl low ↦ absurd (both_ways (is_free es n r) (a.3 r b.0 low) b.2)
        | inr other ↦ let e : p ≡ r = omega arith in ap (λ (k : ℕ). Some k) e
      ]
    ]

-- a place that is not free is passed over
skip_one : (es : List Extent) (n units from : ℕ) (o : Option ℕ) → is_free es n from ≡ false → IsLeastFrom es n units (from + 1) o → IsLeastFrom es n units from o
skip_one es n units from None taken least = λ q le fits.
    elim (cases_lt from q) [
      | inl low ↦ least q (omega arith) fits
      | inr high ↦ let e : from ≡ q = omega arith in subst (λ (k : ℕ). is_free es n k ≡ false) e taken
    ]
skip_one es n units from (Some p) taken least = (
  omega (arith, least.0),
  least.1,
  least.2,
  λ q le below.
      elim (cases_lt from q) [
        | inl low ↦ least.3 q (omega arith) below
        | inr high ↦ let e : from ≡ q = omega arith in subst (λ (k : ℕ). is_free es n k ≡ false) e taken
      ],
)

scanned : (es : List Extent) (n units tries place : ℕ) → place + tries + n ≡ units + 1 → IsLeastFrom es n units place (first_free es n tries place)
scanned es n units zero place size = λ q le fits. absurd (omega arith)
scanned es n units (suc tries) place size = by_test (is_free es n place) refl (scanned es n units tries (place + 1) (omega arith))
  where
    by_test : (t : Bool) → is_free es n place ≡ t → IsLeastFrom es n units (place + 1) (first_free es n tries (place + 1)) →
        IsLeastFrom es n units place (elim t [ true ↦ Some place | false ↦ first_free es n tries (place + 1) ])
    by_test true test rest = (omega arith, omega arith, test, λ q le below. absurd (omega arith))
    by_test false test rest = skip_one es n units place (first_free es n tries (place + 1)) test rest

pub least_place-least : (es : List Extent) (units n : ℕ) → IsLeastFrom es n units 0 (least_place es units n)
least_place-least es units n = by_test (ltb units n) refl
  where
    by_test : (t : Bool) → ltb units n ≡ t → IsLeastFrom es n units 0 (cond t None (first_free es n (units + 1 - n) 0))
    by_test true test = λ q le fits. let h = ltb-true units n test in absurd (omega arith)
    by_test false test = let h = ltb-false units n test in scanned es n units (units + 1 - n) 0 (omega arith)

-- ---- extents in another order

least-alike : (xs ys : List Extent) (n units from : ℕ) (o : Option ℕ) → ((q : ℕ) → is_free xs n q ≡ is_free ys n q) → IsLeastFrom xs n units from o → IsLeastFrom ys n units from o
least-alike xs ys n units from None same least = λ q le fits. sym (same q) ∙ least q le fits
least-alike xs ys n units from (Some p) same least =
    (least.0, least.1, sym (same p) ∙ least.2, λ q le below. sym (same q) ∙ least.3 q le below)

-- the least place asks nothing of the order of the extents
pub least_place-same : (xs ys : List Extent) (units n : ℕ) → SameItems xs ys → least_place xs units n ≡ least_place ys units n
least_place-same xs ys units n same =
    only_one ys n units 0 (least_place xs units n) (least_place ys units n)
    (least-alike xs ys n units 0 (least_place xs units n) (λ q. ap not (list_any-same (overlaps q n) xs ys same)) (least_place-least xs units n)) (least_place-least ys units n)

-- a least place is free, and lies inside
pub least_place-free : (es : List Extent) (units n p : ℕ) → least_place es units n ≡ Some p → (p + n ≤ units) × (is_free es n p ≡ true)
least_place-free es units n p is =
    let least = subst (λ (o : Option ℕ). IsLeastFrom es n units 0 o) is (least_place-least es units n) in (least.1, least.2)

-- Extents that come into use and go out of it.
use Rattle.std.proofs.Common.{◌≡◌, ◌≢◌, ℕ, zero, suc, ◌+◌, ◌<◌, ◌≤◌, Bool, true, false, not, cond, ◌&&◌, ◌||◌, List, [], ◌∷◌, length, get_or, take, drop, refl, sym, ap, ◌∙◌, subst, arith, inl, inr, ltb}
use Rattle.std.specs.List.{insert, remove, All, Contains}
use Rattle.std.proofs.lemmas.Bool.{cases_Bool, both_ways, lt-ltb, and_from}
use Rattle.std.proofs.lemmas.Bool.Decides.{nat_tests}
use Rattle.std.proofs.lemmas.List.Elements.{All-append, All-cons, All-take, All-drop, All-filter}
use Rattle.std.proofs.lemmas.List.{get_or_default}
use Rattle.std.proofs.lemmas.List.Folds.{list_any_at}
use Rattle.blob_rows.specs.declared.extent.Extent.{Extent}
use Rattle.blob_rows.specs.Places.{overlaps}
use Rattle.blob_rows.specs.Extents.{is_same_extent, without_extent, AreApart}
use Rattle.blob_rows.proofs.SameItems.{list_any-same, insert-same}
use Rattle.region.specs.Plain.{RegionState, is_free_unit}
use Rattle.region.specs.FreeUnits.{is_within, IsFreeBeside, AreInUse}
use Rattle.region.proofs.Runs.{unit_inside}
use Rattle.region.proofs.Overlaps.{clear_of}

-- ---- an extent more

units_inserted : (extents : List Extent) (i u : ℕ) (e : Extent) → is_within (insert extents i e) u ≡ (is_within extents u || overlaps u 1 e)
units_inserted extents i u e = list_any-same (overlaps u 1) (insert extents i e) (e ∷ extents) (insert-same extents i e) ∙ turned (overlaps u 1 e) (is_within extents u)
  where
    turned : (a b : Bool) → (a || b) ≡ (b || a)
    turned true true = refl
    turned true false = refl
    turned false true = refl
    turned false false = refl

pub placed : (old new : RegionState) (extents : List Extent) (i : ℕ) (e : Extent) → IsFreeBeside old extents → 1 ≤ e.units → new.units ≡ old.units →
    ((u : ℕ) → u < old.units → is_free_unit new u ≡ (is_free_unit old u && not (overlaps u 1 e))) → IsFreeBeside new (insert extents i e)
placed old new extents i e beside some units takes =
    record {
      some = All-append (λ x. 1 ≤ x.units) (take i extents) (e ∷ drop i extents) (All-take (λ x. 1 ≤ x.units) i extents beside.some)
          (All-cons (λ x. 1 ≤ x.units) e (drop i extents) some (All-drop (λ x. 1 ≤ x.units) i extents beside.some));
      free = λ u low. takes u (omega (arith, low, units)) ∙ ap (λ (t : Bool). t && not (overlaps u 1 e)) (beside.free u (omega (arith, low, units)))
          ∙ by_case (is_within extents u) (overlaps u 1 e) ∙ ap not (sym (units_inserted extents i u e));
    }
  where
    by_case : (x o : Bool) → (not x && not o) ≡ not (x || o)
    by_case true o = refl
    by_case false o = refl

-- ---- an extent less

same_itself : (e : Extent) → is_same_extent e e ≡ true
same_itself e = grind (arith, nat_tests)

same_extent : (a b : Extent) → a.at ≡ b.at → a.units ≡ b.units → a ≡ b
same_extent a b at units = λ i. record { at = at i; units = units i }

pub is_same_extent-tells : (a b : Extent) → is_same_extent a b ≡ true → a ≡ b
is_same_extent-tells a b is = same_extent a b (grind (arith, nat_tests)) (grind (arith, nat_tests))

-- two extents with a unit in common overlap
overlap_at : (a b : Extent) (u : ℕ) → overlaps u 1 a ≡ true → overlaps u 1 b ≡ true → overlaps a.at a.units b ≡ true
overlap_at a b u first second =
    let own = unit_inside a u first in
    let other = unit_inside b u second in
    and_from (ltb b.at (a.at + a.units)) (ltb a.at (b.at + b.units)) (lt-ltb b.at (a.at + a.units) (omega (arith, own.1, other.0))) (lt-ltb a.at (b.at + b.units) (omega (arith, other.1, own.0)))

-- an extent that is another than this one has none of its units
others_clear : (es : List Extent) (e : Extent) (u k : ℕ) (d : Extent) → AreApart es → Contains es e → overlaps u 1 e ≡ true → k < length es →
    is_same_extent e (get_or es k d) ≡ false → overlaps u 1 (get_or es k d) ≡ false
others_clear es e u k d apart has own low differs =
    elim (cases_Bool (overlaps u 1 (get_or es k d))) [
      | inl both ↦ absurd (both_ways (overlaps e.at e.units (get_or es k d)) clear (overlap_at e (get_or es k d) u own both))
      | inr none ↦ none
    ]
  where
    is : get_or es has.0 d ≡ e
    is = get_or_default es has.0 d e has.1 ∙ has.2

    other : has.0 ≢ k
    other same = both_ways (is_same_extent e (get_or es k d)) differs
        (ap (λ (x : Extent). is_same_extent e x) (ap (λ (n : ℕ). get_or es n d) (sym same) ∙ is) ∙ same_itself e)

    clear : overlaps e.at e.units (get_or es k d) ≡ false
    clear = ap (λ (x : Extent). overlaps x.at x.units (get_or es k d)) (sym is) ∙ clear_of es has.0 k d apart has.1 low other

units_without : (es : List Extent) (e : Extent) (u : ℕ) → ((k : ℕ) (d : Extent) → overlaps u 1 e ≡ true → k < length es → is_same_extent e (get_or es k d) ≡ false → overlaps u 1 (get_or es k d) ≡ false) →
    is_within (without_extent e es) u ≡ (is_within es u && not (overlaps u 1 e))
units_without [] e u clear = refl
units_without (x ∷ es) e u clear =
    by_test (is_same_extent e x) (λ is. ap (λ (y : Extent). overlaps u 1 y) (sym (is_same_extent-tells e x is))) (λ is own. clear 0 x own (omega arith) is)
    (units_without es e u (λ k d own low. clear (suc k) d own (omega (arith, low))))
  where
    by_test : (t : Bool) → (t ≡ true → overlaps u 1 x ≡ overlaps u 1 e) → (t ≡ false → overlaps u 1 e ≡ true → overlaps u 1 x ≡ false) →
        is_within (without_extent e es) u ≡ (is_within es u && not (overlaps u 1 e)) →
        is_within (cond (not t) (x ∷ without_extent e es) (without_extent e es)) u ≡ ((overlaps u 1 x || is_within es u) && not (overlaps u 1 e))
    by_test true same other rest = rest ∙ by_same (overlaps u 1 x) (overlaps u 1 e) (is_within es u) (same refl)
      where
        by_same : (a o w : Bool) → a ≡ o → (w && not o) ≡ ((a || w) && not o)
        by_same true true true is = refl
        by_same true true false is = refl
        by_same true false w is = absurd (cc)
        by_same false o w is = refl
    by_test false same other rest = ap (λ (t : Bool). overlaps u 1 x || t) rest ∙ by_other (overlaps u 1 x) (overlaps u 1 e) (is_within es u) (other refl)
      where
        by_other : (a o w : Bool) → (o ≡ true → a ≡ false) → (a || (w && not o)) ≡ ((a || w) && not o)
        by_other true true w is = is refl
        by_other true false w is = refl
        by_other false o w is = refl

-- in a list the extent stands at one index alone
differs : (a b : Extent) → 1 ≤ a.units → overlaps a.at a.units b ≡ false → is_same_extent a b ≡ false
differs a b some clear = grind (arith, nat_tests)

differs_back : (a b : Extent) → 1 ≤ a.units → overlaps a.at a.units b ≡ false → is_same_extent b a ≡ false
differs_back a b some clear = grind (arith, nat_tests)

none_same : (es : List Extent) (e : Extent) → ((k : ℕ) (d : Extent) → k < length es → is_same_extent e (get_or es k d) ≡ false) → without_extent e es ≡ es
none_same [] e other = refl
none_same (x ∷ es) e other =
    ap (λ (t : Bool). cond (not t) (x ∷ without_extent e es) (without_extent e es)) (other 0 x (omega arith))
    ∙ ap (λ (l : List Extent). x ∷ l) (none_same es e (λ k d low. other (suc k) d (omega (arith, low))))

pub remove-is : (es : List Extent) (i : ℕ) (e : Extent) → AreApart es → All (λ x. 1 ≤ x.units) es → i < length es → get_or es i e ≡ e → remove es i ≡ without_extent e es
remove-is [] i e apart some low is = absurd (omega arith)
remove-is (x ∷ es) zero e apart some low is =
    let own : is_same_extent e x ≡ true = ap (λ (y : Extent). is_same_extent e y) is ∙ same_itself e in
    let others = none_same es e (λ k d under.
    subst (λ (y : Extent). is_same_extent y (get_or es k d) ≡ false) is
    (differs x (get_or es k d) (some 0 x low) (apart 0 (suc k) d (omega arith) (omega (arith, under))))) in
    sym (ap (λ (t : Bool). cond (not t) (x ∷ without_extent e es) (without_extent e es)) own ∙ others)
remove-is (x ∷ es) (suc i) e apart some low is =
    let other : is_same_extent e x ≡ false =
    subst (λ (y : Extent). is_same_extent y x ≡ false) is (differs_back x (get_or es i e) (some 0 x (omega arith)) (apart 0 (suc i) e (omega arith) low)) in
    let rest = remove-is es i e (λ j k d less under. apart (suc j) (suc k) d (omega (arith, less)) (omega (arith, under))) (λ k d under. some (suc k) d (omega (arith, under))) (omega (arith, low)) is in
    ap (λ (l : List Extent). x ∷ l) rest ∙ sym (ap (λ (t : Bool). cond (not t) (x ∷ without_extent e es) (without_extent e es)) other)

-- an extent in use has a unit and lies inside
pub in_use : (region : RegionState) (extents : List Extent) (e : Extent) → Contains extents e → AreInUse region extents → (1 ≤ e.units) × (e.at + e.units ≤ region.units)
in_use region extents e has used = (
  subst (λ (x : Extent). 1 ≤ x.units) has.2 (used.beside.some has.0 e has.1),
  subst (λ (x : Extent). x.at + x.units ≤ region.units) has.2 (used.inside has.0 e has.1),
)

-- no unit of an extent in use is free
pub not_free : (region : RegionState) (extents : List Extent) (e : Extent) → Contains extents e → AreInUse region extents → (u : ℕ) → overlaps u 1 e ≡ true → is_free_unit region u ≡ false
not_free region extents e has used u own =
    let at = unit_inside e u own in
    let inside = (in_use region extents e has used).1 in
    let there : is_within extents u ≡ true = list_any_at (overlaps u 1) extents has.0 e has.1 (ap (λ (x : Extent). overlaps u 1 x) has.2 ∙ own) in
    used.beside.free u (omega (arith, at.1, inside)) ∙ ap not there

pub freed : (old new : RegionState) (extents : List Extent) (e : Extent) → Contains extents e → AreInUse old extents → new.units ≡ old.units →
    ((u : ℕ) → u < old.units → is_free_unit new u ≡ (is_free_unit old u || overlaps u 1 e)) → IsFreeBeside new (without_extent e extents)
freed old new extents e has used units frees =
    record {
      some = All-filter (λ other. not (is_same_extent e other)) (λ x. 1 ≤ x.units) extents used.beside.some;
      free = λ u low. frees u (omega (arith, low, units)) ∙ ap (λ (t : Bool). t || overlaps u 1 e) (used.beside.free u (omega (arith, low, units)))
          ∙ by_case (is_within extents u) (overlaps u 1 e)
          ∙ ap not (sym (units_without extents e u (λ k d own low differs. others_clear extents e u k d used.apart has own low differs)));
    }
  where
    by_case : (x o : Bool) → (not x || o) ≡ not (x && not o)
    by_case true true = refl
    by_case true false = refl
    by_case false o = refl

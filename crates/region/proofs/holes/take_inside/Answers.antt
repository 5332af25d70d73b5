-- All units up to the end of the extent are taken, and those before the extent are given back.
use Rattle.std.proofs.Common.{◌≡◌, ℕ, ◌+◌, ◌-◌, ◌≤◌, Bool, true, false, not, ◌&&◌, ◌||◌, List, refl, ap, sym, ◌∙◌, arith, inl, inr}
use Rattle.std.proofs.lemmas.Bool.{cases_lt}
use Rattle.blob_rows.specs.declared.extent.Extent.{Extent}
use Rattle.blob_rows.specs.Places.{overlaps}
use Rattle.region.specs.HoleSizes.{size_at, is_in_hole, AreHoles, IsOutside, IsTaken}
use Rattle.region.proofs.Runs.{has_unit, unit_before, unit_behind, unit_inside}
use Rattle.region.proofs.HoleUnits.{in_hole}
use Rattle.region.proofs.Taking.{units_taken}
use Rattle.region.proofs.Joining.{units_joined, holes_joined}
use Rattle.region.proofs.holes.take_inside.Goals as goal

-- the front that is taken, the part of it before the extent, and the extent
abbrev front : ℕ → Extent → Extent
front start e = record { at = start; units = e.at - start + e.units }

abbrev lead : ℕ → Extent → Extent
lead start e = record { at = start; units = e.at - start }

-- a unit of the front is one of the part before the extent, or of the extent
split_front : (start : ℕ) (e : Extent) → start ≤ e.at → (u : ℕ) → overlaps u 1 (front start e) ≡ (overlaps u 1 (lead start e) || overlaps u 1 e)
split_front start e low u =
    elim (cases_lt u start) [
      | inl before ↦ unit_before (front start e) u before ∙ sym (ap (λ (t : Bool). t || overlaps u 1 e) (unit_before (lead start e) u before) ∙ unit_before e u (omega (arith, before, low)))
      | inr from ↦ elim (cases_lt u e.at) [
        | inl early ↦ has_unit (front start e) u from (omega (arith, early, low)) ∙ sym (ap (λ (t : Bool). t || overlaps u 1 e) (has_unit (lead start e) u from (omega (arith, early, low))))
        | inr own ↦ elim (cases_lt u (e.at + e.units)) [
          | inl inside ↦ has_unit (front start e) u from (omega (arith, inside, low)) ∙ sym (ap (λ (t : Bool). t || overlaps u 1 e) (unit_behind (lead start e) u (omega (arith, own, low))) ∙ has_unit e u own inside)
          | inr far ↦ unit_behind (front start e) u (omega (arith, far, low)) ∙ sym (ap (λ (t : Bool). t || overlaps u 1 e) (unit_behind (lead start e) u (omega (arith, own, low))) ∙ unit_behind e u far)
        ]
      ]
    ]

module _ (old mid : List ℕ) (start : ℕ) (e : Extent) (holes : AreHoles old) (some : 1 ≤ e.units) (low : start ≤ e.at) (room : e.at + e.units ≤ start + size_at old start) (taken : IsTaken old mid start (e.at - start + e.units)) where
  mid_is : (u : ℕ) → is_in_hole mid u ≡ (is_in_hole old u && not (overlaps u 1 (front start e)))
  mid_is u = units_taken old mid start (e.at - start + e.units) holes (omega (arith, some)) (omega (arith, room, low)) taken u

  -- the part before the extent was in the hole, and then is in none
  lead_was : (u : ℕ) → overlaps u 1 (lead start e) ≡ true → is_in_hole old u ≡ true
  lead_was u own = let at = unit_inside (lead start e) u own in in_hole old u (start, at.0, omega (arith, at.1, room, some, low))

  lead_outside : IsOutside mid (lead start e)
  lead_outside u own = mid_is u ∙ by_parts (is_in_hole old u) (overlaps u 1 e) (overlaps u 1 (lead start e)) (overlaps u 1 (front start e)) own (split_front start e low u)
    where
      by_parts : (h o l f : Bool) → l ≡ true → f ≡ (l || o) → (h && not f) ≡ false
      by_parts true o true true l is = refl
      by_parts false o true true l is = refl
      by_parts h o true false l is = absurd (cc (is))
      by_parts h o false f l is = absurd (cc (l))

  -- once it is given back, the extent's units alone are gone
  all_taken : (new : List ℕ) → ((u : ℕ) → is_in_hole new u ≡ (is_in_hole mid u || overlaps u 1 (lead start e))) → (u : ℕ) → is_in_hole new u ≡ (is_in_hole old u && not (overlaps u 1 e))
  all_taken new joined u =
      joined u ∙ ap (λ (t : Bool). t || overlaps u 1 (lead start e)) (mid_is u)
      ∙ by_parts (is_in_hole old u) (overlaps u 1 e) (overlaps u 1 (lead start e)) (overlaps u 1 (front start e)) (split_front start e low u) (lead_was u) apart
    where
      apart : overlaps u 1 (lead start e) ≡ true → overlaps u 1 e ≡ false
      apart own = let at = unit_inside (lead start e) u own in unit_before e u (omega (arith, at.1, low))

      by_parts : (h o l f : Bool) → f ≡ (l || o) → (l ≡ true → h ≡ true) → (l ≡ true → o ≡ false) → ((h && not f) || l) ≡ (h && not o)
      by_parts true true true f is was apart = absurd (cc (apart refl))
      by_parts true false true f is was apart = rw is refl
      by_parts false o true f is was apart = absurd (cc (was refl))
      by_parts true o false f is was apart = rw is (or_none (not o))
        where
          or_none : (b : Bool) → (b || false) ≡ b
          or_none true = refl
          or_none false = refl
      by_parts false o false f is was apart = refl

pub give_back-requires-clause-outside : goal.give_back-requires-clause-outside
give_back-requires-clause-outside c =
    lead_outside c.args.sizes.now c.take_front.new.sizes c.args.start c.args.extent c.requires.holes c.requires.some c.requires.behind c.requires.room c.take_front.ensures.taken

pub returns-then-before-gt0-clause-holes : goal.returns-then-before-gt0-clause-holes
returns-then-before-gt0-clause-holes c =
    let old : List ℕ = c.args.sizes.now in
    let mid : List ℕ = c.take_front.new.sizes in
    let e : Extent = c.args.extent in
    let start : ℕ = c.args.start in
    let low = c.requires.behind in
    let room = c.requires.room in
    let some = c.requires.some in
    let more = c.if-before-gt0.true in
    let count = c.take_front.ensures.count in
    let inside = (c.requires.holes start (omega (arith, room, some, low))).0 in
    let joins = c.give_back.ensures.joined in
    holes_joined mid c.give_back.new.sizes (lead start e) joins.0 c.take_front.ensures.holes (omega (arith, more)) (omega (arith, inside, count, room, low))
    (lead_outside old mid start e c.requires.holes some low room c.take_front.ensures.taken) joins.1 joins.2 c.give_back.ensures.count

pub returns-then-before-gt0-clause-taken : goal.returns-then-before-gt0-clause-taken
returns-then-before-gt0-clause-taken c =
    let old : List ℕ = c.args.sizes.now in
    let mid : List ℕ = c.take_front.new.sizes in
    let e : Extent = c.args.extent in
    let start : ℕ = c.args.start in
    let low = c.requires.behind in
    let room = c.requires.room in
    let some = c.requires.some in
    let more = c.if-before-gt0.true in
    let count = c.take_front.ensures.count in
    let inside = (c.requires.holes start (omega (arith, room, some, low))).0 in
    let joins = c.give_back.ensures.joined in
    all_taken old mid start e c.requires.holes some low room c.take_front.ensures.taken c.give_back.new.sizes
    (units_joined mid c.give_back.new.sizes (lead start e) joins.0 c.take_front.ensures.holes (omega (arith, more)) (omega (arith, inside, count, room, low))
    (lead_outside old mid start e c.requires.holes some low room c.take_front.ensures.taken) joins.1 joins.2)

pub returns-else-before-gt0-clause-taken : goal.returns-else-before-gt0-clause-taken
returns-else-before-gt0-clause-taken c = λ u.
    let old : List ℕ = c.args.sizes.now in
    let mid : List ℕ = c.take_front.new.sizes in
    let e : Extent = c.args.extent in
    let start : ℕ = c.args.start in
    let low = c.requires.behind in
    let none = c.if-before-gt0.false in
    let same : overlaps u 1 (lead start e) ≡ false = elim (cases_lt u start) [
      | inl before ↦ unit_before (lead start e) u before
      | inr from ↦ unit_behind (lead start e) u (omega (arith, from, none, low))
    ] in
    mid_is old mid start e c.requires.holes c.requires.some low c.requires.room c.take_front.ensures.taken u
    ∙ ap (λ (t : Bool). is_in_hole old u && not t) (split_front start e low u ∙ ap (λ (t : Bool). t || overlaps u 1 e) same)

-- The first units of a hole come into use.
use Rattle.std.proofs.Common.{◌≡◌, ℕ, ◌+◌, ◌-◌, ◌<◌, ◌≤◌, true, false, not, ◌&&◌, List, ap, ◌∙◌, subst, arith, inl, inr}
use Rattle.std.proofs.lemmas.Bool.{cases_lt, cases_eq, and_from, and_parts, not-true}
use Rattle.blob_rows.specs.declared.extent.Extent.{Extent}
use Rattle.blob_rows.specs.Places.{overlaps}
use Rattle.region.specs.HoleSizes.{size_at, is_in_hole, AreHoles, IsTaken}
use Rattle.region.proofs.Runs.{unit_before, unit_behind, unit_outside}
use Rattle.region.proofs.HoleUnits.{InHole, in_hole, hole_of, same_test, no_start}

module _ (old new : List ℕ) (at units : ℕ) (holes : AreHoles old) (some : 1 ≤ units) (room : units ≤ size_at old at) (taken : IsTaken old new at units) where
  -- the hole that is left
  left_at : (u : ℕ) → u ≡ at + units → size_at new u ≡ size_at old at - units
  left_at u same = ap (λ (k : ℕ). size_at new k) same ∙ taken.left

  taken_at : (u : ℕ) → u ≡ at → size_at new u ≡ 0
  taken_at u same = ap (λ (k : ℕ). size_at new k) same ∙ taken.taken

  -- a unit in the old hole, behind its first units
  in_left : (u : ℕ) → at + units ≤ u → u < at + size_at old at → InHole new u
  in_left u low high = let left = taken.left in (at + units, low, omega (arith, left, high))

  there : (u : ℕ) → InHole new u → InHole old u
  there u hole =
      let s : ℕ = hole.0 in
      elim (cases_eq s at) [
        | inl same ↦ let none = taken_at s same in absurd (omega (arith, none, hole.1, hole.2))
        | inr other ↦ elim (cases_eq s (at + units)) [
          | inl same ↦ let left = left_at s same in (at, omega (arith, hole.1, same), omega (arith, left, hole.1, hole.2, same))
          | inr apart ↦ let kept = taken.others s other apart in (s, hole.1, omega (arith, kept, hole.2))
        ]
      ]

  -- no unit that was taken is in a hole
  not_taken : (u : ℕ) → InHole new u → at ≤ u → at + units ≤ u
  not_taken u hole low =
      let s : ℕ = hole.0 in
      elim (cases_lt u (at + units)) [
        | inr far ↦ far
        | inl near ↦ elim (cases_eq s at) [
          | inl same ↦ let none = taken_at s same in absurd (omega (arith, none, hole.1, hole.2))
          | inr other ↦
              let kept = taken.others s other (omega (arith, near, hole.1)) in
              elim (cases_lt s at) [
                | inl before ↦ let apart = no_start old holes s at (omega (arith, some, room)) before in absurd (omega (arith, apart, kept, hole.2, low))
                | inr more ↦ let apart = no_start old holes at s (omega (arith, kept, hole.1, hole.2)) (omega (arith, more, other)) in absurd (omega (arith, apart, near, hole.1, room))
              ]
        ]
      ]

  back : (u : ℕ) → InHole old u → (at ≤ u → at + units ≤ u) → InHole new u
  back u hole outside =
      let s : ℕ = hole.0 in
      elim (cases_eq s at) [
        | inl same ↦
            let past : u < at + size_at old at = subst (λ (k : ℕ). u < k + size_at old k) same hole.2 in
            in_left u (outside (omega (arith, same, hole.1))) past
        | inr other ↦ elim (cases_eq s (at + units)) [
          | inl same ↦
              let starts : 1 ≤ size_at old s = omega (arith, hole.1, hole.2) in
              let apart = no_start old holes at s starts (omega (arith, same, some)) in absurd (omega (arith, apart, same, room))
          | inr apart ↦ let kept = taken.others s other apart in (s, hole.1, omega (arith, kept, hole.2))
        ]
      ]

  abbrev e : Extent
  e = record { at = at; units = units }

  pub units_taken : (u : ℕ) → is_in_hole new u ≡ (is_in_hole old u && not (overlaps u 1 e))
  units_taken u = same_test (is_in_hole new u) (is_in_hole old u && not (overlaps u 1 e)) is_left is_kept
    where
      clear : InHole new u → overlaps u 1 e ≡ false
      clear hole =
          elim (cases_lt u at) [
            | inl before ↦ unit_before e u before
            | inr from ↦ unit_behind e u (not_taken u hole from)
          ]

      is_left : is_in_hole new u ≡ true → (is_in_hole old u && not (overlaps u 1 e)) ≡ true
      is_left is =
          let hole = hole_of new u is in
          and_from (is_in_hole old u) (not (overlaps u 1 e)) (in_hole old u (there u hole)) (ap not (clear hole))

      is_kept : (is_in_hole old u && not (overlaps u 1 e)) ≡ true → is_in_hole new u ≡ true
      is_kept is =
          let parts = and_parts (is_in_hole old u) (not (overlaps u 1 e)) is in
          in_hole new u (back u (hole_of old u parts.0) (unit_outside e u (not-true (overlaps u 1 e) parts.1)))

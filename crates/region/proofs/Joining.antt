-- The units of an extent become free, in one hole with those that it touches.
use Rattle.std.proofs.Common.{◌≡◌, ◌≢◌, ℕ, ◌+◌, ◌<◌, ◌≤◌, true, ◌||◌, List, length, ap, ◌∙◌, subst, arith, inl, inr, ◌⊎◌}
use Rattle.std.proofs.lemmas.Bool.{cases_lt, cases_eq, both_ways, or_cases, or_left, or_right}
use Rattle.blob_rows.specs.declared.extent.Extent.{Extent}
use Rattle.blob_rows.specs.Places.{overlaps}
use Rattle.region.specs.HoleSizes.{size_at, is_in_hole, AreHoles, IsOutside, BeginsJoined, IsJoined}
use Rattle.region.proofs.Runs.{has_unit, unit_inside}
use Rattle.region.proofs.HoleUnits.{InHole, in_hole, hole_of, same_test, no_start}

module _ (old new : List ℕ) (e : Extent) (start : ℕ) (holes : AreHoles old) (some : 1 ≤ e.units) (fits : e.at + e.units ≤ length old) (outside : IsOutside old e)
    (begins : BeginsJoined old e.at start) (joined : IsJoined old new e start) where
  abbrev end : ℕ
  end = e.at + e.units

  before : start ≤ e.at
  before = elim begins [ inl touches ↦ omega (arith, touches.1) | inr own ↦ omega (arith, own.0) ]

  starts : 1 ≤ size_at new start
  starts = let reach = joined.joined in omega (arith, reach, before, some)

  joined_at : (u : ℕ) → u ≡ start → u + size_at new u ≡ end + size_at old end
  joined_at u same = ap (λ (k : ℕ). k + size_at new k) same ∙ joined.joined

  behind_at : (u : ℕ) → u ≡ end → size_at new u ≡ 0
  behind_at u same = ap (λ (k : ℕ). size_at new k) same ∙ joined.behind

  -- no hole reaches into the extent
  clear : (s u : ℕ) → s ≤ u → u < s + size_at old s → e.at ≤ u → end ≤ u
  clear s u from past low =
      elim (cases_lt u end) [
        | inl inside ↦ absurd (both_ways (is_in_hole old u) (outside u (has_unit e u low inside)) (in_hole old u (s, from, past)))
        | inr far ↦ far
      ]

  -- a unit of the joined hole before the extent
  in_before : (u : ℕ) → start ≤ u → u < e.at → InHole old u
  in_before u low high =
      elim begins [
        | inl touches ↦ (start, low, omega (arith, touches.1, high))
        | inr own ↦ absurd (omega (arith, own.0, low, high))
      ]

  there : (u : ℕ) → InHole new u → (InHole old u) ⊎ ((e.at ≤ u) × (u < end))
  there u hole =
      let s : ℕ = hole.0 in
      elim (cases_eq s start) [
        | inl same ↦
            let reach = joined_at s same in
            elim (cases_lt u e.at) [
              | inl low ↦ inl (in_before u (omega (arith, same, hole.1)) low)
              | inr from ↦ elim (cases_lt u end) [
                | inl inside ↦ inr (from, inside)
                | inr far ↦ inl (end, far, omega (arith, reach, hole.2))
              ]
            ]
        | inr other ↦ elim (cases_eq s end) [
          | inl same ↦ let none = behind_at s same in absurd (omega (arith, none, hole.1, hole.2))
          | inr apart ↦ let kept = joined.others s other apart in inl (s, hole.1, omega (arith, kept, hole.2))
        ]
      ]

  in_joined : (u : ℕ) → start ≤ u → u < end + size_at old end → InHole new u
  in_joined u low high = let reach = joined.joined in (start, low, omega (arith, reach, high))

  back : (u : ℕ) → InHole old u → InHole new u
  back u hole =
      let s : ℕ = hole.0 in
      elim (cases_eq s start) [
        | inl same ↦ in_joined u (omega (arith, same, hole.1)) (from_start (subst (λ (k : ℕ). u < k + size_at old k) same hole.2) (omega (arith, same, hole.1)))
        | inr other ↦ elim (cases_eq s end) [
          | inl same ↦ in_joined u (omega (arith, same, hole.1, before)) (subst (λ (k : ℕ). u < k + size_at old k) same hole.2)
          | inr apart ↦ let kept = joined.others s other apart in (s, hole.1, omega (arith, kept, hole.2))
        ]
      ]
    where
      from_start : u < start + size_at old start → start ≤ u → u < end + size_at old end
      from_start past low =
          elim begins [
            | inl touches ↦ omega (arith, past, touches.1)
            | inr own ↦ let far = clear start e.at (omega (arith, own.0)) (omega (arith, own.0, past, low)) (omega arith) in absurd (omega (arith, far, some))
          ]

  pub units_joined : (u : ℕ) → is_in_hole new u ≡ (is_in_hole old u || overlaps u 1 e)
  units_joined u = same_test (is_in_hole new u) (is_in_hole old u || overlaps u 1 e) (λ is. by_hole (there u (hole_of new u is))) (λ is. by_test (or_cases (is_in_hole old u) (overlaps u 1 e) is))
    where
      by_hole : (InHole old u) ⊎ ((e.at ≤ u) × (u < end)) → (is_in_hole old u || overlaps u 1 e) ≡ true
      by_hole (inl hole) = or_left (is_in_hole old u) (overlaps u 1 e) (in_hole old u hole)
      by_hole (inr inside) = or_right (is_in_hole old u) (overlaps u 1 e) (has_unit e u inside.0 inside.1)

      by_test : (is_in_hole old u ≡ true) ⊎ (overlaps u 1 e ≡ true) → is_in_hole new u ≡ true
      by_test (inl was) = in_hole new u (back u (hole_of old u was))
      by_test (inr own) = let at = unit_inside e u own in in_hole new u (in_joined u (omega (arith, before, at.0)) (omega (arith, at.1)))

  -- ---- the holes are apart

  abbrev Apart : ℕ → Type 0
  Apart s = (s + size_at new s ≤ length new) × ((u : ℕ) → s < u → u ≤ s + size_at new s → size_at new u ≡ 0)

  -- no hole starts at a unit of the extent, nor of the hole behind it but at its first unit
  no_start_inside : (u : ℕ) → e.at ≤ u → u ≢ end → u ≤ end + size_at old end → size_at old u ≡ 0
  no_start_inside u low other high =
      elim (cases_lt u end) [
        | inl inside ↦ elim (cases_lt 0 (size_at old u)) [
          | inl starts ↦ let far = clear u u (omega arith) (omega (arith, starts)) low in absurd (omega (arith, far, inside))
          | inr none ↦ omega (arith, none)
        ]
        | inr far ↦ (holes end (omega (arith, far, other, high))).1 u (omega (arith, far, other)) high
      ]

  joined_start : (u : ℕ) → start < u → u ≢ end → u ≤ end + size_at old end → size_at old u ≡ 0
  joined_start u low other high =
      elim (cases_lt u e.at) [
        | inr from ↦ no_start_inside u from other high
        | inl early ↦ elim begins [
          | inl touches ↦ (holes start touches.0).1 u low (omega (arith, touches.1, early))
          | inr own ↦ absurd (omega (arith, own.0, low, early))
        ]
      ]

  behind_fits : end + size_at old end ≤ length old
  behind_fits =
      elim (cases_lt 0 (size_at old end)) [
        | inl more ↦ (holes end more).0
        | inr none ↦ omega (arith, none, fits)
      ]

  -- the joined hole starts in no other one, and right behind none
  not_over : (s : ℕ) → s ≢ start → 1 ≤ size_at old s → s < start → s + size_at old s < start
  not_over s other has low =
      elim begins [
        | inl touches ↦ no_start old holes s start touches.0 low
        | inr own ↦ elim (cases_lt (s + size_at old s) start) [
          | inl apart ↦ apart
          | inr over ↦ elim (cases_eq (s + size_at old s) e.at) [
            | inl touching ↦ absurd (own.1 s has touching)
            | inr past ↦ let far = clear s e.at (omega (arith, low, own.0)) (omega (arith, over, past, own.0)) (omega arith) in absurd (omega (arith, far, some))
          ]
        ]
      ]

  pub holes_joined : length new ≡ length old → AreHoles new
  holes_joined count = λ s has.
      elim (cases_eq s start) [
        | inl same ↦ joined_hole s same
        | inr other ↦ elim (cases_eq s end) [
          | inl same ↦ let none = behind_at s same in absurd (omega (arith, none, has))
          | inr apart ↦ other_hole s other apart has
        ]
      ]
    where
      joined_hole : (s : ℕ) → s ≡ start → Apart s
      joined_hole s same =
          let reach = joined_at s same in (
            omega (arith, reach, behind_fits, count),
            λ u low high. elim (cases_eq u end) [
              | inl last ↦ behind_at u last
              | inr other ↦ joined.others u (omega (arith, low, same)) other ∙ joined_start u (omega (arith, low, same)) other (omega (arith, high, reach))
            ],
          )

      other_hole : (s : ℕ) → s ≢ start → s ≢ end → 1 ≤ size_at new s → Apart s
      other_hole s other apart has =
          let kept = joined.others s other apart in
          let hole = holes s (omega (arith, kept, has)) in (
            omega (arith, kept, hole.0, count),
            λ u low high. elim (cases_eq u start) [
              | inl same ↦ let far = not_over s other (omega (arith, kept, has)) (omega (arith, low, same)) in absurd (omega (arith, far, kept, high, same))
              | inr beside ↦ elim (cases_eq u end) [
                | inl last ↦ behind_at u last
                | inr past ↦ joined.others u beside past ∙ hole.1 u low (omega (arith, kept, high))
              ]
            ],
          )

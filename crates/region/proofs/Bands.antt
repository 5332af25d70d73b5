-- The greatest size of each band.
use Rattle.std.proofs.Common.{◌≡◌, ◌≢◌, ℕ, ◌+◌, ◌-◌, ◌*◌, ◌/◌, ◌<◌, ◌≤◌, List, length, get_or, replicate, take, drop, set, min, refl, sym, ap, ◌∙◌, subst, arith, inl, inr, length-take, length-drop}
use Rattle.std.proofs.Math.ListN.{get_or-eq_default}
use Rattle.std.proofs.lemmas.Bool.{cases_lt, cases_eq}
use Rattle.std.proofs.lemmas.List.{get_or-take, get_or-drop, get_or-set_same, get_or-set_other, get_or-replicate, length-set, length-replicate}
use Rattle.region.specs.HoleSizes.{size_at}
use Rattle.region.specs.SizesInside.{IsGreatestOf, AreGreatest, AreGreatestBeside}

abbrev zeros : ℕ → List ℕ
zeros n = replicate n 0

count_zeros : (n : ℕ) → length (zeros n) ≡ n
count_zeros n = length-replicate {A = ℕ} n 0

zero_at : (n u : ℕ) → size_at (zeros n) u ≡ 0
zero_at n u =
    elim (cases_lt u n) [
      | inl low ↦ get_or-replicate n u 0 0 low
      | inr far ↦ get_or-eq_default (zeros n) 0 (omega (arith, far, count_zeros n))
    ]

-- no size is set yet
pub none-greatest : (sizes greatest : List ℕ) (units : ℕ) → sizes ≡ zeros units → greatest ≡ zeros (units / 2048 + 1) → AreGreatest sizes greatest
none-greatest sizes greatest units none empty =
    subst (λ (s : List ℕ). AreGreatest s greatest) (sym none) (subst (λ (g : List ℕ). AreGreatest (zeros units) g) (sym empty) (record {
      bands = subst (λ (n : ℕ). length (zeros (units / 2048 + 1)) ≡ n / 2048 + 1) (sym (count_zeros units)) (count_zeros (units / 2048 + 1));
      each = λ band within.
          record {
            bound = λ u at. omega (arith, zero_at units u);
            reached = (band * 2048, omega arith, zero_at units (band * 2048) ∙ sym (zero_at (units / 2048 + 1) band));
          };
    }))

module _ (sizes greatest : List ℕ) (unit : ℕ) (low : unit < length sizes) where
  other_unit : (u band : ℕ) → u / 2048 ≡ band → band ≢ unit / 2048 → u ≢ unit
  other_unit u band at other same = other (sym at ∙ ap (λ (k : ℕ). k / 2048) same)

  -- a size is set
  pub set-greatest : (size : ℕ) → AreGreatest sizes greatest → AreGreatestBeside (unit / 2048) (set sizes unit size) greatest
  set-greatest size are =
      record {
        bands = subst (λ (n : ℕ). length greatest ≡ n / 2048 + 1) (sym (length-set sizes unit size)) are.bands;
        each = λ band within other.
            let was = are.each band within in
            record {
              bound = λ u at. subst (λ (n : ℕ). n ≤ size_at greatest band) (sym (kept u (other_unit u band at other))) (was.bound u at);
              reached = (was.reached.0, was.reached.1, kept was.reached.0 (other_unit was.reached.0 band was.reached.1 other) ∙ was.reached.2);
            };
      }
    where
      kept : (u : ℕ) → u ≢ unit → size_at (set sizes unit size) u ≡ size_at sizes u
      kept u other = get_or-set_other sizes unit u size 0 other

  abbrev start : ℕ
  start = unit / 2048 * 2048

  -- the sizes of the band
  module _ (end r : ℕ) (ends : end ≡ min (length sizes) (start + 2048)) (bound : (k : ℕ) → get_or (take (end - start) (drop start sizes)) k 0 ≤ r)
      (reached : 1 ≤ length (take (end - start) (drop start sizes)) →
      (k : ℕ) × (k < length (take (end - start) (drop start sizes))) × (get_or (take (end - start) (drop start sizes)) k 0 ≡ r)) where
    count : length (take (end - start) (drop start sizes)) ≡ end - start
    count = let cut = length-take (end - start) (drop start sizes) in let rest = length-drop start sizes in omega (arith, cut, rest, ends, low)

    at_unit : (k u : ℕ) → start + k ≡ u → k < end - start → get_or (take (end - start) (drop start sizes)) k 0 ≡ size_at sizes u
    at_unit k u is inside = get_or-take (end - start) (drop start sizes) k 0 inside ∙ get_or-drop start sizes k 0 ∙ ap (λ (n : ℕ). size_at sizes n) is

    own : IsGreatestOf (unit / 2048) sizes r
    own =
        record {
          bound = λ u at. elim (cases_lt u (length sizes)) [
            | inl inside ↦ subst (λ (n : ℕ). n ≤ r) (at_unit (u - start) u (omega (arith, at)) (omega (arith, at, ends, inside))) (bound (u - start))
            | inr far ↦ subst (λ (n : ℕ). n ≤ r) (sym (get_or-eq_default sizes 0 far)) (omega arith)
          ];
          reached =
              let some = reached (omega (arith, count, ends, low)) in
              let inside : some.0 < end - start = omega (arith, count, some.1) in
              (start + some.0, omega (arith, inside, ends), sym (at_unit some.0 (start + some.0) refl inside) ∙ some.2);
        }

    pub updated-greatest : AreGreatestBeside (unit / 2048) sizes greatest → AreGreatest sizes (set greatest (unit / 2048) r)
    updated-greatest are =
        let bands = are.bands in
        record {
          bands = length-set greatest (unit / 2048) r ∙ bands;
          each = λ band within. elim (cases_eq band (unit / 2048)) [
            | inl same ↦ subst (λ (n : ℕ). IsGreatestOf n sizes (size_at (set greatest (unit / 2048) r) n)) (sym same)
                (subst (λ (n : ℕ). IsGreatestOf (unit / 2048) sizes n) (sym (get_or-set_same greatest (unit / 2048) r 0 (omega (arith, bands, low)))) own)
            | inr other ↦ subst (λ (n : ℕ). IsGreatestOf band sizes n) (sym (get_or-set_other greatest (unit / 2048) band r 0 other))
                (are.each band (omega (arith, within, length-set greatest (unit / 2048) r)) other)
          ];
        }

-- The row whose name comes next is the first of those that are listed.
use Rattle.std.proofs.Common.{◌≡◌, ◌⊎◌, inl, inr, ℕ, zero, suc, ◌+◌, ◌<◌, ◌≤◌, List, [], ◌∷◌, map, length, get_or, refl, sym, ap, ◌∙◌, subst, Some, None, Bool, true, false, cond, not, arith}
use mathlib.Core.Bool.{true≢false}
use Rattle.std.specs.Prelude.{slice_get}
use Rattle.std.specs.declared.cmp.Ordering.{Ordering}
use Rattle.std.specs.declared.cmp.Ordering.TheVariants.{Less, Equal, Greater}
use Rattle.std.specs.List.{All, Contains, filter}
use Rattle.std.specs.List.Sorted.{IsPartitionedBy, IsPartitionPoint}
use Rattle.std.specs.Cmp.{IsStrictWeakOrder}
use Rattle.std.specs.Cmp.Lexicographic.{nat_list_cmp_total}
use Rattle.std.specs.Ordering.{is_le, is_lt, ordering_index, ordering_reverse}
use Rattle.std.proofs.lemmas.Bool.{cases_lt}
use Rattle.std.proofs.lemmas.List.{get_or_default, length-map}
use Rattle.std.proofs.lemmas.List.Elements.{All-head, All-tail}
use Rattle.std.proofs.lemmas.List.Sorted.{sorted_far, ranks_by, All-permutation, Contains-permutation}
use Rattle.dimensions.specs.Order.{text_cmp, is_text_below, sorted_by}
use Rattle.dimensions.proofs.Orders.{text_order, texts-tied}
use Rattle.dimensions.proofs.Sorting.{in_order, in_order-sorted_by, IsPermutation-sorted_by}
use Rattle.dimensions.proofs.Tests.{and-first, and-other, not-true}
use Rattle.swarm_model.specs.declared.bot_row.BotRow.{BotRow}
use Rattle.swarm_model.specs.Numbers.{AreNumbered}
use Rattle.swarm_model.specs.Effects.{no_of_bot}
use Rattle.swarm_model.specs.Pages.{is_named_before, is_after}
use Rattle.bot_registry.specs.Acting.{row_of}
use Rattle.bot_registry.specs.Names.{name_of, name_at, is_name_below, AreByName, IsUpTo, IsPast}
use Rattle.bot_registry.proofs.Named.{row_at, name_there, rising, sought, name_place}

-- ---- the first of sorted items that pass a test

module _ {X : Type 0} (below : X → X → Bool) (order : IsStrictWeakOrder below) where
  in_order-rest : (a : X) (items : List X) → in_order below (a ∷ items) ≡ true → in_order below items ≡ true
  in_order-rest a [] up = refl
  in_order-rest a (b ∷ items) up = and-other (not (below b a)) _ up

  -- no later item is below the first
  not_below : (a : X) (items : List X) (x : X) (k : ℕ) → in_order below (a ∷ items) ≡ true → k < length items → get_or items k x ≡ x → below x a ≡ false
  not_below a [] x k up low is = absurd (omega arith)
  not_below a (b ∷ items) x zero up low is = subst (λ (y : X). below y a ≡ false) is (not-true (below b a) (and-first (not (below b a)) _ up))
  not_below a (b ∷ items) x (suc k) up low is =
      order.chain x b a (not_below b items x k (in_order-rest a (b ∷ items) up) (omega arith) is) (not-true (below b a) (and-first (not (below b a)) _ up))

  below-itself : (a : X) → below a a ≡ false
  below-itself a = by_test (below a a) refl
    where
      by_test : (t : Bool) → below a a ≡ t → t ≡ false
      by_test true e = absurd (let f = order.one_way a a e in cc)
      by_test false e = refl

  module _ (p : X → Bool) (x : X) (passes : p x ≡ true) where
    -- the item is below every other one that passes
    abbrev pub IsFirst : X → Type 0
    IsFirst y = p y ≡ true → (y ≡ x) ⊎ (below x y ≡ true)

    first_of : (items : List X) (k : ℕ) → in_order below items ≡ true → k < length items → get_or items k x ≡ x → All IsFirst items → slice_get (filter p items) 0 ≡ Some x
    first_of [] k up low is all = absurd (omega arith)
    first_of (y ∷ items) k up low is all = by_test (p y) refl (All-head IsFirst y items all) k low is (λ j under at. first_of items j (in_order-rest y items up) under at (All-tail IsFirst y items all))
      where
        by_case : (y ≡ x) ⊎ (below x y ≡ true) → (k : ℕ) → k < length (y ∷ items) → get_or (y ∷ items) k x ≡ x → Some y ≡ Some x
        by_case (inl e) k low is = ap (λ (z : X). Some z) e
        by_case (inr less) zero low is = ap (λ (z : X). Some z) is
        by_case (inr less) (suc k) low is = absurd (true≢false (sym less ∙ not_below y items x k up (omega arith) is))

        by_test : (t : Bool) → p y ≡ t → IsFirst y → (k : ℕ) → k < length (y ∷ items) → get_or (y ∷ items) k x ≡ x →
            ((j : ℕ) → j < length items → get_or items j x ≡ x → slice_get (filter p items) 0 ≡ Some x) → slice_get (cond t (y ∷ filter p items) (filter p items)) 0 ≡ Some x
        by_test true test first k low is rest = by_case (first test) k low is
        by_test false test first zero low is rest = absurd (true≢false (sym passes ∙ ap p (sym is) ∙ test))
        by_test false test first (suc k) low is rest = rest k (omega arith) is

    pub first_sorted : (items : List X) → Contains items x → All IsFirst items → slice_get (filter p (sorted_by below items)) 0 ≡ Some x
    first_sorted items there all =
        let moved = IsPermutation-sorted_by below items in
        let at = Contains-permutation items (sorted_by below items) x moved there in
        first_of (sorted_by below items) at.0 (in_order-sorted_by below order items) at.1 at.2 (All-permutation IsFirst items (sorted_by below items) moved all)

  none_of : (p : X → Bool) (items : List X) → All (λ y. p y ≡ false) items → slice_get (filter p items) 0 ≡ None
  none_of p [] all = refl
  none_of p (y ∷ items) all =
      ap (λ (t : Bool). slice_get (cond t (y ∷ filter p items) (filter p items)) 0) (All-head (λ z. p z ≡ false) y items all) ∙ none_of p items (All-tail (λ z. p z ≡ false) y items all)

  pub none_sorted : (p : X → Bool) (items : List X) → All (λ y. p y ≡ false) items → slice_get (filter p (sorted_by below items)) 0 ≡ None
  none_sorted p items all = none_of p (sorted_by below items) (All-permutation (λ y. p y ≡ false) items (sorted_by below items) (IsPermutation-sorted_by below items) all)

-- ---- names

name_order : IsStrictWeakOrder is_named_before
name_order =
    record {
      one_way = λ a b low. text_order.one_way a.name b.name low;
      chain = λ a b c low next. text_order.chain a.name b.name c.name low next;
    }

le_down : (o p : Ordering) → ordering_index o ≤ ordering_index p → is_le p ≡ true → is_le o ≡ true
le_down Less p less le = refl
le_down Equal p less le = refl
le_down Greater Less less le = absurd (omega arith)
le_down Greater Equal less le = absurd (omega arith)
le_down Greater Greater less le = le

past_is : (o : Ordering) → is_lt (ordering_reverse o) ≡ not (is_le o)
past_is Less = refl
past_is Equal = refl
past_is Greater = refl

-- a name comes after another exactly where it is no less and not the same
after_is : (a b : List ℕ) → is_text_below a b ≡ not (is_le (text_cmp b a))
after_is a b = ap is_lt (nat_list_cmp_total.antisymm a b) ∙ past_is (text_cmp b a)

-- of two names, they are the same, or one is below the other
module _ (rows : List BotRow) (sorted : List ℕ) (numbered : AreNumbered no_of_bot 1 rows) (named : AreByName (map no_of_bot rows) (map name_of rows) sorted) (key : List ℕ) where
  pub parted : IsPartitionedBy (λ n. is_le (text_cmp (name_at (map name_of rows) n) key)) sorted
  parted i j d less low le = le_down _ _ (rising rows sorted numbered named key i j d less low) le

  module _ (i : ℕ) (at : IsPartitionPoint (IsUpTo (map name_of rows) key) (IsPast (map name_of rows) key) sorted i) where
    -- where the number of a row stands among the sorted ones, and its name
    number_of : (k : ℕ) (row : BotRow) → k < length rows → row ≡ get_or rows k row → (j : ℕ) × (j < length sorted) × (name_at (map name_of rows) (get_or sorted j (1 + k)) ≡ row.name)
    number_of k row low is =
        let there = sought rows sorted numbered named k low in
        (there.0, there.1, ap (name_at (map name_of rows)) there.2 ∙ name_place (map name_of rows) k ∙ name_there rows k row low is)

    -- a name before the place doesn't come after the key
    before_place : (k : ℕ) (row : BotRow) (low : k < length rows) (is : row ≡ get_or rows k row) → (number_of k row low is).0 < i → is_after key row ≡ false
    before_place k row low is less =
        let there = number_of k row low is in
        let le : is_le (text_cmp row.name key) ≡ true = subst (λ (name : List ℕ). is_le (text_cmp name key) ≡ true) there.2 (at.0 there.0 (1 + k) (omega arith) less) in
        after_is key row.name ∙ ap not le

    same_row : (k j : ℕ) (x y : BotRow) → k < length rows → j < length rows → x ≡ get_or rows k x → y ≡ get_or rows j y → x.name ≡ y.name → y ≡ x
    same_row k j x y low under isx isy same =
        let name : get_or (map name_of rows) k [] ≡ get_or (map name_of rows) j [] = name_there rows k x low isx ∙ same ∙ sym (name_there rows j y under isy) in
        elim (cases_lt k j) [
          | inl less ↦ absurd (named.apart k j [] less (omega (arith, length-map rows name_of)) name)
          | inr more ↦ elim (cases_lt j k) [
            | inl less ↦ absurd (named.apart j k [] less (omega (arith, length-map rows name_of)) (sym name))
            | inr less ↦
                let e : j ≡ k = omega arith in
                isy ∙ ap (λ (n : ℕ). get_or rows n y) e ∙ get_or_default rows k y x low ∙ sym isx
          ]
        ]

    below_far : (x y : List ℕ) → is_text_below y x ≡ false → (x ≡ y) ⊎ (is_text_below x y ≡ true)
    below_far x y far = by_order (text_cmp x y) refl
      where
        by_order : (o : Ordering) → text_cmp x y ≡ o → (x ≡ y) ⊎ (is_text_below x y ≡ true)
        by_order Less e = inr (ap is_lt e)
        by_order Equal e = inl (texts-tied x y e)
        by_order Greater e = absurd (true≢false (sym (ap (λ (o : Ordering). is_lt (ordering_reverse o)) e) ∙ sym (ap is_lt (nat_list_cmp_total.antisymm y x)) ∙ far))

    -- where a number stands at the place, its row is listed first
    pub listed_first : (low : i < length sorted) → (row : BotRow) × (row_of rows (get_or sorted i 0) ≡ Some row) × (slice_get (filter (is_after key) (sorted_by is_named_before rows)) 0 ≡ Some row)
    listed_first low =
        let (k, row, under, is, of_number, name) = row_at rows sorted numbered named i low in
        let past : is_le (text_cmp row.name key) ≡ false = subst (λ (text : List ℕ). is_le (text_cmp text key) ≡ false) name (at.1 i 0 (omega arith) low) in
        let passes : is_after key row ≡ true = after_is key row.name ∙ ap not past in (
          row,
          of_number,
          first_sorted is_named_before name_order (is_after key) row passes rows (k, under, sym is) (λ j d within after.
              let other = get_or rows j d in
              let is_other = get_or_default rows j d other within in
              let there = number_of j other within is_other in
              elim (cases_lt there.0 i) [
                | inl less ↦ absurd (true≢false (sym after ∙ before_place j other within is_other less))
                | inr more ↦
                    let far = sorted_far (is_name_below (map name_of rows)) (ranks_by nat_list_cmp_total (name_at (map name_of rows))) sorted named.order i there.0 (1 + j) more there.1 in
                    let row_name = ap (name_at (map name_of rows)) (get_or_default sorted i (1 + j) 0 low) ∙ name in
                    let apart : is_text_below other.name row.name ≡ false = rw (row_name, there.2) at far in
                    elim (below_far row.name other.name apart) [
                      | inl same ↦ inl (same_row k j row other under within is is_other same)
                      | inr less ↦ inr less
                    ]
              ]),
        )

    -- where none does, no row is listed
    pub none_listed : length sorted ≤ i → slice_get (filter (is_after key) (sorted_by is_named_before rows)) 0 ≡ None
    none_listed high = none_sorted is_named_before name_order (is_after key) rows (λ j d within.
        let other = get_or rows j d in
        let is_other = get_or_default rows j d other within in
        let there = number_of j other within is_other in
        before_place j other within is_other (omega (arith, there.1)))

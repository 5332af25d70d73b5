-- What a search among the numbers that are sorted by name finds, and what an insert leaves.
use Rattle.std.proofs.Common.{◌≡◌, ◌≢◌, ℕ, zero, suc, ◌+◌, ◌-◌, ◌<◌, ◌≤◌, List, [], ◌∷◌, ◌++◌, map, length, get_or, refl, sym, ap, ◌∙◌, subst, Some, None, Bool, true, false, arith, inl, inr}
use mathlib.Core.Bool.{true≢false}
use Rattle.std.specs.Prelude.{cond}
use Rattle.std.specs.declared.cmp.Ordering.TheVariants.{Less, Equal, Greater}
use Rattle.std.specs.List.{insert, AllPairs, Contains}
use Rattle.std.specs.List.Sorted.{IsSortedBy, IsPartitionPoint, IsNonDecreasingBy}
use Rattle.std.specs.Ordering.{is_lt, is_eq, ordering_index, ordering_reverse}
use Rattle.std.specs.Cmp.Lexicographic.{nat_list_cmp_total, texts_ties, bytes_decides}
use Rattle.std.proofs.lemmas.Bool.{cases_lt}
use Rattle.std.proofs.lemmas.Cmp.{tied_itself}
use Rattle.std.proofs.lemmas.List.{get_or_default, get_or_append_left, get_or_push, length-map}
use Rattle.std.proofs.lemmas.List.Edits.{length-insert, get_or-insert_below, get_or-insert_at, get_or-insert_above}
use Rattle.std.proofs.lemmas.List.Quantifiers.{all_pairs_push}
use Rattle.std.proofs.lemmas.List.Sorted.{searchable_from_sorted, Contains-permutation, IsPermutation-sym, IsPermutation-cons, IsPermutation-to_front, IsPermutation-insert, IsPermutation-trans}
use Rattle.dimensions.specs.Alike.{same}
use Rattle.dimensions.specs.Order.{text_cmp}
use Rattle.swarm_model.specs.declared.bot_row.BotRow.{BotRow}
use Rattle.swarm_model.specs.Numbers.{AreNumbered}
use Rattle.swarm_model.specs.Effects.{no_of_bot}
use Rattle.row_changes.specs.Rows.{StandsAt}
use Rattle.row_changes.proofs.Numbered.{found}
use Rattle.bot_registry.specs.Acting.{row_of, row_named}
use Rattle.bot_registry.specs.Names.{name_of, name_at, is_name_below, AreByName}

-- ---- texts

equal_text : (a b : List ℕ) → text_cmp a b ≡ Equal → a ≡ b
equal_text a b e = (bytes_decides a b).0 (texts_ties a b ∙ ap is_eq e)

same_text : (a b : List ℕ) → a ≡ b → same a b ≡ true
same_text a b e = (bytes_decides a b).1 e

by_same : (t : Bool) (a b : List ℕ) → same a b ≡ t → a ≢ b → t ≡ false
by_same true a b is other = absurd (other ((bytes_decides a b).0 is))
by_same false a b is other = refl

other_text : (a b : List ℕ) → a ≢ b → same a b ≡ false
other_text a b other = by_same (same a b) a b refl other

-- ---- rows by name

find_none : (key : List ℕ) (rows : List BotRow) → ((k : ℕ) → k < length rows → get_or (map name_of rows) k [] ≢ key) → row_named rows key ≡ None
find_none key [] none = refl
find_none key (row ∷ rows) none =
    ap (λ (t : Bool). cond t (Some row) (row_named rows key)) (other_text row.name key (none 0 (omega arith)))
    ∙ find_none key rows (λ k low. none (suc k) (omega arith))

-- the row at a place, and its name
pub row_there : (rows : List BotRow) (k : ℕ) → k < length rows → (row : BotRow) × (row ≡ get_or rows k row)
row_there [] k low = absurd (omega arith)
row_there (row ∷ rows) zero low = (row, refl)
row_there (row ∷ rows) (suc k) low = row_there rows k (omega arith)

pub name_there : (rows : List BotRow) (k : ℕ) (row : BotRow) → k < length rows → row ≡ get_or rows k row → get_or (map name_of rows) k [] ≡ row.name
name_there [] k row low is = absurd (omega arith)
name_there (first ∷ rows) zero row low is = ap name_of (sym is)
name_there (first ∷ rows) (suc k) row low is = name_there rows k row (omega arith) is

find_first : (key : List ℕ) (rows : List BotRow) (k : ℕ) (row : BotRow) → k < length rows → row ≡ get_or rows k row → row.name ≡ key → AllPairs (λ a b. a ≢ b) (map name_of rows) →
    row_named rows key ≡ Some row
find_first key [] k row low is name apart = absurd (omega arith)
find_first key (first ∷ rows) zero row low is name apart =
    ap (λ (t : Bool). cond t (Some first) (row_named rows key)) (same_text first.name key (ap name_of (sym is) ∙ name)) ∙ ap (λ (bot : BotRow). Some bot) (sym is)
find_first key (first ∷ rows) (suc k) row low is name apart =
    let under : k < length rows = omega arith in
    let other : first.name ≢ key = λ e. apart 0 (suc k) [] (omega arith) (omega (arith, low, length-map rows name_of)) (e ∙ sym name ∙ sym (name_there rows k row under is)) in
    ap (λ (t : Bool). cond t (Some first) (row_named rows key)) (other_text first.name key other)
    ∙ find_first key rows k row under is name (λ i j e less below. apart (suc i) (suc j) e (omega arith) (omega arith))

none_named : (key : List ℕ) (rows : List BotRow) → row_named rows key ≡ None → (k : ℕ) → k < length rows → get_or (map name_of rows) k [] ≢ key
none_named key [] none k low is = absurd (omega arith)
none_named key (row ∷ rows) none k low is = by_test (same row.name key) refl none (none_named key rows) k low is
  where
    by_test : (t : Bool) → same row.name key ≡ t → cond t (Some row) (row_named rows key) ≡ None →
        (row_named rows key ≡ None → (k : ℕ) → k < length rows → get_or (map name_of rows) k [] ≢ key) →
        (k : ℕ) → k < length (row ∷ rows) → get_or (map name_of (row ∷ rows)) k [] ≡ key → ⊥
    by_test true test none rest k low is = absurd (cc)
    by_test false test none rest zero low is = true≢false (sym (same_text row.name key is) ∙ test)
    by_test false test none rest (suc k) low is = rest none k (omega arith) is

-- ---- numbers

number_at : (n : ℕ) (rows : List BotRow) (k d : ℕ) → AreNumbered no_of_bot n rows → k < length rows → get_or (map no_of_bot rows) k d ≡ n + k
number_at n [] k d numbered low = absurd (omega arith)
number_at n (row ∷ rows) zero d numbered low = omega (arith, numbered.0)
number_at n (row ∷ rows) (suc k) d numbered low = omega (arith, number_at (n + 1) rows k d numbered.1 (omega arith))

pub name_place : (names : List (List ℕ)) (k : ℕ) → name_at names (1 + k) ≡ get_or names k []
name_place names k = let e : 1 + k - 1 ≡ k = omega arith in ap (λ (j : ℕ). get_or names j []) e

less_not : (a b : List ℕ) → text_cmp a b ≡ Less → is_lt (text_cmp b a) ≡ false
less_not a b less = ap is_lt (nat_list_cmp_total.antisymm b a ∙ ap ordering_reverse less)

greater_not : (a b : List ℕ) → text_cmp a b ≡ Greater → is_lt (text_cmp a b) ≡ false
greater_not a b greater = ap is_lt greater

module _ (rows : List BotRow) (sorted : List ℕ) (numbered : AreNumbered no_of_bot 1 rows) (named : AreByName (map no_of_bot rows) (map name_of rows) sorted) where
  -- a number among the sorted ones is that of a row
  place : (i : ℕ) → i < length sorted → (k : ℕ) × (k < length rows) × (get_or sorted i 0 ≡ 1 + k)
  place i low =
      let n = get_or sorted i 0 in
      let there : Contains (map no_of_bot rows) n = Contains-permutation sorted (map no_of_bot rows) n (IsPermutation-sym _ _ named.all) (i, low, get_or_default sorted i n 0 low) in
      let under : there.0 < length rows = omega (arith, there.1, length-map rows no_of_bot) in
      (there.0, under, sym there.2 ∙ number_at 1 rows there.0 n numbered under)

  -- the number of each row is among the sorted ones
  pub sought : (k : ℕ) → k < length rows → Contains sorted (1 + k)
  sought k low =
      Contains-permutation (map no_of_bot rows) sorted (1 + k) named.all
      (k, omega (arith, low, length-map rows no_of_bot), number_at 1 rows k (1 + k) numbered low)

  pub rising : (key : List ℕ) → IsNonDecreasingBy (λ n. ordering_index (text_cmp (name_at (map name_of rows) n) key)) sorted
  rising key = searchable_from_sorted nat_list_cmp_total (name_at (map name_of rows)) sorted key named.order

  -- the row of a number among the sorted ones
  pub row_at : (i : ℕ) → i < length sorted → (k : ℕ) × (row : BotRow) × (k < length rows) × (row ≡ get_or rows k row) × (row_of rows (get_or sorted i 0) ≡ Some row) × (name_at (map name_of rows) (get_or sorted i 0) ≡ row.name)
  row_at i low =
      let p = place i low in
      let there = row_there rows p.0 p.1 in
      let stands : StandsAt rows (get_or sorted i 0) p.0 = record { within = p.1; number_is = omega (arith, p.2) } in (
        p.0,
        there.0,
        p.1,
        there.1,
        found no_of_bot rows (get_or sorted i 0) p.0 there.0 numbered stands there.1,
        ap (name_at (map name_of rows)) p.2 ∙ name_place (map name_of rows) p.0 ∙ name_there rows p.0 there.0 p.1 there.1,
      )

  pub found_named : (key : List ℕ) (i : ℕ) → i < length sorted → text_cmp (name_at (map name_of rows) (get_or sorted i 0)) key ≡ Equal →
      (row : BotRow) × (row_of rows (get_or sorted i 0) ≡ Some row) × (row_named rows key ≡ Some row)
  found_named key i low equal =
      let (k, row, under, is, of_number, name) = row_at i low in
      (row, of_number, find_first key rows k row under is (sym name ∙ equal_text _ key equal) named.apart)

  abbrev pub Parts : List ℕ → ℕ → Type 0
  Parts key i = IsPartitionPoint (λ n. text_cmp (name_at (map name_of rows) n) key ≡ Less) (λ n. text_cmp (name_at (map name_of rows) n) key ≡ Greater) sorted i

  pub parts : (key : List ℕ) (i : ℕ) → (IsNonDecreasingBy (λ n. ordering_index (text_cmp (name_at (map name_of rows) n) key)) sorted → Parts key i) → Parts key i
  parts key i parted = parted (rising key)

  pub absent_named : (key : List ℕ) (i : ℕ) → Parts key i → row_named rows key ≡ None
  absent_named key i parted = find_none key rows (λ k low is.
      let there = sought k low in
      let equal : text_cmp (name_at (map name_of rows) (get_or sorted there.0 (1 + k))) key ≡ Equal =
      ap (λ (n : ℕ). text_cmp (name_at (map name_of rows) n) key) there.2 ∙ ap (λ (t : List ℕ). text_cmp t key) (name_place (map name_of rows) k ∙ is) ∙ tied_itself nat_list_cmp_total key in
      elim (cases_lt there.0 i) [
        | inl before ↦ let less = parted.0 there.0 (1 + k) (omega arith) before in absurd (cc (less, equal))
        | inr behind ↦ let greater = parted.1 there.0 (1 + k) behind there.1 in absurd (cc (greater, equal))
      ])

  module _ (key : List ℕ) (i n : ℕ) (under : i ≤ length sorted) (next : n ≡ length rows + 1) (parted : Parts key i) where
    name_new : name_at (map name_of rows ++ key ∷ []) n ≡ key
    name_new = get_or_push (map name_of rows) key [] (n - 1) (omega (arith, next, length-map rows name_of))

    name_old : (j d : ℕ) → j < length sorted → name_at (map name_of rows ++ key ∷ []) (get_or sorted j d) ≡ name_at (map name_of rows) (get_or sorted j d)
    name_old j d low =
        let p = place j low in
        let is : get_or sorted j d ≡ 1 + p.0 = get_or_default sorted j d 0 low ∙ p.2 in
        get_or_append_left (map name_of rows) (key ∷ []) [] (get_or sorted j d - 1) (omega (arith, is, p.1, length-map rows name_of))

    below : (a b : ℕ) (x y : List ℕ) → name_at (map name_of rows ++ key ∷ []) a ≡ x → name_at (map name_of rows ++ key ∷ []) b ≡ y → is_lt (text_cmp x y) ≡ false →
        is_name_below (map name_of rows ++ key ∷ []) a b ≡ false
    below a b x y ea eb h = ap (λ (t : List ℕ). is_lt (text_cmp t (name_at (map name_of rows ++ key ∷ []) b))) ea ∙ ap (λ (t : List ℕ). is_lt (text_cmp x t)) eb ∙ h

    -- the element at a place of the longer list is an old one, or the new one
    old_at : (k j d : ℕ) → j < length sorted → get_or (insert sorted i n) k d ≡ get_or sorted j d → name_at (map name_of rows ++ key ∷ []) (get_or (insert sorted i n) k d) ≡ name_at (map name_of rows) (get_or sorted j d)
    old_at k j d low is = ap (name_at (map name_of rows ++ key ∷ [])) is ∙ name_old j d low

    new_at : (d : ℕ) → name_at (map name_of rows ++ key ∷ []) (get_or (insert sorted i n) i d) ≡ key
    new_at d = ap (name_at (map name_of rows ++ key ∷ [])) (get_or-insert_at sorted i n d under) ∙ name_new

    pub ordered : IsSortedBy (is_name_below (map name_of rows ++ key ∷ [])) (insert sorted i n)
    ordered k d low high =
        let size : k < length sorted = omega (arith, high, length-insert sorted i n under) in
        elim (cases_lt (k + 1) i) [
          | inl before ↦ below _ _ _ _ (old_at (k + 1) (k + 1) d (omega arith) (get_or-insert_below sorted i n d (k + 1) before under))
              (old_at k k d size (get_or-insert_below sorted i n d k (omega arith) under)) (named.order k d low (omega arith))
          | inr behind ↦ elim (cases_lt k i) [
            | inl here ↦
                let at : k + 1 ≡ i = omega arith in
                below _ _ _ _ (subst (λ (j : ℕ). name_at (map name_of rows ++ key ∷ []) (get_or (insert sorted i n) j d) ≡ key) (sym at) (new_at d))
                (old_at k k d size (get_or-insert_below sorted i n d k here under)) (less_not _ key (parted.0 k d low here))
            | inr behind ↦ elim (cases_lt i k) [
              | inl far ↦
                  let e : k - 1 + 1 ≡ k = omega arith in
                  let old : get_or (insert sorted i n) k d ≡ get_or sorted (k - 1) d =
                  subst (λ (j : ℕ). get_or (insert sorted i n) j d ≡ get_or sorted (k - 1) d) e (get_or-insert_above sorted i n d (k - 1) (omega arith) under) in
                  below _ _ _ _ (old_at (k + 1) k d size (get_or-insert_above sorted i n d k behind under)) (old_at k (k - 1) d (omega arith) old)
                  (subst (λ (j : ℕ). is_lt (text_cmp (name_at (map name_of rows) (get_or sorted j d)) (name_at (map name_of rows) (get_or sorted (k - 1) d))) ≡ false) e (named.order (k - 1) d (omega arith) (omega arith)))
              | inr near ↦
                  let at : i ≡ k = omega arith in
                  below _ _ _ _ (old_at (k + 1) k d size (get_or-insert_above sorted i n d k behind under))
                  (subst (λ (j : ℕ). name_at (map name_of rows ++ key ∷ []) (get_or (insert sorted i n) j d) ≡ key) at (new_at d)) (greater_not _ key (parted.1 k d behind size))
            ]
          ]
        ]

    pub inserted : row_named rows key ≡ None → AreByName (map no_of_bot rows ++ n ∷ []) (map name_of rows ++ key ∷ []) (insert sorted i n)
    inserted fresh = record {
      order = ordered;
      all = IsPermutation-trans _ _ _ (IsPermutation-to_front (map no_of_bot rows) n)
          (IsPermutation-trans _ _ _ (IsPermutation-cons n _ _ named.all) (IsPermutation-insert sorted i n));
      apart = all_pairs_push (λ a b. a ≢ b) (map name_of rows) key named.apart (λ k d low is.
          none_named key rows fresh k (omega (arith, low, length-map rows name_of)) (get_or_default (map name_of rows) k [] d low ∙ is));
    }

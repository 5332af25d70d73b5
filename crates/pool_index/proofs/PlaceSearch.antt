-- What a search among places in the order of their keys finds, and what an insertion leaves.
use Rattle.std.proofs.Common.{◌≡◌, ◌≢◌, ℕ, ◌+◌, ◌-◌, ◌<◌, ◌≤◌, List, [], ◌∷◌, ◌++◌, length, get_or, refl, sym, ap, ◌∙◌, subst, Bool, true, false, arith, inl, inr}
use Rattle.std.specs.declared.cmp.Ordering.{Ordering}
use Rattle.std.specs.declared.cmp.Ordering.TheVariants.{Less, Equal, Greater}
use Rattle.std.specs.List.{insert, Contains}
use Rattle.std.specs.List.Sorted.{IsSortedBy, IsPartitionedBy, IsNonDecreasingBy}
use Rattle.std.specs.Ordering.{is_lt, ordering_index, ordering_reverse}
use Rattle.std.proofs.lemmas.Bool.{cases_lt}
use Rattle.std.proofs.lemmas.Cmp.{tied_itself}
use Rattle.std.proofs.lemmas.List.{get_or_default, get_or_append_left, get_or_push, length_push}
use Rattle.std.proofs.lemmas.List.Edits.{length-insert, get_or-insert_below, get_or-insert_at, get_or-insert_above}
use Rattle.std.proofs.lemmas.List.Quantifiers.{all_pairs_push}
use Rattle.std.proofs.lemmas.List.Sorted.{searchable_from_sorted}
use Rattle.block_list.specs.Partition.{IsPartition, AtPartition}
use Rattle.dimensions.specs.Order.{pair_cmp, is_below}
use Rattle.dimensions.proofs.Orders.{pair_total}
use Rattle.pool_index.specs.SortedLinks.{Key, key_at, AreByKey}

-- ---- answers of a comparison

lower_less : (a b : Ordering) → ordering_index a ≤ ordering_index b → is_lt b ≡ true → is_lt a ≡ true
lower_less Less b le is = refl
lower_less Equal Less le is = absurd (omega arith)
lower_less Equal Equal le is = is
lower_less Equal Greater le is = is
lower_less Greater Less le is = absurd (omega arith)
lower_less Greater Equal le is = is
lower_less Greater Greater le is = is

between_equal : (a b : Ordering) → ordering_index a ≤ ordering_index b → b ≡ Equal → is_lt a ≡ false → a ≡ Equal
between_equal Less b le equal is = absurd (cc)
between_equal Equal b le equal is = refl
between_equal Greater Less le equal is = absurd (omega arith)
between_equal Greater Equal le equal is = absurd (omega arith)
between_equal Greater Greater le equal is = absurd (cc)

less_turned : (a : Ordering) → is_lt a ≡ true → is_lt (ordering_reverse a) ≡ false
less_turned Less is = refl
less_turned Equal is = absurd (cc)
less_turned Greater is = absurd (cc)

module _ (keys : List Key) (order : List ℕ) (known : AreByKey keys order) where
  low_at : (j d : ℕ) → j < length order → get_or order j d < length keys
  low_at j d low = subst (λ (n : ℕ). n < length keys) (get_or_default order j 0 d low) (known.low j low)

  rises : (sought : Key) → IsNonDecreasingBy (λ k. ordering_index (pair_cmp (key_at keys k) sought)) order
  rises sought = searchable_from_sorted pair_total (key_at keys) order sought known.rising

  -- the keys below a place in the order are below a key, and those from it on are not
  abbrev pub Parts : Key → ℕ → Type 0
  Parts sought i = IsPartition (λ k. is_below (key_at keys k) sought) order i

  -- the place that a list in blocks finds, where the test is whether a key is below
  pub placed : (sought : Key) (test : ℕ → Bool) → ((k : ℕ) → k < length keys → test k ≡ is_below (key_at keys k) sought) → (Q : ℕ → Type 0) → AtPartition test order Q →
      (i : ℕ) × (i ≤ length order) × Parts sought i × Q i
  placed sought test same Q at =
      let point = at partitioned in
      (point.0, point.1, (λ k d least below. sym (here k d (let u = point.1 in omega arith)) ∙ point.2.0 k d least below, λ k d least below. sym (here k d below) ∙ point.2.1 k d least below), point.3)
    where
      here : (k d : ℕ) → k < length order → test (get_or order k d) ≡ is_below (key_at keys (get_or order k d)) sought
      here k d low = same (get_or order k d) (low_at k d low)

      partitioned : IsPartitionedBy test order
      partitioned a b d le low is = here a d (omega arith) ∙ lower_less _ _ (rises sought a b d le low) (sym (here b d low) ∙ is)

  -- where a key is among these, it stands at its place
  pub stands : (key : Key) (i : ℕ) → Parts key i → (k : ℕ) → k < length keys → key_at keys k ≡ key → (i < length order) × (pair_cmp (key_at keys (get_or order i 0)) key ≡ Equal)
  stands key i parted k low is =
      let there = known.each k low in
      let within : there.0 < length order = there.1 in
      let equal : pair_cmp (key_at keys (get_or order there.0 k)) key ≡ Equal = ap (λ (n : ℕ). pair_cmp (key_at keys n) key) there.2 ∙ ap (λ (x : Key). pair_cmp x key) is ∙ tied_itself pair_total key in
      elim (cases_lt there.0 i) [
        | inl before ↦ let below = parted.0 there.0 k (omega arith) before in absurd (cc (below, equal))
        | inr behind ↦
            let some : i < length order = omega arith in
            let not_below = parted.1 i k (omega arith) some in
            (some, ap (λ (n : ℕ). pair_cmp (key_at keys n) key) (get_or_default order i 0 k some) ∙ between_equal _ _ (rises key i there.0 k behind within) equal not_below)
      ]

  less_not : (a b : Key) → is_below a b ≡ true → is_below b a ≡ false
  less_not a b less = ap is_lt (pair_total.antisymm b a) ∙ less_turned (pair_cmp a b) less

  module _ (key : Key) (i : ℕ) (under : i ≤ length order) (parted : Parts key i) (fresh : (k : ℕ) → k < length keys → key_at keys k ≡ key → ⊥) where
    abbrev n : ℕ
    n = length keys

    abbrev more : List Key
    more = keys ++ key ∷ []

    abbrev longer : List ℕ
    longer = insert order i n

    key_new : key_at more n ≡ key
    key_new = get_or_push keys key ([], []) n refl

    key_old : (j d : ℕ) → j < length order → key_at more (get_or order j d) ≡ key_at keys (get_or order j d)
    key_old j d low = get_or_append_left keys (key ∷ []) ([], []) (get_or order j d) (low_at j d low)

    below : (a b : ℕ) (x y : Key) → key_at more a ≡ x → key_at more b ≡ y → is_lt (pair_cmp x y) ≡ false → is_lt (pair_cmp (key_at more a) (key_at more b)) ≡ false
    below a b x y ea eb h = ap (λ (t : Key). is_lt (pair_cmp t (key_at more b))) ea ∙ ap (λ (t : Key). is_lt (pair_cmp x t)) eb ∙ h

    -- the element at a place of the longer list is an old one, or the new one
    old_at : (k j d : ℕ) → j < length order → get_or longer k d ≡ get_or order j d → key_at more (get_or longer k d) ≡ key_at keys (get_or order j d)
    old_at k j d low is = ap (λ (m : ℕ). key_at more m) is ∙ key_old j d low

    new_at : (d : ℕ) → key_at more (get_or longer i d) ≡ key
    new_at d = ap (λ (m : ℕ). key_at more m) (get_or-insert_at order i n d under) ∙ key_new

    rising : IsSortedBy (λ a b. is_lt (pair_cmp (key_at more a) (key_at more b))) longer
    rising k d low high =
        let size : k < length order = omega (arith, high, length-insert order i n under) in
        elim (cases_lt (k + 1) i) [
          | inl before ↦ below _ _ _ _ (old_at (k + 1) (k + 1) d (omega arith) (get_or-insert_below order i n d (k + 1) before under))
              (old_at k k d size (get_or-insert_below order i n d k (omega arith) under)) (known.rising k d low (omega arith))
          | inr behind ↦ elim (cases_lt k i) [
            | inl here ↦
                let at : k + 1 ≡ i = omega arith in
                below _ _ _ _ (subst (λ (j : ℕ). key_at more (get_or longer j d) ≡ key) (sym at) (new_at d))
                (old_at k k d size (get_or-insert_below order i n d k here under)) (less_not _ key (parted.0 k d low here))
            | inr behind ↦ elim (cases_lt i k) [
              | inl far ↦
                  let e : k - 1 + 1 ≡ k = omega arith in
                  let old : get_or longer k d ≡ get_or order (k - 1) d =
                  subst (λ (j : ℕ). get_or longer j d ≡ get_or order (k - 1) d) e (get_or-insert_above order i n d (k - 1) (omega arith) under) in
                  below _ _ _ _ (old_at (k + 1) k d size (get_or-insert_above order i n d k behind under)) (old_at k (k - 1) d (omega arith) old)
                  (subst (λ (j : ℕ). is_lt (pair_cmp (key_at keys (get_or order j d)) (key_at keys (get_or order (k - 1) d))) ≡ false) e (known.rising (k - 1) d (omega arith) (omega arith)))
              | inr near ↦
                  let at : i ≡ k = omega arith in
                  below _ _ _ _ (old_at (k + 1) k d size (get_or-insert_above order i n d k behind under))
                  (subst (λ (j : ℕ). key_at more (get_or longer j d) ≡ key) at (new_at d)) (parted.1 k d behind size)
            ]
          ]
        ]

    low : (p : ℕ) → p < length longer → get_or longer p 0 < length more
    low p small =
        let size : p < length order + 1 = omega (arith, small, length-insert order i n under) in
        let room : length more ≡ n + 1 = length_push keys key in
        elim (cases_lt p i) [
          | inl before ↦ let is = get_or-insert_below order i n 0 p before under in let old = low_at p 0 (omega arith) in omega (arith, is, old, room)
          | inr behind ↦ elim (cases_lt i p) [
            | inl far ↦
                let e : p - 1 + 1 ≡ p = omega arith in
                let is : get_or longer p 0 ≡ get_or order (p - 1) 0 = subst (λ (j : ℕ). get_or longer j 0 ≡ get_or order (p - 1) 0) e (get_or-insert_above order i n 0 (p - 1) (omega arith) under) in
                let old = low_at (p - 1) 0 (omega arith) in omega (arith, is, old, room)
            | inr near ↦
                let at : i ≡ p = omega arith in
                let is : get_or longer p 0 ≡ n = subst (λ (j : ℕ). get_or longer j 0 ≡ n) at (get_or-insert_at order i n 0 under) in omega (arith, is, room)
          ]
        ]

    each : (k : ℕ) → k < length more → Contains longer k
    each k small =
        let size : k < n + 1 = omega (arith, small, length_push keys key) in
        let long : length longer ≡ length order + 1 = (let l = length-insert order i n under in omega (arith, l)) in
        elim (cases_lt k n) [
          | inl old ↦
              let there = known.each k old in
              let within : there.0 < length order = there.1 in
              elim (cases_lt there.0 i) [
                | inl before ↦ (there.0, omega (arith, within, long), get_or-insert_below order i n k there.0 before under ∙ there.2)
                | inr behind ↦ (there.0 + 1, omega (arith, within, long), get_or-insert_above order i n k there.0 behind under ∙ there.2)
              ]
          | inr new ↦
              let is : n ≡ k = omega arith in
              (i, omega (arith, under, long), get_or-insert_at order i n k under ∙ is)
        ]

    pub inserted : AreByKey more longer
    inserted = record {
      rising = rising;
      low = low;
      each = each;
      apart = all_pairs_push (λ a b. a ≢ b) keys key known.apart (λ k d under is. fresh k under (get_or_default keys k ([], []) d under ∙ is));
    }

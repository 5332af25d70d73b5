-- A list in a strict order: where an item stands or belongs, and the list with it or without it.
use Rattle.std.proofs.Common.{◌≡◌, ◌≢◌, ℕ, ◌+◌, ◌-◌, ◌<◌, ◌≤◌, Bool, true, false, List, ◌⊎◌, inl, inr, length, get_or, refl, sym, ap, ◌∙◌, subst, arith, Option, Some, None}
use denote.Ref.{Bor}
use denote.Param.Members.{Mut}
use Rattle.std.specs.Prelude.{MatchBool, not, slice_get}
use Rattle.std.specs.Fn.{Called, ComputesKey}
use Rattle.std.specs.List.{insert, remove, Contains}
use Rattle.std.specs.List.Sorted.{IsPartitionPoint, IsPartitionedBy}
use Rattle.std.proofs.lemmas.Bool.{cases_Bool, cases_eq, cases_lt, false≢true}
use Rattle.std.proofs.lemmas.Fn.{always_returns_same}
use Rattle.std.proofs.lemmas.List.{get_or_default}
use Rattle.std.proofs.lemmas.Option.{get_or_from_slice_get, slice_get_read, slice_get_cases}
use Rattle.std.proofs.lemmas.List.Edits.{length-insert, get_or-insert_below, get_or-insert_at, get_or-insert_above, length-remove, get_or-remove_below, get_or-remove_above}
use Rattle.block_list.specs.Partition.{AtPartition}
use Rattle.block_list.specs.Rising.{IsRising, Adds, Removes}

-- no item goes before itself, the order passes on, and two of which neither goes first are one
pub record IsStrictOrder {X : Type 0} (before : X → X → Bool) : Type 0 where
  pub itself : (x : X) → before x x ≡ false
  pub chain : (x y z : X) → before x y ≡ true → before y z ≡ true → before x z ≡ true
  pub tie : (x y : X) → before x y ≡ false → before y x ≡ false → x ≡ y

-- ---- the items of a list with one more

module _ {X : Type 0} (xs : List X) (one : X) (place : ℕ) (within : place ≤ length xs) where
  size : length (insert xs place one) ≡ length xs + 1
  size = length-insert xs place one within

  above : (k : ℕ) (d : X) → place < k → get_or (insert xs place one) k d ≡ get_or xs (k - 1) d
  above k d less =
      let e : k - 1 + 1 ≡ k = omega arith in
      subst (λ (i : ℕ). get_or (insert xs place one) i d ≡ get_or xs (k - 1) d) e (get_or-insert_above xs place one d (k - 1) (omega arith) within)

  adds-insert : Adds one xs (insert xs place one)
  adds-insert = record { each = λ y. (there y, back y) }
    where
      there : (y : X) → Contains (insert xs place one) y → (y ≡ one) ⊎ Contains xs y
      there y c =
          let k = c.0 in
          let low : k < length (insert xs place one) = c.1 in
          let is : get_or (insert xs place one) k y ≡ y = c.2 in
          elim (cases_lt k place) [
            | inl k_before ↦ inr (k, omega arith, sym (get_or-insert_below xs place one y k k_before within) ∙ is)
            | inr on ↦ elim (cases_eq k place) [
              | inl at ↦ inl (sym is ∙ ap (λ (i : ℕ). get_or (insert xs place one) i y) at ∙ get_or-insert_at xs place one y within)
              | inr off ↦ inr (k - 1, omega (arith, size), sym (above k y (omega arith)) ∙ is)
            ]
          ]

      back : (y : X) → (y ≡ one) ⊎ Contains xs y → Contains (insert xs place one) y
      back y (inl e) = (place, omega (arith, size), get_or-insert_at xs place one y within ∙ sym e)
      back y (inr c) =
          let k = c.0 in
          let low : k < length xs = c.1 in
          let is : get_or xs k y ≡ y = c.2 in
          elim (cases_lt k place) [
            | inl k_before ↦ (k, omega (arith, size), get_or-insert_below xs place one y k k_before within ∙ is)
            | inr on ↦ (k + 1, omega (arith, size), get_or-insert_above xs place one y k on within ∙ is)
          ]

-- ---- a list in order

module _ {X : Type 0} (before : X → X → Bool) (order : IsStrictOrder before) (xs : List X) (rising : IsRising before xs) where
  pair : (ys : List X) (i j : ℕ) (d a b : X) → get_or ys i d ≡ a → get_or ys j d ≡ b → before a b ≡ true → before (get_or ys i d) (get_or ys j d) ≡ true
  pair ys i j d a b p q h = ap (λ (z : X). before z (get_or ys j d)) p ∙ ap (before a) q ∙ h

  not_both : (x y : X) → before x y ≡ true → before y x ≡ false
  not_both x y h = elim (cases_Bool (before y x)) [
    | inr f ↦ f
    | inl t ↦ absurd (false≢true (sym (order.itself x) ∙ order.chain x y x h t))
  ]

  behind : (x y : X) → before x y ≡ false → x ≢ y → before y x ≡ true
  behind x y h ne = elim (cases_Bool (before y x)) [
    | inl t ↦ t
    | inr f ↦ absurd (ne (order.tie x y h f))
  ]

  -- no item stands twice
  once : (i j : ℕ) (x d : X) → i < length xs → j < length xs → get_or xs i d ≡ x → get_or xs j d ≡ x → i ≡ j
  once i j x d low high a b =
      elim (cases_eq i j) [
        | inl e ↦ e
        | inr ne ↦ elim (cases_lt i j) [
          | inl less ↦ absurd (false≢true (sym (order.itself x) ∙ sym (ap (λ (z : X). before z (get_or xs j d)) a ∙ ap (before x) b) ∙ rising i j d less high))
          | inr more ↦ absurd (false≢true (sym (order.itself x) ∙ sym (ap (λ (z : X). before z (get_or xs i d)) b ∙ ap (before x) a) ∙ rising j i d (omega arith) low))
        ]
      ]

  -- none of the items goes before the first
  pub least : (first y : X) → 0 < length xs → first ≡ get_or xs 0 first → Contains xs y → before y first ≡ false
  least first y some is c =
      let k = c.0 in
      let low : k < length xs = c.1 in
      let at : get_or xs k y ≡ y = c.2 in
      let front : get_or xs 0 y ≡ first = get_or_default xs 0 y first some ∙ sym is in
      elim (cases_eq k 0) [
        | inl e ↦
            let same : y ≡ first = sym at ∙ ap (λ (i : ℕ). get_or xs i y) e ∙ front in
            subst (λ (x : X). before x first ≡ false) (sym same) (order.itself first)
        | inr ne ↦
            not_both first y (subst (λ (x : X). before first x ≡ true) at (subst (λ (x : X). before x (get_or xs k y) ≡ true) front (rising 0 k y (omega arith) low)))
      ]

  -- ---- one item's place

  module _ (one : X) where
    partitioned : IsPartitionedBy (λ y. before y one) xs
    partitioned i j d le high h =
        elim (cases_eq i j) [
          | inl e ↦ subst (λ (k : ℕ). before (get_or xs k d) one ≡ true) (sym e) h
          | inr ne ↦ order.chain (get_or xs i d) (get_or xs j d) one (rising i j d (omega arith) high) h
        ]

    module _ (place : ℕ) (parted : IsPartitionPoint (λ y. before y one ≡ true) (λ y. before y one ≡ false) xs place) where
      stands : Contains xs one → place ≤ length xs → (place < length xs) × (get_or xs place one ≡ one)
      stands c within =
          let k = c.0 in
          let low : k < length xs = c.1 in
          let is : get_or xs k one ≡ one = c.2 in
          let here : place ≤ k = elim (cases_lt k place) [
            | inr le ↦ le
            | inl less ↦ absurd (false≢true (sym (order.itself one) ∙ subst (λ (y : X). before y one ≡ true) is (parted.0 k one (omega arith) less)))
          ] in
          let same : place ≡ k = elim (cases_eq place k) [
            | inl e ↦ e
            | inr ne ↦
                let first : before (get_or xs place one) (get_or xs k one) ≡ true = rising place k one (omega arith) low in
                let not_first : before (get_or xs place one) one ≡ false = parted.1 place one (omega arith) (omega arith) in
                absurd (false≢true (sym not_first ∙ subst (λ (y : X). before (get_or xs place one) y ≡ true) is first))
          ] in
          (omega arith, ap (λ (i : ℕ). get_or xs i one) same ∙ is)

      -- ---- what stands at the place tells whether the item is there

      absent_past : slice_get xs place ≡ None → place ≤ length xs → Contains xs one → ⊥
      absent_past none within c =
          let at = stands c within in
          let some : slice_get xs place ≡ Some one = slice_get_read xs (length xs) place one refl at.0 (sym at.1) in
          cc (none, some)

      is_there : (found : X) → slice_get xs place ≡ Some found → place ≤ length xs → MatchBool (not (before one found)) (Contains xs one) (Contains xs one → ⊥)
      is_there found is within =
          cond_cases (before one found)
          (λ t c.
          let at = stands c within in
          let here : found ≡ one = sym (get_or_from_slice_get xs place found one is) ∙ at.1 in
          false≢true (sym (order.itself one) ∙ subst (λ (y : X). before one y ≡ true) here t))
          (λ f.
          let low : place < length xs = some_low found is in
          let here : get_or xs place one ≡ found = get_or_from_slice_get xs place found one is in
          let not_before : before found one ≡ false = subst (λ (y : X). before y one ≡ false) here (parted.1 place one (omega arith) low) in
          (place, low, here ∙ order.tie found one not_before f))
        where
          some_low : (found : X) → slice_get xs place ≡ Some found → place < length xs
          some_low found is = elim (slice_get_cases xs place).1 [
            | inl inside ↦ inside.1
            | inr past ↦ absurd (let none = past.1 in cc (none, is))
          ]

          cond_cases : {A B : Type 0} (b : Bool) → (b ≡ true → B) → (b ≡ false → A) → MatchBool (not b) A B
          cond_cases true f g = f refl
          cond_cases false f g = g refl

      -- ---- the list with the item

      rising-insert : place ≤ length xs → (Contains xs one → ⊥) → IsRising before (insert xs place one)
      rising-insert within new i j d less high =
          let long : length (insert xs place one) ≡ length xs + 1 = length-insert xs place one within in
          elim (cases_lt j place) [
            | inl j_before ↦ pair _ i j d _ _ (get_or-insert_below xs place one d i (omega arith) within) (get_or-insert_below xs place one d j j_before within) (rising i j d less (omega arith))
            | inr j_on ↦ elim (cases_eq j place) [
              | inl at ↦
                  pair _ i j d _ one (get_or-insert_below xs place one d i (omega arith) within)
                  (ap (λ (k : ℕ). get_or (insert xs place one) k d) at ∙ get_or-insert_at xs place one d within) (parted.0 i d (omega arith) (omega arith))
              | inr j_off ↦ elim (cases_lt i place) [
                | inl i_before ↦ pair _ i j d _ _ (get_or-insert_below xs place one d i i_before within) (above xs one place within j d (omega arith)) (rising i (j - 1) d (omega arith) (omega arith))
                | inr i_on ↦ elim (cases_eq i place) [
                  | inl at ↦
                      pair _ i j d one _ (ap (λ (k : ℕ). get_or (insert xs place one) k d) at ∙ get_or-insert_at xs place one d within)
                      (above xs one place within j d (omega arith)) (after (j - 1) d (omega arith) (omega arith))
                  | inr i_off ↦ pair _ i j d _ _ (above xs one place within i d (omega arith)) (above xs one place within j d (omega arith)) (rising (i - 1) (j - 1) d (omega arith) (omega arith))
                ]
              ]
            ]
          ]
        where
          after : (k : ℕ) (d : X) → place ≤ k → k < length xs → before one (get_or xs k d) ≡ true
          after k d from low = behind (get_or xs k d) one (parted.1 k d from low) (λ e. new (k, low, get_or_default xs k one d low ∙ e))

      -- ---- the list without the item

      module _ (within : place ≤ length xs) (among : Contains xs one) where
        here : place < length xs
        here = (stands among within).0

        is : get_or xs place one ≡ one
        is = (stands among within).1

        rising-remove : IsRising before (remove xs place)
        rising-remove i j d less high =
            let long : length (remove xs place) + 1 ≡ length xs = length-remove xs place here in
            elim (cases_lt j place) [
              | inl j_before ↦ pair _ i j d _ _ (get_or-remove_below xs place d i (omega arith) here) (get_or-remove_below xs place d j j_before here) (rising i j d less (omega arith))
              | inr j_on ↦ elim (cases_lt i place) [
                | inl i_before ↦ pair _ i j d _ _ (get_or-remove_below xs place d i i_before here) (get_or-remove_above xs place d j j_on here) (rising i (j + 1) d (omega arith) (omega arith))
                | inr i_on ↦ pair _ i j d _ _ (get_or-remove_above xs place d i i_on here) (get_or-remove_above xs place d j j_on here) (rising (i + 1) (j + 1) d (omega arith) (omega arith))
              ]
            ]

        removes-remove : Removes one xs (remove xs place)
        removes-remove = record { each = λ y. (gone y, λ both. back y both.0 both.1) }
          where
            long : length (remove xs place) + 1 ≡ length xs
            long = length-remove xs place here

            other : (k : ℕ) (y : X) → k < length xs → k ≢ place → get_or xs k y ≡ y → y ≢ one
            other k y low ne at e = ne (once k place one y low here (at ∙ e) (get_or_default xs place y one here ∙ is))

            gone : (y : X) → Contains (remove xs place) y → Contains xs y × (y ≢ one)
            gone y left =
                let k = left.0 in
                let low : k < length (remove xs place) = left.1 in
                let at : get_or (remove xs place) k y ≡ y = left.2 in
                elim (cases_lt k place) [
                  | inl k_before ↦
                      let old : get_or xs k y ≡ y = sym (get_or-remove_below xs place y k k_before here) ∙ at in
                      let low : k < length xs = omega (arith, long) in
                      ((k, low, old), other k y low (omega arith) old)
                  | inr on ↦
                      let old : get_or xs (k + 1) y ≡ y = sym (get_or-remove_above xs place y k on here) ∙ at in
                      let low : k + 1 < length xs = omega (arith, long) in
                      ((k + 1, low, old), other (k + 1) y low (omega arith) old)
                ]

            back : (y : X) → Contains xs y → y ≢ one → Contains (remove xs place) y
            back y c ne =
                let k = c.0 in
                let low : k < length xs = c.1 in
                let at : get_or xs k y ≡ y = c.2 in
                elim (cases_lt k place) [
                  | inl k_before ↦ (k, omega (arith, long, here), get_or-remove_below xs place y k k_before here ∙ at)
                  | inr on ↦ elim (cases_eq k place) [
                    | inl same ↦ absurd (ne (sym at ∙ ap (λ (i : ℕ). get_or xs i y) same ∙ get_or_default xs place y one here ∙ is))
                    | inr off ↦
                        let e : k - 1 + 1 ≡ k = omega arith in
                        (k - 1, omega (arith, long), get_or-remove_above xs place y (k - 1) (omega arith) here ∙ ap (λ (i : ℕ). get_or xs i y) e ∙ at)
                  ]
                ]

    -- ---- what the calls of a list in blocks mean for it, with a closure that tells which items go before the one

    module _ {F : Type 0} {g : Mut F (Bor X × Unit {0}) Bool} {f : F} (calls : (a : Bor X × Unit {0}) (r : Bool) (f' : F) → Called g f a r f' → (r ≡ before a.0.now one) × (f' ≡ f)) where
      abbrev Clause : (ℕ → Type 0) → Type 0
      Clause Q = (p : X → Bool) → ComputesKey g p f → AtPartition p xs Q

      placed : (Q : ℕ → Type 0) → Clause Q → (place : ℕ) × (place ≤ length xs) × IsPartitionPoint (λ y. before y one ≡ true) (λ y. before y one ≡ false) xs place × Q place
      placed Q clause = clause (λ y. before y one) (always_returns_same g (λ a r. r ≡ before a.0.now one) f calls) partitioned

      module _ (at : Option X) (clause : Clause (λ index. at ≡ slice_get xs index)) where
        pub not_found : at ≡ None → Contains xs one → ⊥
        not_found none = let h = placed (λ index. at ≡ slice_get xs index) clause in absent_past h.0 h.2 (sym h.3 ∙ none) h.1

        pub found : (other : X) → at ≡ Some other → MatchBool (not (before one other)) (Contains xs one) (Contains xs one → ⊥)
        found other some = let h = placed (λ index. at ≡ slice_get xs index) clause in is_there h.0 h.2 other (sym h.3 ∙ some) h.1

      module _ (new : List X) (clause : Clause (λ index. new ≡ insert xs index one)) where
        pub rising_with : (Contains xs one → ⊥) → IsRising before new
        rising_with absent = let h = placed (λ index. new ≡ insert xs index one) clause in subst (IsRising before) (sym h.3) (rising-insert h.0 h.2 h.1 absent)

        pub adds : Adds one xs new
        adds = let h = placed (λ index. new ≡ insert xs index one) clause in subst (Adds one xs) (sym h.3) (adds-insert xs one h.0 h.1)

      module _ (new : List X) (taken : Option X) (clause : Clause (λ index. (taken ≡ slice_get xs index) × (new ≡ remove xs index))) (among : Contains xs one) where
        pub rising_without : IsRising before new
        rising_without = let h = placed (λ index. (taken ≡ slice_get xs index) × (new ≡ remove xs index)) clause in subst (IsRising before) (sym h.3.1) (rising-remove h.0 h.2 h.1 among)

        pub removes : Removes one xs new
        removes = let h = placed (λ index. (taken ≡ slice_get xs index) × (new ≡ remove xs index)) clause in subst (Removes one xs) (sym h.3.1) (removes-remove h.0 h.2 h.1 among)

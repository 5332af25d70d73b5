-- The links that a search among their sorted places finds.
use Rattle.std.proofs.Common.{◌≡◌, ℕ, zero, suc, ◌<◌, ◌≤◌, List, [], ◌∷◌, ◌++◌, map, length, get_or, refl, sym, ap, ◌∙◌, subst, true, false, arith, inl, inr, Option}
use mathlib.Core.Bool.{true≢false}
use Rattle.std.specs.declared.cmp.Ordering.TheVariants.{Less, Equal}
use Rattle.std.specs.Prelude.{slice_get, IfSome}
use Rattle.std.specs.List.{insert, Contains}
use Rattle.std.specs.Cmp.{Equal-is}
use Rattle.std.specs.Ordering.{is_lt, is_eq}
use Rattle.std.proofs.lemmas.Bool.{cases_lt}
use Rattle.std.proofs.lemmas.List.{length-map, map_push, get_or_default}
use Rattle.std.proofs.lemmas.Option.{slice_get-get_or}
use Rattle.block_list.specs.Partition.{AtPartition}
use Rattle.dimensions.specs.Order.{text_cmp, pair_cmp}
use Rattle.dimensions.proofs.Orders.{texts-tied, then-first, then-other}
use Rattle.pool_index.specs.SortedLinks.{Key, key_at, AreByKey, AreSorted, order_at, is_before, HasKeyAt, HasNoKey}
use Rattle.pool_index.proofs.PlaceSearch.{Parts, placed, stands, inserted}

keys-tied : (a b : Key) → pair_cmp a b ≡ Equal → a ≡ b
keys-tied a b h =
    let first = texts-tied a.0 b.0 (then-first (text_cmp a.0 b.0) (text_cmp a.1 b.1) h) in
    let second = texts-tied a.1 b.1 (then-other (text_cmp a.0 b.0) (text_cmp a.1 b.1) h) in
    λ i. (first i, second i)

pub key_at-map : {L : Type 0} (key : L → Key) (links : List L) (k : ℕ) (d : L) → k < length links → key_at (map key links) k ≡ key (get_or links k d)
key_at-map key [] k d low = absurd (omega arith)
key_at-map key (link ∷ links) zero d low = refl
key_at-map key (link ∷ links) (suc k) d low = key_at-map key links k d (omega arith)

order_at-map : {L : Type 0} (key : L → Key) (links : List L) (sought : Key) (k : ℕ) → k < length links → order_at key links sought k ≡ pair_cmp (key_at (map key links) k) sought
order_at-map key [] sought k low = absurd (omega arith)
order_at-map key (link ∷ links) sought zero low = refl
order_at-map key (link ∷ links) sought (suc k) low = order_at-map key links sought k (omega arith)

order_at-past : {L : Type 0} (key : L → Key) (links : List L) (sought : Key) (k : ℕ) → length links ≤ k → order_at key links sought k ≡ Less
order_at-past key [] sought k past = refl
order_at-past key (link ∷ links) sought zero past = absurd (omega arith)
order_at-past key (link ∷ links) sought (suc k) past = order_at-past key links sought k (omega arith)

-- a link that compares as equal has the key
pub found : {L : Type 0} (key : L → Key) (links : List L) (sought : Key) (place : ℕ) → is_eq (order_at key links sought place) ≡ true → HasKeyAt key links sought place
found key links sought place is =
    elim (cases_lt place (length links)) [
      | inr past ↦ let less = order_at-past key links sought place past in absurd (cc (less, is))
      | inl low ↦
          let tied : key_at (map key links) place ≡ sought = keys-tied _ _ (sym (order_at-map key links sought place low) ∙ (Equal-is (order_at key links sought place)).0 is) in
          record { within = low; is = λ d. sym (key_at-map key links place d low) ∙ tied }
    ]

module _ {L : Type 0} (key : L → Key) (links : List L) (order : List ℕ) (sorted : AreSorted key links order) (sought : Key) where
  size : length (map key links) ≡ length links
  size = length-map links key

  point : (Q : ℕ → Type 0) → AtPartition (is_before key links sought) order Q → (i : ℕ) × (i ≤ length order) × Parts (map key links) order sorted sought i × Q i
  point Q at = placed (map key links) order sorted sought (is_before key links sought) (λ k low. ap is_lt (order_at-map key links sought k (omega (arith, low, size)))) Q at

  -- where the link at the place that is found has another key, no link has the key
  pub none_found : (at : Option ℕ) → AtPartition (is_before key links sought) order (λ i. at ≡ slice_get order i) → IfSome at (λ place. is_eq (order_at key links sought place) ≡ false) → HasNoKey key links sought
  none_found at searched other = record { none = absent }
    where
      absent : (link : L) → Contains links link → key link ≡ sought → ⊥
      absent link among is =
          let p = point (λ i. at ≡ slice_get order i) searched in
          let here = stands (map key links) order sorted sought p.0 p.2 among.0 (omega (arith, among.1, size)) (key_at-map key links among.0 link among.1 ∙ ap key among.2 ∙ is) in
          let place = get_or order p.0 0 in
          let low : place < length links = (let l = sorted.low p.0 here.0 in omega (arith, l, size)) in
          let equal : order_at key links sought place ≡ Equal = order_at-map key links sought place low ∙ here.1 in
          true≢false (sym (ap is_eq equal) ∙ subst (λ (found : Option ℕ). IfSome found (λ place. is_eq (order_at key links sought place) ≡ false)) (p.3 ∙ slice_get-get_or order p.0 0 here.0) other)

  -- a link with a key that none has is added where the search ends
  pub link_added : (link : L) → key link ≡ sought → HasNoKey key links sought → (more : List L) (longer : List ℕ) (count : ℕ) → more ≡ links ++ link ∷ [] →
      AtPartition (is_before key links sought) order (λ i. longer ≡ insert order i count) → count ≡ length links → AreSorted key more longer
  link_added link is none more longer count one_more searched counted =
      let p = point (λ i. longer ≡ insert order i count) searched in
      subst (λ (ks : List Key). AreByKey ks longer) (sym (ap (map key) one_more ∙ map_push key links link ∙ ap (λ (k : Key). map key links ++ k ∷ []) is))
      (subst (λ (os : List ℕ). AreByKey (map key links ++ sought ∷ []) os) (sym (p.3 ∙ ap (insert order p.0) (counted ∙ sym size)))
      (inserted (map key links) order sorted sought p.0 p.1 p.2 fresh))
    where
      fresh : (k : ℕ) → k < length (map key links) → key_at (map key links) k ≡ sought → ⊥
      fresh k below same =
          let low : k < length links = omega (arith, below, size) in
          none.none (get_or links k link) (k, low, get_or_default links k (get_or links k link) link low) (sym (key_at-map key links k link low) ∙ same)

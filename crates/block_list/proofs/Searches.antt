-- The place behind the items that pass a test.
use Rattle.std.proofs.Common.{◌≡◌, ℕ, zero, suc, ◌+◌, ◌-◌, ◌<◌, ◌≤◌, inl, inr, Bool, true, false, List, [], ◌∷◌, length, get_or, refl, sym, ap, ◌∙◌, arith}
use Rattle.std.specs.List.{flat_map, All}
use Rattle.std.specs.List.Sorted.{IsPartitionedBy}
use Rattle.std.proofs.lemmas.Bool.{cases_lt, false≢true, false_from_ne_true}
use Rattle.std.proofs.lemmas.List.Concat.{get_or-flat_map}
use Rattle.std.specs.Prelude.{Vec, vec_items}
use Rattle.block_list.specs.declared.place.Place.{Place}
use Rattle.block_list.specs.Partition.{IsPartition, AtPartition, first_passes}
use Rattle.block_list.specs.Blocks.{items_of, index_of, IsPlace}
use Rattle.block_list.proofs.Pieces.{start_of, start_next, start_all, start_rises, place_within}

pub first_of : {T : Type 0} (p : T → Bool) (xs : List T) (d : T) → 0 < length xs → first_passes p xs ≡ p (get_or xs 0 d)
first_of p [] d some = absurd (omega arith)
first_of p (x ∷ xs) d some = refl

element : {T : Type 0} (xs : List T) → 0 < length xs → T
element [] some = absurd (omega arith)
element (x ∷ xs) some = x

module _ {X A : Type 0} (f : X → List A) (p : A → Bool) (z : X) (xs : List X) (parted : IsPartitionedBy p (flat_map f (z ∷ xs))) (some : All (λ x. 0 < length (f x)) xs) where
  abbrev pub all : List A
  all = flat_map f (z ∷ xs)

  abbrev pub start : ℕ → ℕ
  start k = start_of f (z ∷ xs) k

  -- the element at a place of a list
  value_at : (k o : ℕ) (x : X) (d : A) → k < length (z ∷ xs) → o < length (f (get_or (z ∷ xs) k x)) → (q : ℕ) → q ≡ start k + o → p (get_or all q d) ≡ p (get_or (f (get_or (z ∷ xs) k x)) o d)
  value_at k o x d low within q at = ap (λ (i : ℕ). p (get_or all i d)) at ∙ ap p (get_or-flat_map f (z ∷ xs) k o x d low within)

  place_low : (k o : ℕ) (x : X) → k < length (z ∷ xs) → o < length (f (get_or (z ∷ xs) k x)) → start k + o < length all
  place_low k o x low within = let next = place_within f (z ∷ xs) k (suc o) x low within in omega (arith, next)

  start_low : (k : ℕ) (x : X) → k < length xs → start (suc k) < length all
  start_low k x low = omega (arith, place_low (suc k) 0 x (omega arith) (some k x low))

  pub partitioned_in : (k : ℕ) (x : X) → k < length (z ∷ xs) → IsPartitionedBy p (f (get_or (z ∷ xs) k x))
  partitioned_in k x low i j d le within passes =
      let i_within : i < length (f (get_or (z ∷ xs) k x)) = omega arith in
      sym (value_at k i x d low i_within (start k + i) refl)
      ∙ parted (start k + i) (start k + j) d (omega arith) (place_low k j x low within) (value_at k j x d low within (start k + j) refl ∙ passes)

  -- the first element of a list behind the first one
  first_at : (k : ℕ) (x : X) (d : A) → k < length xs → first_passes p (f (get_or xs k x)) ≡ p (get_or all (start (suc k)) d)
  first_at k x d low = first_of p (f (get_or xs k x)) d (some k x low) ∙ sym (value_at (suc k) 0 x d (omega arith) (some k x low) (start (suc k)) (omega arith))

  pub partitioned : IsPartitionedBy (λ x. first_passes p (f x)) xs
  partitioned i j x le low passes =
      let i_low : i < length xs = omega arith in
      let d = element (f (get_or xs i x)) (some i x i_low) in
      first_at i x d i_low
      ∙ parted (start (suc i)) (start (suc j)) d (start_rises f (z ∷ xs) (suc i) (suc j) (omega arith)) (start_low j x low) (sym (first_at j x d low) ∙ passes)

  pub partition : (k o : ℕ) (x : X) → k ≤ length xs → o ≤ length (f (get_or (z ∷ xs) k x)) → IsPartition (λ x. first_passes p (f x)) xs k → IsPartition p (f (get_or (z ∷ xs) k x)) o →
      IsPartition p all (start k + o)
  partition k o x low within lists one = (λ q d from less. front q d less, λ q d from less. back q d from less)
    where
      k_low : k < length (z ∷ xs)
      k_low = omega arith

      next : start (suc k) ≡ start k + length (f (get_or (z ∷ xs) k x))
      next = start_next f (z ∷ xs) k x k_low

      before : (j q : ℕ) (d : A) → j ≤ length xs → IsPartition (λ x. first_passes p (f x)) xs j → q < start j → p (get_or all q d) ≡ true
      before zero q d j_low ls less = absurd (omega arith)
      before (suc j) q d j_low ls less =
          parted q (start (suc j)) d (omega arith) (start_low j x (omega arith)) (sym (first_at j x d (omega arith)) ∙ ls.0 j x (omega arith) (omega arith))

      front : (q : ℕ) (d : A) → q < start k + o → p (get_or all q d) ≡ true
      front q d less =
          elim (cases_lt q (start k)) [
            | inl lower ↦ before k q d low lists lower
            | inr from ↦ value_at k (q - start k) x d k_low (omega arith) q (omega arith) ∙ one.0 (q - start k) d (omega arith) (omega arith)
          ]

      back : (q : ℕ) (d : A) → start k + o ≤ q → q < length all → p (get_or all q d) ≡ false
      back q d from less =
          elim (cases_lt q (start (suc k))) [
            | inl lower ↦ value_at k (q - start k) x d k_low (omega (arith, next)) q (omega arith) ∙ one.1 (q - start k) d (omega arith) (omega (arith, next))
            | inr higher ↦ behind (elim (cases_lt k (length xs)) [
              | inl more ↦ more
              | inr end ↦ absurd (omega (arith, start_all f (z ∷ xs) (suc k) (omega arith)))
            ]) higher
          ]
        where
          behind : k < length xs → start (suc k) ≤ q → p (get_or all q d) ≡ false
          behind more higher =
              false_from_ne_true (p (get_or all q d)) (λ passes.
              false≢true (sym (lists.1 k x (omega arith) more) ∙ first_at k x d more ∙ parted (start (suc k)) q d higher less passes))

-- the place behind the items that pass a test is the index of a partition
pub at_place : {T Z : Type 0} (p : T → Bool) (blocks : List (Vec T Z)) (place : Place) (Q : ℕ → Type 0) → IsPlace blocks place →
    (IsPartitionedBy p (items_of blocks) → IsPartition p (items_of blocks) (index_of blocks place)) → Q (index_of blocks place) → AtPartition p (items_of blocks) Q
at_place p [] place Q is found holds parted = absurd (let low = is.block in omega (arith, low))
at_place p (head ∷ rest) place Q is found holds parted =
    (index_of (head ∷ rest) place, place_within vec_items (head ∷ rest) place.block place.offset head is.block (is.offset head), found parted, holds)

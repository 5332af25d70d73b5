-- Sorted keys, and sorted extents, of which no two side by side clash.
use Rattle.std.proofs.Common.{◌≡◌, ℕ, ◌+◌, ◌≤◌, Bool, true, false, ◌&&◌, nat_lt, MatchBool, List, length, get_or, All, AllPairs, IsPermutation, IsSorted, refl, ap, ◌∙◌, arith}
use Rattle.std.specs.List.{AllAdjacentBelow}
use Rattle.std.specs.List.Sorted.{IsNonDecreasingBy}
use Rattle.std.specs.Cmp.{IsTotalOrder}
use Rattle.std.specs.Ordering.{is_lt, is_eq, ordering_reverse}
use Rattle.std.specs.declared.cmp.Ordering.{Ordering}
use Rattle.std.specs.declared.cmp.Ordering.TheVariants.{Less, Equal, Greater}
use Rattle.std.proofs.lemmas.Bool.{lt-ltb, le-ltb, ltb-false}
use Rattle.std.proofs.lemmas.List.Sorted.{IsPermutation-sym, All-permutation}
use Rattle.blob_rows.specs.declared.extent.Extent.{Extent}
use Rattle.blob_rows.specs.Extents.{AreApart}
use Rattle.base_checks.specs.Keys.{Differ, AreDistinct, ShareNone, IsFull}
use Rattle.base_checks.proofs.Pairs.{pairs_moved, chained}

-- ---- keys

reversed_eq : (r s : Ordering) → r ≡ ordering_reverse s → is_eq r ≡ is_eq s
reversed_eq r Less e = ap is_eq e
reversed_eq r Equal e = ap is_eq e
reversed_eq r Greater e = ap is_eq e

less_of : (r s : Ordering) → s ≡ ordering_reverse r → is_lt s ≡ false → is_eq r ≡ false → r ≡ Less
less_of Less s e l q = refl
less_of Equal s e l q = absurd (cc (q))
less_of Greater s e l q = absurd (cc (e, l))

module _ {K : Type 0} (cmp : K → K → Ordering) (total : IsTotalOrder cmp) where
  differ_both : (a b : K) → Differ cmp a b → Differ cmp b a
  differ_both a b e = reversed_eq (cmp b a) (cmp a b) (total.antisymm b a) ∙ e

  abbrev IsBelow : K → K → Type 0
  IsBelow a b = cmp a b ≡ Less

  -- sorted neighbours that differ rise, and so do all
  sorted_distinct : (keys : List K) → IsSorted cmp keys → AllAdjacentBelow (Differ cmp) keys (length keys) → AreDistinct cmp keys
  sorted_distinct keys up beside i j d less high = ap is_eq (below i j d less high)
    where
      below : AllPairs IsBelow keys
      below =
          chained IsBelow total.trans keys
          (λ k e low. less_of (cmp (get_or keys k e) (get_or keys (k + 1) e)) (cmp (get_or keys (k + 1) e) (get_or keys k e)) (total.antisymm (get_or keys (k + 1) e) (get_or keys k e)) (up k e (omega arith) low) (beside k e low))

  -- what the sorted keys tell is told of the keys
  pub told_of_keys : (keys sorted : List K) → IsPermutation keys sorted → IsSorted cmp sorted → (found : Bool) →
      MatchBool found (AreDistinct cmp sorted → ⊥) (AllAdjacentBelow (Differ cmp) sorted (length sorted)) → MatchBool found (AreDistinct cmp keys → ⊥) (AreDistinct cmp keys)
  told_of_keys keys sorted moved up true h = λ distinct. h (pairs_moved (Differ cmp) differ_both keys sorted moved distinct)
  told_of_keys keys sorted moved up false h = pairs_moved (Differ cmp) differ_both sorted keys (IsPermutation-sym keys sorted moved) (sorted_distinct sorted up h)

-- ---- extents

and_both : (p q : Bool) → (p && q) ≡ (q && p)
and_both true true = refl
and_both true false = refl
and_both false true = refl
and_both false false = refl

first_of : (p q : Bool) → (p && q) ≡ false → q ≡ true → p ≡ false
first_of true q e t = absurd (let off : q ≡ false = e in cc (off, t))
first_of false q e t = refl

and_first : (p q : Bool) → p ≡ false → (p && q) ≡ false
and_first true q e = absurd (cc (e))
and_first false q e = refl

share_both : (a b : Extent) → ShareNone a b → ShareNone b a
share_both a b e = and_both (nat_lt a.at (b.at + b.units)) (nat_lt b.at (a.at + a.units)) ∙ e

-- the one ends before the other begins
abbrev Ends : Extent → Extent → Type 0
Ends a b = a.at + a.units ≤ b.at

ends_of : (a b : Extent) → a.at ≤ b.at → IsFull b → ShareNone a b → Ends a b
ends_of a b rise full apart =
    ltb-false b.at (a.at + a.units) (first_of (nat_lt b.at (a.at + a.units)) (nat_lt a.at (b.at + b.units)) apart (lt-ltb a.at (b.at + b.units) (omega (arith, rise, full))))

share_none : (a b : Extent) → Ends a b → ShareNone a b
share_none a b ends = and_first (nat_lt b.at (a.at + a.units)) (nat_lt a.at (b.at + b.units)) (le-ltb b.at (a.at + a.units) ends)

ends_chain : (a b c : Extent) → Ends a b → Ends b c → Ends a c
ends_chain a b c ab bc = omega (arith, ab, bc)

abbrev first_unit : Extent → ℕ
first_unit extent = extent.at

-- sorted neighbours that share no unit end one before the other, and so do all
sorted_apart : (extents : List Extent) → IsNonDecreasingBy first_unit extents → All IsFull extents → AllAdjacentBelow ShareNone extents (length extents) → AreApart extents
sorted_apart extents rise full beside i j d less high = share_none (get_or extents i d) (get_or extents j d) (ends i j d less high)
  where
    ends : AllPairs Ends extents
    ends = chained Ends ends_chain extents (λ k e low. ends_of (get_or extents k e) (get_or extents (k + 1) e) (rise k (k + 1) e (omega arith) low) (full (k + 1) e low) (beside k e low))

-- what the sorted extents tell is told of the extents
pub told_of_extents : (extents sorted : List Extent) → IsPermutation extents sorted → IsNonDecreasingBy first_unit sorted → All IsFull extents → (found : Bool) →
    MatchBool found (AreApart sorted → ⊥) (AllAdjacentBelow ShareNone sorted (length sorted)) → MatchBool found (AreApart extents → ⊥) (AreApart extents)
told_of_extents extents sorted moved rise full true h = λ apart. h (pairs_moved ShareNone share_both extents sorted moved apart)
told_of_extents extents sorted moved rise full false h =
    pairs_moved ShareNone share_both sorted extents (IsPermutation-sym extents sorted moved) (sorted_apart sorted rise (All-permutation IsFull extents sorted moved full) h)

-- Of the rows beyond a place those behind the first are the rows beyond that one.
use Rattle.std.proofs.Common.{◌≡◌, List, [], ◌∷◌, Bool, true, false, cond, refl, sym, ap, ◌∙◌}
use Rattle.std.specs.List.{All, AllPairs, filter}
use Rattle.std.proofs.lemmas.List.Elements.{All-head, All-tail, All-same, All-filter}
use Rattle.pool_queries.proofs.Sorted.{AllPairs-head, AllPairs-tail}

-- a row stands before another: it isn't beyond that one, and what is beyond it is so from each place that it is beyond
pub record Precedes {C R : Type 0} (is_beyond : C → R → Bool) (place_of : R → C) (a b : R) : Type 0 where
  pub passed : is_beyond (place_of b) a ≡ false
  pub stays : (c : C) → is_beyond c a ≡ true → is_beyond (place_of a) b ≡ is_beyond c b

module _ {C R : Type 0} (is_beyond : C → R → Bool) (place_of : R → C) (itself : (a : R) → is_beyond (place_of a) a ≡ false) where
  same_beyond : (c : C) (a : R) (rows : List R) → is_beyond c a ≡ true → All (Precedes is_beyond place_of a) rows → filter (is_beyond (place_of a)) rows ≡ filter (is_beyond c) rows
  same_beyond c a [] h all = refl
  same_beyond c a (b ∷ rows) h all =
      let here = (All-head (Precedes is_beyond place_of a) b rows all).stays c h in
      let rest = same_beyond c a rows h (All-tail (Precedes is_beyond place_of a) b rows all) in
      λ i. cond (here i) (b ∷ rest i) (rest i)

  pub beyond_first : (c : C) (rows : List R) (row : R) (more : List R) → AllPairs (Precedes is_beyond place_of) rows → filter (is_beyond c) rows ≡ row ∷ more → filter (is_beyond (place_of row)) rows ≡ more
  beyond_first c [] row more order is = absurd (cc)
  beyond_first c (a ∷ rows) row more order is =
      by_test (is_beyond c a) refl is (AllPairs-head (Precedes is_beyond place_of) a rows order)
      (beyond_first c rows row more (AllPairs-tail (Precedes is_beyond place_of) a rows order))
    where
      skipped : is_beyond (place_of row) a ≡ false → filter (is_beyond (place_of row)) (a ∷ rows) ≡ filter (is_beyond (place_of row)) rows
      skipped e = ap (λ t. cond t (a ∷ filter (is_beyond (place_of row)) rows) (filter (is_beyond (place_of row)) rows)) e

      by_test : (t : Bool) → is_beyond c a ≡ t → cond t (a ∷ filter (is_beyond c) rows) (filter (is_beyond c) rows) ≡ row ∷ more → All (Precedes is_beyond place_of a) rows →
          (filter (is_beyond c) rows ≡ row ∷ more → filter (is_beyond (place_of row)) rows ≡ more) →
          filter (is_beyond (place_of row)) (a ∷ rows) ≡ more
      by_test true h e all rest =
          let head : a ≡ row = cc in
          let tail : filter (is_beyond c) rows ≡ more = cc in
          skipped (ap (λ (r : R). is_beyond (place_of r) a) (sym head) ∙ itself a)
          ∙ (ap (λ (r : R). filter (is_beyond (place_of r)) rows) (sym head) ∙ same_beyond c a rows h all ∙ tail)
      by_test false h e all rest =
          let first = All-head (Precedes is_beyond place_of a) row more (All-same (Precedes is_beyond place_of a) (row ∷ more) (filter (is_beyond c) rows) (sym e) (All-filter (is_beyond c) (Precedes is_beyond place_of a) rows all)) in
          skipped first.passed ∙ rest e

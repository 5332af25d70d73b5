-- What is found among the items that pass a test.
use Rattle.std.proofs.Common.{◌≡◌, List, [], ◌∷◌, Some, Bool, true, false, cond, refl, ap}
use Rattle.std.specs.Prelude.{◌&&◌}
use Rattle.std.specs.List.{filter, find}

pub find-filter : {X : Type 0} (among test : X → Bool) (xs : List X) → find test (filter among xs) ≡ find (λ x. among x && test x) xs
find-filter among test [] = refl
find-filter {X} among test (x ∷ xs) = by_test (among x) (find-filter among test xs)
  where
    by_test : (t : Bool) → find test (filter among xs) ≡ find (λ y. among y && test y) xs →
        find test (cond t (x ∷ filter among xs) (filter among xs)) ≡ cond (t && test x) (Some x) (find (λ y. among y && test y) xs)
    by_test true e = ap (cond (test x) (Some x)) e
    by_test false e = e

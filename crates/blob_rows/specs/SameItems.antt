-- Lists that differ in their order alone.
use Rattle.std.specs.Prelude.{◌≡◌, Bool, List}
use Rattle.std.specs.List.{count_by}

-- the same items, each as often: every test counts as many in both
abbrev pub SameItems : {X : Type 0} → List X → List X → Type 0
SameItems {X} xs ys = (test : X → Bool) → count_by test xs ≡ count_by test ys

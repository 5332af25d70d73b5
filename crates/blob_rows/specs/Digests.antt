-- Digests: that two are the same, and their order.
use Rattle.std.specs.Prelude.{ℕ, Bool, nat_eq, List}
use Rattle.std.specs.Ordering.{nat_cmp}
use Rattle.std.specs.Cmp.Lexicographic.{slice_cmp, pointwise}
use Rattle.std.specs.declared.cmp.Ordering.{Ordering}

abbrev pub same_digest : List ℕ → List ℕ → Bool
same_digest a b = pointwise nat_eq a b

-- digests by their bytes
abbrev pub digest_cmp : List ℕ → List ℕ → Ordering
digest_cmp a b = slice_cmp nat_cmp a b

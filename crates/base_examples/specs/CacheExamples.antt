-- A table of two caches.
use Rattle.std.specs.Prelude.{ℕ, List, [], ◌∷◌, codes}
use Rattle.named_caches.specs.Caches.{Caches}

-- 60 bytes that were used last, and 40 before
abbrev pub two_caches : List (List ℕ × ℕ)
two_caches = (codes "git", 60) ∷ (codes "go", 40) ∷ []

-- the table of both, with these limits
abbrev pub limited : ℕ → ℕ → Caches
limited most most_bytes = record { entries = two_caches; most = most; most_bytes = most_bytes }

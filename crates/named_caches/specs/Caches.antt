-- The caches that a bot keeps.
use Rattle.std.specs.Prelude.{ℕ, ◌+◌, ◌≤◌, List, [], ◌∷◌, length, String, string_bytes}
use Rattle.std.specs.declared.alloc.Global.{Global}

-- the names with their sizes, the last used first, and how many there may be and how large
pub record Caches : Type 0 where
  pub entries : List (List ℕ × ℕ)
  pub most : ℕ
  pub most_bytes : ℕ

-- the sum of the sizes
abbrev pub bytes_of : List (List ℕ × ℕ) → ℕ
bytes_of [] = 0
bytes_of (e ∷ es) = e.1 + bytes_of es

abbrev pub names_of : List (List ℕ × ℕ) → List (List ℕ)
names_of [] = []
names_of (e ∷ es) = e.0 ∷ names_of es

-- both limits hold
abbrev pub IsWithin : Caches → Type 0
IsWithin c = (length c.entries ≤ c.most) × (bytes_of c.entries ≤ c.most_bytes)

-- ---- how the table's map tells them

abbrev pub with_bytes : String Global × ℕ → List ℕ × ℕ
with_bytes e = (string_bytes e.0, e.1)

-- the entries with the names as their bytes
abbrev pub by_bytes : List (String Global × ℕ) → List (List ℕ × ℕ)
by_bytes [] = []
by_bytes (e ∷ es) = with_bytes e ∷ by_bytes es

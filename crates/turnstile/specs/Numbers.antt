-- The numbers of passes, and the entries that bear them.
use Rattle.std.specs.Prelude.{◌≡◌, ◌≢◌, ℕ, ◌+◌, ◌<◌, ◌==◌, nat_lt, nat_le, List, [], ◌∷◌, ◌++◌, length, if◌then◌else◌}
use Rattle.std.specs.List.{AllByRecursion}

-- how often k stands in the list
abbrev pub times : ℕ → List ℕ → ℕ
times k [] = 0
times k (x ∷ xs) = (if x == k then 1 else 0) + times k xs

-- 1 where k is below n
abbrev pub once_below : ℕ → ℕ → ℕ
once_below k n = if nat_lt k n then 1 else 0

-- the sum over a list
abbrev pub total : {W : Type 0} → (W → ℕ) → List W → ℕ
total f [] = 0
total f (v ∷ vs) = f v + total f vs

-- the longer of two lists
abbrev pub longer_of : {A : Type 0} → List A → List A → List A
longer_of a b = if nat_le (length a) (length b) then b else a

module _ {I : Type 0} where
  -- the entries that bear the number, in their order
  abbrev pub own : (I → ℕ) → ℕ → List I → List I
  own by k [] = []
  own by k (x ∷ xs) = if by x == k then x ∷ own by k xs else own by k xs

  -- the second log is the first, and then entries of other passes
  pub record Continues (by : I → ℕ) (number : ℕ) (old new : List I) : Type 0 where
    pub others : List I
    pub parts : new ≡ old ++ others
    pub by_others : AllByRecursion (λ e. by e ≢ number) others

  -- the second log is the first, and then entries of the listed passes alone
  pub record Adds (by : I → ℕ) (numbers : List ℕ) (old new : List I) : Type 0 where
    pub more : List I
    pub parts : new ≡ old ++ more
    pub by_listed : AllByRecursion (λ e. 0 < times (by e) numbers) more

-- Lists of which the items that pass a test stand first.
use Rattle.std.specs.Prelude.{◌≡◌, ℕ, ◌≤◌, Bool, true, false, List, [], ◌∷◌, length}
use Rattle.std.specs.List.Sorted.{IsPartitionedBy, IsPartitionPoint}

-- the items before the index pass the test, and those from it on do not
abbrev pub IsPartition : {T : Type 0} → (T → Bool) → List T → ℕ → Type 0
IsPartition p items index = IsPartitionPoint (λ y. p y ≡ true) (λ y. p y ≡ false) items index

-- where the items that pass the test stand first, the index of the first that does not, or the length, meets a condition
abbrev pub AtPartition : {T : Type 0} → (T → Bool) → List T → (ℕ → Type 0) → Type 0
AtPartition p items Q = IsPartitionedBy p items → (index : ℕ) × (index ≤ length items) × IsPartition p items index × Q index

-- whether there is a first item and it passes the test
abbrev pub first_passes : {T : Type 0} → (T → Bool) → List T → Bool
first_passes p [] = false
first_passes p (x ∷ xs) = p x

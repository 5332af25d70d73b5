-- Keys of which no two are equal, and extents of which no two share a unit.
use Rattle.std.specs.Prelude.{◌≡◌, ℕ, ◌≤◌, false, List, AllPairs}
use Rattle.std.specs.Borrow.{Bor}
use Rattle.std.specs.Ordering.{is_eq}
use Rattle.std.specs.declared.cmp.Ordering.{Ordering}
use Rattle.blob_rows.specs.declared.extent.Extent.{Extent}
use Rattle.blob_rows.specs.Places.{overlaps}

-- an order tells two keys apart
abbrev pub Differ : {K : Type 0} → (K → K → Ordering) → K → K → Type 0
Differ cmp a b = is_eq (cmp a b) ≡ false

-- no two of the keys are equal, in whatever order they stand
abbrev pub AreDistinct : {K : Type 0} → (K → K → Ordering) → List K → Type 0
AreDistinct cmp keys = AllPairs (Differ cmp) keys

-- a text or a digest behind a reference, a number with a text, and two texts, as they are compared
abbrev pub text_in : Bor (List ℕ) → List ℕ
text_in key = key.now

abbrev pub claim_in : ℕ × Bor (List ℕ) → ℕ × List ℕ
claim_in key = (key.0, key.1.now)

abbrev pub pair_in : Bor (List ℕ) × Bor (List ℕ) → List ℕ × List ℕ
pair_in key = (key.0.now, key.1.now)

-- two extents share no unit
abbrev pub ShareNone : Extent → Extent → Type 0
ShareNone a b = overlaps a.at a.units b ≡ false

-- an extent has a unit
abbrev pub IsFull : Extent → Type 0
IsFull extent = 1 ≤ extent.units

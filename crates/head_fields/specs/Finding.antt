-- What is found of a field.
use Rattle.std.specs.Prelude.{◌≡◌, ℕ, ◌≤◌, List, [], ◌∷◌, length}
use Rattle.httparse.specs.Spans.{span_bytes, IsWithin}
use Rattle.head_fields.specs.declared.found.Found.{Found}
use Rattle.head_fields.specs.declared.found.Found.TheVariants.{Absent, Once, Repeated}

-- a field was looked for among these values
abbrev pub IsFound : List ℕ → List (List ℕ) → Found → Type 0
IsFound text values Absent = values ≡ []
IsFound text values (Once s) = (values ≡ span_bytes text s ∷ []) × IsWithin (length text) s
IsFound text values Repeated = 2 ≤ length values

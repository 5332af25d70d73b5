-- How a body is kept, piece by piece.
use Rattle.std.specs.Prelude.{◌≡◌, ℕ, ◌≤◌, List, [], ◌++◌, length, Option, Some, None, IfSome, Result, Ok, Err}
use Rattle.std.specs.Io.KnownBytes.{IsAtEnd}
use Rattle.sw_base.specs.Faults.{CountsFault}
use Rattle.sw_base.specs.Link.{LinkState, Moves, SameOutput}
use Rattle.link_reader.specs.declared.body_end.BodyEnd.{BodyEnd}
use Rattle.link_reader.specs.declared.body_end.BodyEnd.TheVariants.{Whole, Dropped, Ended}

-- where there was memory for it, what is kept is these bytes
abbrev pub IsKept : Option (List ℕ) → List ℕ → Type 0
IsKept kept bytes = IfSome kept (λ b. b ≡ bytes)

-- what is kept is handed out
abbrev pub IsFinish : Option (List ℕ) → BodyEnd → Type 0
IsFinish kept (Whole v) = kept ≡ Some v.items
IsFinish kept Dropped = kept ≡ None
IsFinish kept Ended = ⊥

-- a read took at most this many bytes, none only at the end of the input; or it failed
abbrev pub IsPieceRead : {E : Type 0} → LinkState → List ℕ → ℕ → Result ℕ E → Type 0
IsPieceRead after taken most (Ok n) = (length taken ≡ n) × (n ≤ most) × (n ≡ 0 → IsAtEnd after.left)
IsPieceRead after taken most (Err e) = taken ≡ []

-- a piece of a body was taken, and is kept behind what was kept
pub record TakesPiece {E : Type 0} (before after : LinkState) (old new : Option (List ℕ)) (most : ℕ) (result : Result ℕ E) : Type 0 where
  pub taken : List ℕ
  pub moves : Moves before after taken []
  pub output : SameOutput before after
  pub faults : CountsFault result before.read_faults after.read_faults
  pub keeps : (bytes : List ℕ) → IsKept old bytes → IsKept new (bytes ++ taken)
  pub outcome : IsPieceRead after taken most result

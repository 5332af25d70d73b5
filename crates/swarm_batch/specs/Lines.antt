-- A text and its lines.
use Rattle.std.specs.Prelude.{◌≡◌, ◌==◌, ℕ, false, List, [], ◌∷◌, ◌++◌}
use Rattle.std.specs.List.{All, flat_map, list_any}
use Rattle.swarm_batch.specs.declared.lines.Cut.{Cut}

-- a line with its end, a line feed
abbrev pub ended : List ℕ → List ℕ
ended line = line ++ 10 ∷ []

-- no line has ended in it
abbrev pub IsOneLine : List ℕ → Type 0
IsOneLine line = list_any (λ b. b == 10) line ≡ false

-- the text is the lines, each with its end, and the rest
pub record IsCut (text : List ℕ) (cut : Cut) : Type 0 where
  pub whole : text ≡ flat_map ended cut.lines ++ cut.rest
  pub lines : All IsOneLine cut.lines
  pub rest : IsOneLine cut.rest

-- The head that a text is.
use Rattle.std.specs.Prelude.{ℕ, ◌≤◌, List, [], length}
use Rattle.httparse.specs.Grammar.{RequestHead, ReadsRequest}

-- the text is one whole head, with at most 64 fields
pub record IsHead (text : List ℕ) (h : RequestHead) : Type 0 where
  pub read : ReadsRequest text h []
  pub few : length h.fields ≤ 64

abbrev pub IsNoHead : List ℕ → Type 0
IsNoHead text = (h : RequestHead) → ¬ (IsHead text h)

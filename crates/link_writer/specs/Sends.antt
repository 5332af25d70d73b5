-- What is written of a text.
use Rattle.std.specs.Prelude.{◌≡◌, List, ℕ, [], ◌++◌, Result, OnOk}
use Rattle.sw_base.specs.Faults.{CountsFault}
use Rattle.sw_base.specs.Link.{LinkState, Moves, SameInput}

-- a front of the text was written, and `back` is left of it; what is read stays as it is
pub record Written (s t : LinkState) (text back : List ℕ) : Type 0 where
  pub sent : List ℕ
  pub moves : Moves s t [] sent
  pub input : SameInput s t
  pub whole : text ≡ sent ++ back

-- the text was written whole, and no call failed; or a call on the link failed and a front of it was written
pub record Sends {T E : Type 0} (s t : LinkState) (text : List ℕ) (result : Result T E) : Type 0 where
  pub back : List ℕ
  pub written : Written s t text back
  pub faults : CountsFault result s.write_faults t.write_faults
  pub outcome : OnOk result (back ≡ [])

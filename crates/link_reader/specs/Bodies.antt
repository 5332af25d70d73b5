-- How the input divides where a body is read.
use Rattle.std.specs.Prelude.{◌≡◌, ℕ, ◌<◌, List, [], ◌++◌, length, take, Result, Ok, Err}
use Rattle.std.specs.Io.KnownBytes.{IsAtEnd}
use Rattle.sw_base.specs.Faults.{CountsFault}
use Rattle.sw_base.specs.Link.{LinkState, Moves, SameOutput}
use Rattle.link_reader.specs.declared.body_end.BodyEnd.{BodyEnd}
use Rattle.link_reader.specs.declared.body_end.BodyEnd.TheVariants.{Whole, Dropped, Ended}

-- the input so far is the head, the body of n bytes, and the rest
pub record IsWhole (input head rest : List ℕ) (n : ℕ) (body : List ℕ) : Type 0 where
  pub input_is : input ≡ head ++ (body ++ rest)
  pub length_is : length body ≡ n

-- the input so far is the head and fewer than the n bytes of its body
pub record IsCut (input head : List ℕ) (n : ℕ) : Type 0 where
  pub front : List ℕ
  pub input_is : input ≡ head ++ front
  pub short : length front < n

-- what came of it, where `rest` is pending after it
abbrev pub IsBodyRead : {E : Type 0} → LinkState → List ℕ → List ℕ → List ℕ → ℕ → Result BodyEnd E → Type 0
IsBodyRead after input head rest n (Ok (Whole v)) = IsWhole input head rest n v.items
IsBodyRead after input head rest n (Ok Dropped) = (body : List ℕ) × IsWhole input head rest n body
IsBodyRead after input head rest n (Ok Ended) = IsAtEnd after.left × IsCut input head n × (rest ≡ [])
IsBodyRead after input head rest n (Err e) = IsCut input head n × (rest ≡ [])

-- a body of n bytes was read that stands behind a head of `head` bytes
pub record ReadsBody {E : Type 0} (before after : LinkState) (old new : List ℕ) (head n : ℕ) (result : Result BodyEnd E) : Type 0 where
  pub taken : List ℕ
  pub moves : Moves before after taken []
  pub output : SameOutput before after
  pub faults : CountsFault result before.read_faults after.read_faults
  pub outcome : IsBodyRead after (old ++ taken) (take head old) new n result

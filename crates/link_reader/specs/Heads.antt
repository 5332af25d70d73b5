-- Where a head ends in the bytes that are pending, and what reading on for it does.
use Rattle.std.specs.Prelude.{◌≡◌, ℕ, ◌+◌, ◌-◌, ◌<◌, ◌≤◌, List, [], ◌++◌, length, take, Result, MatchResult, codes}
use Rattle.std.specs.Io.KnownBytes.{IsAtEnd}
use Rattle.memchr.specs.Find.{OccursAt, Nowhere}
use Rattle.sw_base.specs.Faults.{CountsFault}
use Rattle.sw_base.specs.Link.{LinkState, Moves, SameOutput}
use Rattle.link_reader.specs.declared.head_end.HeadEnd.{HeadEnd}
use Rattle.link_reader.specs.declared.head_end.HeadEnd.TheVariants.{At, TooLong, Ended}

-- what ends a head
abbrev pub blank_line : List ℕ
blank_line = codes "\r\n\r\n"

-- what is pending has grown at its end by what was taken from the link, to which nothing was written
pub record Grows (before after : LinkState) (old new : List ℕ) : Type 0 where
  pub taken : List ℕ
  pub moves : Moves before after taken []
  pub output : SameOutput before after
  pub grown : new ≡ old ++ taken

-- it grew by the n bytes of one more read, none only at the end of the input; or the read failed and it is the same
pub record Fills {E : Type 0} (before after : LinkState) (old new : List ℕ) (result : Result ℕ E) : Type 0 where
  pub grows : Grows before after old new
  pub faults : CountsFault result before.read_faults after.read_faults
  pub outcome : MatchResult result (λ n. (length new ≡ length old + n) × (n ≡ 0 → IsAtEnd after.left)) (λ _. new ≡ old)

-- what ends a head begins nowhere before this place
abbrev pub HasNoEndBefore : List ℕ → ℕ → Type 0
HasNoEndBefore bytes n = Nowhere (OccursAt bytes blank_line) 0 n

-- no head ends in these bytes
abbrev pub HasNoEnd : List ℕ → Type 0
HasNoEnd bytes = HasNoEndBefore bytes (length bytes + 1)

-- the first n bytes are those through the first CR LF CR LF
pub record IsHeadEnd (bytes : List ℕ) (n : ℕ) : Type 0 where
  pub low : 4 ≤ n
  pub within : n ≤ length bytes
  pub occurs : OccursAt bytes blank_line (n - 4)
  pub first : Nowhere (OccursAt bytes blank_line) 0 (n - 4)

-- a head may still end behind these bytes
pub record IsOpen (bytes : List ℕ) : Type 0 where
  pub short : length bytes < 16384
  pub no_end : HasNoEnd bytes

-- a head that begins these bytes would be too long: none ends in the first 16384 of them
pub record IsTooLong (bytes : List ℕ) : Type 0 where
  pub long : 16384 ≤ length bytes
  pub no_end : HasNoEnd (take 16384 bytes)

-- what is pending where the end of a head was read for
abbrev pub IsHeadRead : LinkState → List ℕ → HeadEnd → Type 0
IsHeadRead after new (At n) = IsHeadEnd new n
IsHeadRead after new TooLong = IsTooLong new
IsHeadRead after new Ended = IsAtEnd after.left × IsOpen new

-- what is pending grew until a head ends in it, none can, the input ended, or a read failed
pub record ReadsHead {E : Type 0} (before after : LinkState) (old new : List ℕ) (result : Result HeadEnd E) : Type 0 where
  pub grows : Grows before after old new
  pub short : length new ≤ 16384
  pub faults : CountsFault result before.read_faults after.read_faults
  pub outcome : MatchResult result (λ end. IsHeadRead after new end) (λ _. IsOpen new)

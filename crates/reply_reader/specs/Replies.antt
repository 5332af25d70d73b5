-- The reply at the front of some bytes.
use Rattle.std.specs.Prelude.{◌≡◌, ℕ, ◌≤◌, nat_le, List, ◌++◌, length, map, codes, if◌then◌else◌, Option, Some, None}
use Rattle.httparse.specs.Grammar.{ResponseHead, print_response, ReadsResponse, status_code}
use Rattle.httparse.specs.Spans.{name_and_value}
use Rattle.head_fields.specs.Fields.{named}
use Rattle.head_fields.specs.Numbers.{only_number}
use Rattle.head_fields.specs.declared.number.Number.{Number}
use Rattle.head_fields.specs.declared.number.Number.TheVariants.{Absent, Told, Broken}

-- at most 16777216
abbrev pub size_within : Number → Option ℕ
size_within (Told n) = if nat_le n 16777216 then Some n else None
size_within Absent = None
size_within Broken = None

-- the size that exactly one Content-Length tells, in 1 to 10 digits
abbrev pub size_of_fields : List (List ℕ × List ℕ) → Option ℕ
size_of_fields fields = size_within (only_number 10 (named (codes "content-length") fields))

-- the size of the body that the head tells
unfoldable pub size_of : ResponseHead → Option ℕ
size_of h = size_of_fields (map name_and_value h.fields)

-- at the front of the bytes stands this head, of at most 16384 bytes and 64 fields, and then `rest`
pub record IsReplyHead (bytes : List ℕ) (h : ResponseHead) (rest : List ℕ) : Type 0 where
  pub reads : ReadsResponse bytes h rest
  pub short : length (print_response h) ≤ 16384
  pub few : length h.fields ≤ 64

-- at the front of the bytes stands a reply: a head with this code, and a body of the size that it tells
pub record IsReply (bytes : List ℕ) (code : ℕ) (body : List ℕ) : Type 0 where
  pub head : ResponseHead
  pub after : List ℕ
  pub is_head : IsReplyHead bytes head (body ++ after)
  pub size : size_of head ≡ Some (length body)
  pub code_is : code ≡ status_code head

-- no reply stands at the front of the bytes
abbrev pub HasNoReply : List ℕ → Type 0
HasNoReply bytes = (code : ℕ) (body : List ℕ) → ¬ (IsReply bytes code body)

-- at the front of any bytes stands one reply at most
abbrev pub ReplyIsUnique : Type 0
ReplyIsUnique = (bytes : List ℕ) (code other : ℕ) (body text : List ℕ) → IsReply bytes code body → IsReply bytes other text → (code ≡ other) × (body ≡ text)

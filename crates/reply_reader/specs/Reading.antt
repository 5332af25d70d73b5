-- What reading a reply does.
use Rattle.std.specs.Prelude.{◌≡◌, ℕ, ◌≤◌, List, [], ◌++◌, length, drop, Option, Some, None, IfSome, Result, Ok, Err, ⊤}
use Rattle.httparse.specs.Grammar.{ResponseHead, print_response, ReadsResponse, HasNoResponse, status_code}
use Rattle.httparse.specs.Spans.{ResponseOverflows}
use Rattle.sw_base.specs.Faults.{CountsFault}
use Rattle.sw_base.specs.Link.{LinkState, Moves, SameOutput}
use Rattle.reply_reader.specs.declared.head.HeadCheck.{HeadCheck}
use Rattle.reply_reader.specs.declared.head.HeadCheck.TheVariants.{Complete, Partial, NoHead}
use Rattle.reply_reader.specs.declared.head.ReplyHead.{ReplyHead}
use Rattle.reply_reader.specs.declared.received.Received.{Received}
use Rattle.reply_reader.specs.declared.received.Received.TheVariants.{Reply, NoReply, Memory}
use Rattle.reply_reader.specs.Replies.{size_of, IsReply, HasNoReply}

-- the first n bytes are a head with this code and size
pub record IsHeadAt (text : List ℕ) (code n : ℕ) (size : Option ℕ) : Type 0 where
  pub head : ResponseHead
  pub reads : ReadsResponse text head (drop n text)
  pub len : n ≡ length (print_response head)
  pub within : n ≤ length text
  pub few : length head.fields ≤ 64
  pub size_is : size ≡ size_of head
  pub code_is : code ≡ status_code head

-- each answer where it is due
abbrev pub IsHeadCheck : List ℕ → HeadCheck → Type 0
IsHeadCheck text (Complete code n size) = IsHeadAt text code n size
IsHeadCheck text Partial = HasNoResponse text
IsHeadCheck text NoHead = ResponseOverflows 64 text

-- what was taken holds no reply, nor does it with what the link has left, where it tells it
abbrev pub EndsWithoutReply : List ℕ → LinkState → Type 0
EndsWithoutReply taken after = HasNoReply taken × IfSome after.left (λ left. HasNoReply (taken ++ left))

-- what is pending where a head was read for
abbrev pub IsHeadEnd : {E : Type 0} → LinkState → List ℕ → Result (Option ReplyHead) E → Type 0
IsHeadEnd after pending (Ok (Some h)) = IsHeadAt pending h.code h.len (Some h.size)
IsHeadEnd after pending (Ok None) = EndsWithoutReply pending after
IsHeadEnd after pending (Err e) = ⊤

-- these bytes were taken, nothing was written, and a failure is told exactly where the count of failed reads rose
pub record Takes {T E : Type 0} (before after : LinkState) (taken : List ℕ) (result : Result T E) : Type 0 where
  pub moves : Moves before after taken []
  pub output : SameOutput before after
  pub faults : CountsFault result before.read_faults after.read_faults

-- a head was read for, and what was taken is pending
pub record IsHeadRead {E : Type 0} (before after : LinkState) (pending : List ℕ) (result : Result (Option ReplyHead) E) : Type 0 where
  pub takes : Takes before after pending result
  pub short : length pending ≤ 16384
  pub outcome : IsHeadEnd after pending result

-- the bytes taken begin with this reply, whatever follows; or hold none, whatever is left; or there was no memory; or a read failed
abbrev pub IsReceived : {E : Type 0} → LinkState → List ℕ → Result Received E → Type 0
IsReceived after taken (Ok (Reply code body)) = (more : List ℕ) → IsReply (taken ++ more) code body.items
IsReceived after taken (Ok NoReply) = EndsWithoutReply taken after
IsReceived after taken (Ok Memory) = ⊤
IsReceived after taken (Err e) = ⊤

-- the body of a reply was read whose head is pending
pub record TakesBody {E : Type 0} (before after : LinkState) (pending : List ℕ) (h : ReplyHead) (result : Result Received E) : Type 0 where
  pub taken : List ℕ
  pub takes : Takes before after taken result
  pub outcome : length pending ≤ 16384 → IsHeadAt pending h.code h.len (Some h.size) → IsReceived after (pending ++ taken) result

-- one reply was read
pub record Receives {E : Type 0} (before after : LinkState) (result : Result Received E) : Type 0 where
  pub taken : List ℕ
  pub takes : Takes before after taken result
  pub outcome : IsReceived after taken result

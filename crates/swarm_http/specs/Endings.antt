-- How a connection ends, whatever answers its requests.
use Rattle.std.specs.Prelude.{◌≡◌, ◌≢◌, ℕ, ◌<◌, ◌⊎◌, List, [], ◌∷◌, ◌++◌, length, take, true, false, Option, Some, None}
use Rattle.std.specs.List.{flat_map, AllByRecursion}
use Rattle.std.specs.Io.KnownBytes.{IsAtEnd}
use Rattle.httparse.specs.Grammar.{RequestHead}
use Rattle.sw_base.specs.Faults.{Rose}
use Rattle.sw_base.specs.Link.{LinkState, IsClean, Moves}
use Rattle.link_reader.specs.Heads.{IsHeadEnd, IsOpen, IsTooLong}
use Rattle.request_head.specs.Heads.{IsHead, IsNoHead}
use Rattle.swarm_http.specs.Types.{Method, HeadRefusal, Bad, LengthRequired, TooLarge, Rule}
use Rattle.request_head.specs.HeadFields.{head_refusal, method_of, size_of}
use Rattle.swarm_model.specs.declared.rule.Rule.TheVariants as rule
use Rattle.swarm_http.specs.declared.ended.Ended.{Ended}
use Rattle.swarm_http.specs.declared.ended.Ended.TheVariants.{Closed, LastAsked, CutShort, BadHead, Retired, ReadFault, WriteFault}
use Rattle.swarm_http.specs.Replies.{refusal, sent_to}
use Rattle.swarm_http.specs.Served.{Served, request_bytes, reply_bytes, replies, closes, HeadSays}

-- from the bytes that were pending on, these requests were read, this rest is pending, and these bytes were written
pub record Transfers (xs : List Served) (pending rest sent : List ℕ) (old new : LinkState) : Type 0 where
  pub taken : List ℕ
  pub moves : Moves old new taken sent
  pub input_is : pending ++ taken ≡ flat_map request_bytes xs ++ rest

-- an input that ends here is cut short: it ends inside a head, or inside the body of a head that isn't refused
pub data IsPart (rest : List ℕ) : Type 0 where
  in_head : 0 < length rest → IsOpen rest → IsPart rest
  in_body : (text front : List ℕ) (head : RequestHead) → HeadSays text head → rest ≡ text ++ front → length front < size_of head → IsPart rest

-- the rule of a head's refusal
abbrev pub head_rule : HeadRefusal → Rule
head_rule Bad = rule.BadHead
head_rule LengthRequired = rule.LengthRequired
head_rule (TooLarge limit) = rule.TooLarge limit

-- the method of the head at the front, and the rule for which it is refused: it is too long or no head, and then has no method, or what it says is refused
pub data IsRefused (rest : List ℕ) (method : Option Method) (why : Rule) : Type 0 where
  too_long : method ≡ None → why ≡ rule.BadHead → IsTooLong rest → IsRefused rest method why
  no_head : (n : ℕ) → method ≡ None → why ≡ rule.BadHead → IsHeadEnd rest n → IsNoHead (take n rest) → IsRefused rest method why
  by_head : (n : ℕ) (head : RequestHead) (cause : HeadRefusal) → method ≡ Some (method_of head) → why ≡ head_rule cause → IsHeadEnd rest n → IsHead (take n rest) head
      → head_refusal head ≡ Some cause → IsRefused rest method why

-- no request asks to close the connection
abbrev pub NoneCloses : List Served → Type 0
NoneCloses xs = AllByRecursion (λ x. closes x ≡ false) xs

-- the last request asks to close the connection, and none before it
pub record LastCloses (xs : List Served) : Type 0 where
  pub earlier : List Served
  pub last : Served
  pub are : xs ≡ earlier ++ last ∷ []
  pub open_before : NoneCloses earlier
  pub closing : closes last ≡ true

-- fewer than so many requests were answered, and none of them asks to close the connection
pub record IsOpenStill (most : ℕ) (xs : List Served) : Type 0 where
  pub few : length xs < most
  pub open_still : NoneCloses xs

-- the last reply, or the refusal of the head, was not written and flushed whole
pub data IsCutReply (most : ℕ) (xs : List Served) (rest sent : List ℕ) : Type 0 where
  last_reply : (ys : List Served) (x : Served) (front back : List ℕ) → xs ≡ ys ++ x ∷ [] → NoneCloses ys → sent ≡ replies ys ++ front → reply_bytes x ≡ front ++ back
      → IsCutReply most xs rest sent
  refused_head : (method : Option Method) (why : Rule) (front back : List ℕ) → IsOpenStill most xs → IsRefused rest method why → sent ≡ replies xs ++ front
      → sent_to method (refusal None why) ≡ front ++ back
      → IsCutReply most xs rest sent

-- what each ending says of the requests answered, at most so many, of the rest, and of the bytes written
abbrev pub EndsAs : ℕ → Ended → List Served → List ℕ → List ℕ → LinkState → LinkState → Type 0
EndsAs most Closed xs rest sent s t = (rest ≡ []) × IsAtEnd t.left × (sent ≡ replies xs) × IsOpenStill most xs
EndsAs most LastAsked xs rest sent s t = LastCloses xs × (sent ≡ replies xs)
EndsAs most CutShort xs rest sent s t = IsPart rest × IsAtEnd t.left × (sent ≡ replies xs) × IsOpenStill most xs
EndsAs most BadHead xs rest sent s t =
    (method : Option Method) × (why : Rule) × IsRefused rest method why × (sent ≡ replies xs ++ sent_to method (refusal None why)) × IsOpenStill most xs
EndsAs most Retired xs rest sent s t = (length xs ≡ most) × (sent ≡ replies xs) × NoneCloses xs
EndsAs most ReadFault xs rest sent s t = Rose s.read_faults t.read_faults × ((rest ≡ []) ⊎ IsPart rest) × (sent ≡ replies xs) × IsOpenStill most xs
EndsAs most WriteFault xs rest sent s t = Rose s.write_faults t.write_faults × IsCutReply most xs rest sent

-- no call on the link failed but the one that ended the connection, and all that was written is flushed unless that was a write or a flush
pub record EndsAtFault (ended : Ended) (s t : LinkState) : Type 0 where
  pub reads : ended ≢ ReadFault → t.read_faults ≡ s.read_faults
  pub writes : ended ≢ WriteFault → t.write_faults ≡ s.write_faults
  pub clean : ended ≢ WriteFault → IsClean t

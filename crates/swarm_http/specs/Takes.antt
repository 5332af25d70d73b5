-- What is read for the next request.
use Rattle.std.specs.Prelude.{◌≡◌, ◌⊎◌, ℕ, List, [], ◌++◌, Option, Some, None, IfSome, ⊤}
use Rattle.std.specs.Io.KnownBytes.{IsAtEnd}
use Rattle.sw_base.specs.Faults.{Rose}
use Rattle.sw_base.specs.Link.{LinkState, Moves, SameOutput}
use Rattle.swarm_http.specs.declared.ended.Ended.{Ended}
use Rattle.swarm_http.specs.declared.ended.Ended.TheVariants.{Closed, LastAsked, CutShort, BadHead, Retired, ReadFault, WriteFault}
use Rattle.httparse.specs.Grammar.{RequestHead}
use Rattle.request_head.specs.HeadFields.{method_of, closes_of, caller_of, after_of}
use Rattle.routes.specs.Routes.{resource_of}
use Rattle.swarm_http.specs.declared.request.Caller.{Caller}
use Rattle.swarm_http.specs.declared.request.Caller.TheVariants.{Unnamed, Named, NoMemory}
use Rattle.swarm_http.specs.declared.request.RequestLine.{RequestLine}
use Rattle.swarm_http.specs.declared.request.Received.{Received}
use Rattle.swarm_http.specs.declared.request.Incoming.{Incoming}
use Rattle.swarm_http.specs.declared.request.Incoming.TheVariants as taken
use Rattle.swarm_http.specs.Requests.{parts_of}
use Rattle.swarm_http.specs.Served.{IsRequest}
use Rattle.swarm_http.specs.Endings.{IsPart, IsRefused}
use Rattle.swarm_http.specs.Sends.{rule_of}

-- no read failed
abbrev pub ReadsWell : LinkState → LinkState → Type 0
ReadsWell s t = t.read_faults ≡ s.read_faults

-- the input ended, or a read failed
abbrev pub StopsAs : Ended → List ℕ → LinkState → LinkState → Type 0
StopsAs Closed rest s t = (rest ≡ []) × IsAtEnd t.left × ReadsWell s t
StopsAs CutShort rest s t = IsPart rest × IsAtEnd t.left × ReadsWell s t
StopsAs ReadFault rest s t = Rose s.read_faults t.read_faults × ((rest ≡ []) ⊎ IsPart rest)
StopsAs LastAsked rest s t = ⊥
StopsAs BadHead rest s t = ⊥
StopsAs Retired rest s t = ⊥
StopsAs WriteFault rest s t = ⊥

-- the caller's name that is held, where there was memory for it
abbrev pub IsCaller : Caller → Option (List ℕ) → Type 0
IsCaller Unnamed who = who ≡ None
IsCaller (Named text) who = who ≡ Some text
IsCaller NoMemory who = ⊤

-- what is held of a head is what it says, the parts of its target where there was memory for them
pub record IsRequestLine (line : RequestLine) (head : RequestHead) : Type 0 where
  pub resource : line.resource ≡ resource_of head.target
  pub parts : IfSome line.parts (λ parts. parts ≡ parts_of head.target)
  pub method : line.method ≡ method_of head
  pub who : IsCaller line.who (caller_of head)
  pub after : line.after ≡ after_of head
  pub closes : line.closes ≡ closes_of head

-- a limit on the size of a body
abbrev pub IsLimit : ℕ → Type 0
IsLimit limit = (limit ≡ 65536) ⊎ (limit ≡ 16777216)

-- what is held of a request is what its head says, and its body where there was memory for it
pub record IsHeld (received : Received) (body : List ℕ) (head : RequestHead) : Type 0 where
  pub line : IsRequestLine received.line head
  pub body_is : IfSome received.body (λ v. v.items ≡ body)

-- the input is one request, and what follows it
pub record IsReceived (received : Received) (input rest : List ℕ) : Type 0 where
  pub text : List ℕ
  pub body : List ℕ
  pub head : RequestHead
  pub request : IsRequest text body head
  pub input_is : input ≡ (text ++ body) ++ rest
  pub held : IsHeld received body head

-- a request, a refused head, or an end, with `new` pending after it
abbrev pub IsIncoming : LinkState → LinkState → List ℕ → List ℕ → Incoming → Type 0
IsIncoming s t input new (taken.Asks received) = IsReceived received input new × ReadsWell s t
IsIncoming s t input new (taken.Refuses method why) = IsRefused new method (rule_of why) × (input ≡ new) × ReadsWell s t
IsIncoming s t input new (taken.Ends ended) = StopsAs ended input s t

-- the input is what was pending, and then what was taken from the link; nothing was written
pub record Takes (s t : LinkState) (old new : List ℕ) (result : Incoming) : Type 0 where
  pub taken : List ℕ
  pub moves : Moves s t taken []
  pub output : SameOutput s t
  pub outcome : IsIncoming s t (old ++ taken) new result

-- The status in the bytes of a reply.
use Rattle.std.specs.Prelude.{◌≡◌, ℕ, List, ◌++◌, codes, decimal}
use Rattle.reply_bodies.specs.Bodies.{status_of}
use Rattle.swarm_http.specs.Outcomes.{answer_of}
use Rattle.swarm_http.specs.Exchange.{Exchange, reply_of}

-- the first bytes of a reply with this status: the version, the status and the space behind it (RFC 9112, section 4)
abbrev pub start_of : ℕ → List ℕ
start_of status = codes "HTTP/1.1 " ++ (decimal status ++ codes " ")

abbrev pub Begins : List ℕ → List ℕ → Type 0
Begins start text = (rest : List ℕ) × (text ≡ start ++ rest)

-- the bytes of the reply begin with the status of the reply that the outcome carries
abbrev pub ShowsStatus : Exchange → Type 0
ShowsStatus x = Begins (start_of (status_of (answer_of x.outcome))) (reply_of x)

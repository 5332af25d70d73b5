-- A reply, and its bytes.
use Rattle.std.specs.Prelude.{ℕ, Bool, true, false, if◌then◌else◌, List, [], ◌++◌, length, codes, decimal, Option, Some, None, unwrap_or}
use Rattle.http.specs.StatusCode.{reason_phrase}
use Rattle.swarm_http.specs.Types.{Method, Head, Reply, Rule}
use Rattle.swarm_model.specs.declared.reply.Reply.TheVariants as reply
use Rattle.reply_bodies.specs.Bodies.{body_of, content_type_of, status_of}

-- the phrase that stands beside a status
abbrev pub phrase_of : ℕ → List ℕ
phrase_of status = unwrap_or (reason_phrase status) []

-- X-Swarming-Front, where the length of the log is shown, and what follows
abbrev pub front_line : Option ℕ → List ℕ → List ℕ
front_line None rest = rest
front_line (Some front) rest = codes "X-Swarming-Front: " ++ (decimal front ++ (codes "\r\n" ++ rest))

-- the head of a reply: its status and phrase, the size and the media type of its body, and its front
unfoldable pub head_with : ℕ → List ℕ → ℕ → List ℕ → Option ℕ → List ℕ
head_with status phrase size media_type front =
    codes "HTTP/1.1 " ++ (decimal status ++ (codes " " ++ (phrase ++ (codes "\r\nContent-Length: " ++ (decimal size
    ++ (codes "\r\nContent-Type: " ++ (media_type ++ (codes "\r\n" ++ front_line front (codes "\r\n")))))))))

-- the bytes of a reply: its head, and its body
pub record Shown : Type 0 where
  pub head : List ℕ
  pub body : List ℕ

-- a reply with this status, this front, and this body of a media type
unfoldable pub reply_with : ℕ → List ℕ → Option ℕ → List ℕ → Shown
reply_with status media_type front body = record { head = head_with status (phrase_of status) (length body) media_type front; body = body }

-- a reply of the pool at a place, with the bytes of the blobs that it names
unfoldable pub shown : ℕ → Option ℕ → Reply → List (List ℕ) → Shown
shown place front reply pieces = reply_with (status_of reply) (content_type_of reply) front (body_of place reply pieces)

-- the reply of a refusal that names no task and no bot
unfoldable pub refusal : Option ℕ → Rule → Shown
refusal front why = shown 0 front (reply.No why) []

-- the reply to a request of this method has its body: not to HEAD (RFC 9110, section 9.3.2); bytes that are no head have no method
abbrev pub takes_body : Option Method → Bool
takes_body (Some Head) = false
takes_body method = true

-- what is sent of a reply to a request of this method
abbrev pub sent_to : Option Method → Shown → List ℕ
sent_to method it = it.head ++ (if takes_body method then it.body else [])

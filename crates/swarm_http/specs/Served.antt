-- Requests as they stood on a link, and their replies.
use Rattle.std.specs.Prelude.{◌≡◌, ◌==◌, ℕ, Bool, ◌≤◌, List, ◌++◌, length, None, Some}
use Rattle.std.specs.List.{flat_map}
use Rattle.httparse.specs.Grammar.{RequestHead}
use Rattle.link_reader.specs.Heads.{IsHeadEnd}
use Rattle.request_head.specs.Heads.{IsHead}
use Rattle.request_head.specs.HeadFields.{head_refusal, method_of, size_of, closes_of}
use Rattle.swarm_http.specs.Replies.{Shown, sent_to}

-- a request as it stood on the link, what its head is, and the status and the bytes of its reply
pub record Served : Type 0 where
  pub text : List ℕ
  pub body : List ℕ
  pub head : RequestHead
  pub status : ℕ
  pub shown : Shown

-- the bytes of the request
abbrev pub request_bytes : Served → List ℕ
request_bytes x = x.text ++ x.body

-- the bytes of its reply, which has no body where the method is HEAD
abbrev pub reply_bytes : Served → List ℕ
reply_bytes x = sent_to (Some (method_of x.head)) x.shown

-- the replies, one after another
abbrev pub replies : List Served → List ℕ
replies xs = flat_map reply_bytes xs

-- its reply has status 200
abbrev pub is_accepted : Served → Bool
is_accepted x = x.status == 200

-- it asks to close the connection
abbrev pub closes : Served → Bool
closes x = closes_of x.head

-- the text is this head, up to the first blank line, and the head isn't refused
pub record HeadSays (text : List ℕ) (head : RequestHead) : Type 0 where
  pub short : length text ≤ 16384
  pub ends : IsHeadEnd text (length text)
  pub is_head : IsHead text head
  pub accepted : head_refusal head ≡ None

-- the text is its head, and the body has the size that the head tells
pub record IsRequest (text body : List ℕ) (head : RequestHead) : Type 0 where
  pub says : HeadSays text head
  pub size : size_of head ≡ length body

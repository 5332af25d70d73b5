-- The replies of refusals.
use Rattle.std.proofs.Common.{Bool, false, ◌≡◌, ℕ, List, [], ◌++◌, refl, Option, None, Some, append_assoc}
use Rattle.std.specs.Prelude.{◌==◌, if◌then◌else◌, codes, decimal}
use Rattle.swarm_http.specs.Types.{Method, Rule}
use Rattle.std.specs.Fmt.{digits}
use Rattle.json.specs.Print.{escape_byte}
use Rattle.swarm_model.specs.declared.rule.Rule.TheVariants as rule
use Rattle.reply_bodies.specs.Bodies.{body_of, status_of}
use Rattle.swarm_model.specs.declared.reply.Reply.TheVariants as reply
use Rattle.swarm_http.specs.declared.reply.Refusal.{Refusal}
use Rattle.swarm_http.specs.declared.reply.Refusal.TheVariants.{BadHead}
use Rattle.swarm_http.specs.declared.reply.ReplyBytes.{ReplyBytes}
use Rattle.swarm_http.specs.declared.reply.ReplyBytes.TheVariants.{WantOfMemoryAt}
use Rattle.swarm_http.specs.Replies.{head_with, reply_with, shown, refusal, takes_body, sent_to}
use Rattle.swarm_http.specs.Sends.{rule_of, shown_in}

pub no_refusal_is_accepted : (why : Refusal) → false ≡ (status_of (reply.No (rule_of why)) == 200)
no_refusal_is_accepted BadHead = refl
no_refusal_is_accepted why = refl

pub refusal_shown : (why : Rule) {pieces : List (List ℕ)} → pieces ≡ [] → shown 0 None (reply.No why) pieces ≡ refusal None why
unfolding refusal
refusal_shown why e = rw e refl

status_503 : decimal 503 ≡ codes "503"
unfolding digits
status_503 = refl

want_body : body_of 0 (reply.No rule.WantOfMemory) [] ≡ codes "{\"code\":\"want_of_memory\"}"
unfolding body_of escape_byte
want_body = refl

size_25 : decimal 25 ≡ codes "25"
unfolding digits
size_25 = refl

want_of_memory_at : (n : ℕ) → refusal (Some n) rule.WantOfMemory
    ≡ record {
      head = codes "HTTP/1.1 503 Service Unavailable\r\nContent-Length: 25\r\nContent-Type: application/json\r\nX-Swarming-Front: " ++ (decimal n ++ codes "\r\n\r\n");
      body = codes "{\"code\":\"want_of_memory\"}";
    }
unfolding refusal shown reply_with head_with
want_of_memory_at n = rw (status_503, want_body, size_25) refl

-- its head, put together piece by piece
pub want_of_memory_head_is : (n : ℕ) {none first second third digits : List ℕ} → none ≡ [] → first ≡ none ++ codes "HTTP/1.1 503 Service Unavailable\r\nContent-Length: 25\r\nContent-Type: application/json\r\nX-Swarming-Front: "
    → digits ≡ decimal n → second ≡ first ++ digits → third ≡ second ++ codes "\r\n\r\n" → third ≡ (refusal (Some n) rule.WantOfMemory).head
want_of_memory_head_is n a b c d e = rw (e, d, c, b, a, want_of_memory_at n)
    (append_assoc (codes "HTTP/1.1 503 Service Unavailable\r\nContent-Length: 25\r\nContent-Type: application/json\r\nX-Swarming-Front: ") (decimal n) (codes "\r\n\r\n"))

-- what is sent of it: its head, and its body where the method takes one
pub want_of_memory_sent : (method : Option Method) {n : ℕ} {shown : ReplyBytes} {head : List ℕ} {whole : Bool} → shown ≡ WantOfMemoryAt n
    → head ≡ (refusal (Some n) rule.WantOfMemory).head → whole ≡ takes_body method
    → head ++ (if whole then codes "{\"code\":\"want_of_memory\"}" else []) ≡ sent_to method (shown_in shown)
want_of_memory_sent method {n = n} is head whole = rw (is, head, whole, want_of_memory_at n) refl

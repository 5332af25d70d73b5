-- The bytes of a reply begin with its status.
use Rattle.std.proofs.Common.{◌≡◌, ℕ, List, [], ◌++◌, length, Bool, true, false, Option, Some, None, get_or, refl, sym, ap, ◌∙◌, append_assoc}
use Rattle.std.specs.Prelude.{◌==◌, ◌↔◌, if◌then◌else◌, IsTrue, codes, decimal}
use Rattle.std.specs.Fmt.{digits}
use Rattle.swarm_http.specs.Types.{Reply, Rule, Method}
use Rattle.swarm_model.specs.declared.reply.Reply.TheVariants as reply
use Rattle.swarm_model.specs.declared.rule.Rule.TheVariants as rule
use Rattle.reply_bodies.specs.Bodies.{body_of, content_type_of, status_of}
use Rattle.request_head.specs.HeadFields.{method_of}
use Rattle.swarm_http.specs.Replies.{phrase_of, front_line, head_with, Shown, reply_with, shown, refusal, takes_body, sent_to}
use Rattle.swarm_http.specs.Outcomes.{Outcome, rejected, answered, aborted, no_body_memory, no_reply_memory, stop_rule, answer_of, shown_of, called_place}
use Rattle.swarm_http.specs.Exchange.{Exchange, reply_of, is_accepted}
use Rattle.swarm_http.specs.Statuses.{start_of, Begins, ShowsStatus}

-- what is sent of a reply begins as its head does
sent_begins : (start : List ℕ) (method : Option Method) (it : Shown) → Begins start it.head → Begins start (sent_to method it)
sent_begins start method it begins =
    let body = if takes_body method then it.body else [] in (begins.0 ++ body, ap (λ l. l ++ body) begins.1 ∙ append_assoc start begins.0 body)

head_begins : (status : ℕ) (media_type : List ℕ) (front : Option ℕ) (body : List ℕ) → Begins (start_of status) (reply_with status media_type front body).head
unfolding reply_with head_with
head_begins status media_type front body = (
  phrase_of status ++ (codes "\r\nContent-Length: " ++ (decimal (length body) ++ (codes "\r\nContent-Type: " ++ (media_type ++ (codes "\r\n" ++ front_line front (codes "\r\n")))))),
  simp append_assoc,
)

shown_begins : (place : ℕ) (front : Option ℕ) (r : Reply) (pieces : List (List ℕ)) → Begins (start_of (status_of r)) (shown place front r pieces).head
unfolding shown
shown_begins place front r pieces = head_begins (status_of r) (content_type_of r) front (body_of place r pieces)

refusal_begins : (front : Option ℕ) (why : Rule) → Begins (start_of (status_of (reply.No why))) (refusal front why).head
unfolding refusal
refusal_begins front why = shown_begins 0 front (reply.No why) []

outcome_begins : (outcome : Outcome) → Begins (start_of (status_of (answer_of outcome))) (shown_of outcome).head
outcome_begins (rejected why) = refusal_begins None why
outcome_begins (answered call result) = shown_begins (called_place call) (Some result.front) result.reply result.pieces
outcome_begins (aborted call why) = refusal_begins None (stop_rule why)
outcome_begins no_body_memory = refusal_begins None rule.WantOfMemory
outcome_begins (no_reply_memory call result) = refusal_begins (Some result.front) rule.WantOfMemory

pub shows_status : (x : Exchange) → ShowsStatus x
shows_status x = sent_begins (start_of (status_of (answer_of x.outcome))) (Some (method_of x.head)) (shown_of x.outcome) (outcome_begins x.outcome)

-- ---- a refusal has another status than 200

refused : (why : Rule) → (status_of (reply.No why) == 200) ≡ false
refused rule.BadHead = refl
refused why = refl

-- the first digit of the status is a 2
abbrev has_two : List ℕ → Bool
has_two text = get_or text 9 0 == 50

refused_two : (why : Rule) (rest : List ℕ) → has_two (start_of (status_of (reply.No why)) ++ rest) ≡ false
unfolding digits
refused_two rule.BadHead rest = refl
refused_two why rest = refl

accepted_two : (rest : List ℕ) → has_two (start_of 200 ++ rest) ≡ true
unfolding digits
accepted_two rest = refl

begins_otherwise : (why : Rule) (rest more : List ℕ) → start_of (status_of (reply.No why)) ++ rest ≡ start_of 200 ++ more → ⊥
begins_otherwise why rest more e = let same : false ≡ true = sym (refused_two why rest) ∙ ap has_two e ∙ accepted_two more in cc (same)

accepted_reply : (r : Reply) (text : List ℕ) → Begins (start_of (status_of r)) text → IsTrue (status_of r == 200) ↔ Begins (start_of 200) text
accepted_reply (reply.No why) text begins =
    (λ is. absurd (cc (is, refused why)), λ other. absurd (begins_otherwise why begins.0 other.0 (sym begins.1 ∙ other.1)))
accepted_reply r text begins = (λ is. begins, λ other. refl)

pub accepted_is : (x : Exchange) → IsTrue (is_accepted x) ↔ Begins (start_of 200) (reply_of x)
accepted_is x = accepted_reply (answer_of x.outcome) (reply_of x) (shows_status x)

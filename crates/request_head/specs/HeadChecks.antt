-- What is judged of a text.
use Rattle.std.specs.Prelude.{◌≡◌, ℕ, List, map, Some, None, option_map}
use Rattle.httparse.specs.Grammar.{RequestHead}
use Rattle.httparse.specs.Spans.{span_bytes, IsRequestAt, IsRequestWithin, header_bytes}
use Rattle.httparse.specs.declared.spans.HeaderSpan.{HeaderSpan}
use Rattle.httparse.specs.declared.spans.RequestSpans.{RequestSpans}
use Rattle.request_head.specs.declared.head.Head.{Head}
use Rattle.request_head.specs.declared.head_check.HeadCheck.{HeadCheck}
use Rattle.request_head.specs.declared.head_check.HeadCheck.TheVariants.{NoHead, Refused, Good}
use Rattle.request_head.specs.Heads.{IsHead, IsNoHead}
use Rattle.request_head.specs.HeadFields.{head_refusal, fields_of, method_of, size_of, closes_of, caller_of, after_of}

-- the head says this
pub record IsHeadOf (h : RequestHead) (head : Head) : Type 0 where
  pub method : head.method ≡ method_of h
  pub target : head.target.now ≡ h.target
  pub size : head.size ≡ size_of h
  pub closes : head.closes ≡ closes_of h
  pub caller : option_map (λ c. c.now) head.caller ≡ caller_of h
  pub after : head.after ≡ after_of h

-- the answer that is due to a head
abbrev pub IsDue : RequestHead → HeadCheck → Type 0
IsDue h NoHead = ⊥
IsDue h (Refused method why) = (head_refusal h ≡ Some why) × (method ≡ method_of h)
IsDue h (Good head) = (head_refusal h ≡ None) × IsHeadOf h head

-- the text is a head, and the answer is due to it; the head is one alone, by the grammar's law `request_unique`
pub record IsCheckedHead (text : List ℕ) (answer : HeadCheck) : Type 0 where
  pub head : RequestHead
  pub is_head : IsHead text head
  pub due : IsDue head answer

-- each answer where it is due
abbrev pub IsChecked : List ℕ → HeadCheck → Type 0
IsChecked text NoHead = IsNoHead text
IsChecked text (Refused method why) = IsCheckedHead text (Refused method why)
IsChecked text (Good head) = IsCheckedHead text (Good head)

-- the spans of the text cover the parts of the head
pub record Covers (text : List ℕ) (r : RequestSpans) (headers : List HeaderSpan) (h : RequestHead) : Type 0 where
  pub method : span_bytes text r.method ≡ h.method
  pub target : span_bytes text r.path ≡ h.target
  pub minor : r.version ≡ h.minor
  pub fields : map (header_bytes text) headers ≡ fields_of h

-- the spans of the one head that the text is
pub record IsWholeHead (text : List ℕ) (headers : List HeaderSpan) (r : RequestSpans) : Type 0 where
  pub head : RequestHead
  pub is_head : IsHead text head
  pub at : IsRequestAt text headers r head
  pub within : IsRequestWithin text headers r

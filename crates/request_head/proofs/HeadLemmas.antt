-- What the code's loops and spans say of a head.
use Rattle.std.proofs.Common.{◌≡◌, ℕ, ◌+◌, ◌<◌, true, false, Bool, ◌&&◌, ◌||◌, not, codes, option_map, refl, sym, arith, List, [], ◌∷◌, length, take, map, get_or, ap, ◌∙◌}
use Rattle.std.specs.List.{list_all, list_any}
use Rattle.std.proofs.lemmas.Bool.{false≢true}
use Rattle.std.proofs.lemmas.List.Sums.{AllPass-from_list_all}
use Rattle.std.proofs.lemmas.Bool.Decides.{nat_tests}
use Rattle.std.proofs.lemmas.List.{map_more}
use Rattle.std.proofs.lemmas.List.Folds.{list_any-append}
use Rattle.httparse.specs.Spans.{header_bytes}
use Rattle.httparse.specs.declared.spans.HeaderSpan.{HeaderSpan}
use Rattle.httparse.specs.Spans.{span_bytes}
use Rattle.std.specs.Str.{IsUtf8}
use Rattle.std.proofs.lemmas.Str.{IsUtf8-from_ascii}
use Rattle.std.proofs.lemmas.Str.Ascii.{IsAscii-from_all}
use Rattle.httparse.specs.Grammar.{RequestHead}
use Rattle.httparse.specs.declared.spans.RequestSpans.{RequestSpans}
use Rattle.request_head.specs.declared.method.Method.{Method}
use Rattle.head_fields.specs.declared.number.Number.{Number}
use Rattle.head_fields.specs.Fields.{lacks}
use Rattle.head_fields.specs.Numbers.{value_or_zero}
use Rattle.request_head.specs.HeadFields.{is_visible, is_caller, is_closing, method_named, length_told, limit_at, closes, caller_told, after_told, fields_of, method_of, size_of, closes_of, caller_of, after_of, refusal, head_refusal}
use Rattle.request_head.specs.HeadChecks.{Covers, IsHeadOf, IsWholeHead, IsChecked, IsCheckedHead}
use Rattle.request_head.specs.declared.head_check.HeadCheck.{HeadCheck}
use Rattle.request_head.specs.declared.head_check.HeadCheck.TheVariants.{NoHead, Refused, Good}
use Rattle.request_head.specs.declared.head.Head.{Head}

-- the second of two tests that both pass
and_right : (x y : Bool) → (x && y) ≡ true → y ≡ true
and_right true y h = h
and_right false y h = absurd (false≢true h)

-- a visible byte is ASCII
visible_low : (b : ℕ) → is_visible b ≡ true → b < 128
visible_low b visible = grind (arith, nat_tests)

-- the name of a caller is a text
pub caller_utf8 : (v : List ℕ) → is_caller v ≡ true → IsUtf8 v
caller_utf8 v caller =
    let all : list_all is_visible v ≡ true = and_right _ _ caller in
    IsUtf8-from_ascii v (IsAscii-from_all v (λ i d le. visible_low _ (AllPass-from_list_all is_visible v all i d le)))

or_false : (b : Bool) → (b || false) ≡ b
or_false true = refl
or_false false = refl

-- whether a field closes, one more header on
pub closing_more : (text : List ℕ) (headers : List HeaderSpan) (i : ℕ) (h : HeaderSpan) (before one : Bool) → i < length headers
    → before ≡ list_any is_closing (map (header_bytes text) (take i headers)) → one ≡ is_closing (header_bytes text (get_or headers i h))
    → (before || one) ≡ list_any is_closing (map (header_bytes text) (take (i + 1) headers))
closing_more text headers i h before one le before_is one_is =
    let more : list_any is_closing (map (header_bytes text) (take (i + 1) headers)) ≡ (list_any is_closing (map (header_bytes text) (take i headers)) || one) =
    ap (list_any is_closing) (map_more (header_bytes text) headers i h le)
    ∙ list_any-append is_closing (map (header_bytes text) (take i headers)) (header_bytes text (get_or headers i h) ∷ [])
    ∙ ap (λ b. list_any is_closing (map (header_bytes text) (take i headers)) || b) (or_false (is_closing (header_bytes text (get_or headers i h))) ∙ sym one_is) in
    ap (λ b. b || one) before_is ∙ sym more

-- why the head is refused, by what was read of the spans that cover it
pub refusal_read : {text : List ℕ} {r : RequestSpans} {headers : List HeaderSpan} {h : RequestHead} → Covers text r headers h
    → (method : Method) (told : Number) (none : Bool) (limit : ℕ) → method ≡ method_named (span_bytes text r.method)
    → told ≡ length_told (map (header_bytes text) headers) → none ≡ lacks (codes "transfer-encoding") (map (header_bytes text) headers)
    → limit ≡ limit_at (span_bytes text r.path) → head_refusal h ≡ refusal method told (not none) limit
unfolding head_refusal
refusal_read {text = text} {r = r} {headers = headers} {h = h} covers method told none limit method_is told_is none_is limit_is =
    let m : method_named h.method ≡ method = ap method_named (sym covers.method) ∙ sym method_is in
    let l : length_told (fields_of h) ≡ told = ap length_told (sym covers.fields) ∙ sym told_is in
    let e : lacks (codes "transfer-encoding") (fields_of h) ≡ none = ap (lacks (codes "transfer-encoding")) (sym covers.fields) ∙ sym none_is in
    let t : limit_at h.target ≡ limit = ap limit_at (sym covers.target) ∙ sym limit_is in
    ap (λ x. refusal x (length_told (fields_of h)) (not (lacks (codes "transfer-encoding") (fields_of h))) (limit_at h.target)) m
    ∙ ap (λ x. refusal method x (not (lacks (codes "transfer-encoding") (fields_of h))) (limit_at h.target)) l
    ∙ ap (λ x. refusal method told (not x) (limit_at h.target)) e
    ∙ ap (λ x. refusal method told (not none) x) t

-- the method, by what was read of the span that covers it
pub method_read : {text : List ℕ} {r : RequestSpans} {headers : List HeaderSpan} {h : RequestHead} → Covers text r headers h
    → {method : Method} → method ≡ method_named (span_bytes text r.method) → method ≡ method_of h
unfolding method_of
method_read covers method = method ∙ ap method_named covers.method

-- what the head says, by what was read of the spans that cover it
pub says_read : {text : List ℕ} {r : RequestSpans} {headers : List HeaderSpan} {h : RequestHead} → Covers text r headers h → (head : Head)
    → head.method ≡ method_named (span_bytes text r.method) → head.target.now ≡ span_bytes text r.path
    → head.size ≡ value_or_zero (length_told (map (header_bytes text) headers)) → head.closes ≡ closes r.version (map (header_bytes text) headers)
    → option_map (λ c. c.now) head.caller ≡ caller_told (map (header_bytes text) headers) → head.after ≡ after_told (map (header_bytes text) headers)
    → IsHeadOf h head
unfolding method_of size_of closes_of caller_of after_of
says_read {text = text} {r = r} {headers = headers} {h = h} covers head method target size closing caller after = record {
  method = method ∙ ap method_named covers.method;
  target = target ∙ covers.target;
  size = size ∙ ap (λ f. value_or_zero (length_told f)) covers.fields;
  closes = closing ∙ ap (λ m. closes m (map (header_bytes text) headers)) covers.minor ∙ ap (closes h.minor) covers.fields;
  caller = caller ∙ ap caller_told covers.fields;
  after = after ∙ ap after_told covers.fields;
}

-- the spans of the one head cover it
pub covers_whole : (text : List ℕ) (headers : List HeaderSpan) (r : RequestSpans) (w : IsWholeHead text headers r) → Covers text r (take r.headers headers) w.head
covers_whole text headers r w = record { method = w.at.method; target = w.at.path; minor = w.at.version; fields = w.at.fields }

-- an answer that is due to a head is due to its text
pub judged_head : (text : List ℕ) (answer : HeadCheck) → IsCheckedHead text answer → IsChecked text answer
judged_head text NoHead head_check = absurd head_check.due
judged_head text (Refused method why) head_check = head_check
judged_head text (Good head) head_check = head_check

-- The head at the front of what is pending, and what stands behind it.
use Rattle.std.specs.Prelude.{if◌then◌else◌, not, nat_le, nat_eq, codes, IfSome, IsTrue}
use Rattle.std.specs.List.{starts_with}
use Rattle.std.proofs.Common.{inl, inr, refl, Bool, true, false, ◌≡◌, ℕ, ◌+◌, ◌-◌, ◌<◌, ◌≤◌, None, List, [], ◌++◌, length, take, arith, sym, ap, ◌∙◌, subst, append_assoc, append-nil, Option, Some, leb-true}
use Rattle.std.proofs.lemmas.List.{get_or-take, length-take-le}
use Rattle.httparse.specs.Grammar.{RequestHead}
use Rattle.memchr.specs.Find.{OccursAt}
use Rattle.sw_base.specs.Faults.{Rose}
use Rattle.sw_base.specs.Link.{LinkState}
use Rattle.sw_base.proofs.Moving.{Moves-refl, Moves-trans, SameOutput-refl, SameOutput-trans}
use Rattle.link_reader.specs.Heads.{blank_line, IsHeadEnd, Grows}
use Rattle.link_reader.specs.Bodies.{IsWhole, IsCut}
use Rattle.request_head.specs.Heads.{IsHead, IsNoHead}
use Rattle.head_fields.specs.Fields.{lacks}
use Rattle.head_fields.specs.Numbers.{is_broken, value_or_zero}
use Rattle.swarm_http.specs.Types.{Method, HeadRefusal, Bad, LengthRequired, TooLarge}
use Rattle.request_head.specs.HeadFields.{head_refusal, size_of, limit_at, fields_of, length_told, wants_length, method_named}
use Rattle.request_head.specs.HeadChecks.{IsCheckedHead}
use Rattle.request_head.specs.declared.head_check.HeadCheck.TheVariants as head_check
use Rattle.swarm_model.specs.declared.rule.Rule.TheVariants as rule
use Rattle.swarm_http.specs.declared.ended.Ended.{Ended}
use Rattle.swarm_http.specs.declared.ended.Ended.TheVariants.{Closed, LastAsked, CutShort, BadHead, Retired, ReadFault, WriteFault}
use Rattle.swarm_http.specs.declared.reply.Refusal.{Refusal}
use Rattle.swarm_http.specs.declared.request.Received.{Received}
use Rattle.swarm_http.specs.declared.request.Incoming.{Incoming}
use Rattle.swarm_http.specs.declared.request.Incoming.TheVariants as taken
use Rattle.swarm_http.specs.Served.{HeadSays}
use Rattle.swarm_http.specs.Endings.{IsPart, in_body, head_rule, IsRefused, no_head, by_head}
use Rattle.swarm_http.specs.Sends.{rule_of}
use Rattle.swarm_http.specs.Takes.{IsLimit, IsHeld, IsReceived, StopsAs, IsIncoming, Takes}

occurs_in_front : (bytes : List ℕ) (n k : ℕ) → n ≤ length bytes → k + 4 ≤ n → OccursAt bytes blank_line k → OccursAt (take n bytes) blank_line k
occurs_in_front bytes n k le fits at = record {
  fits = let l : length (take n bytes) ≡ n = length-take-le n bytes le in omega arith;
  reads = λ j low. get_or-take n bytes (k + j) 0 (omega arith) ∙ at.reads j low;
}

occurs_in_all : (bytes : List ℕ) (n k : ℕ) → n ≤ length bytes → OccursAt (take n bytes) blank_line k → OccursAt bytes blank_line k
occurs_in_all bytes n k le at =
    let l : length (take n bytes) ≡ n = length-take-le n bytes le in
    let fits : k + 4 ≤ length (take n bytes) = at.fits in
    record {
      fits = omega arith;
      reads = λ j low. sym (get_or-take n bytes (k + j) 0 (omega arith)) ∙ at.reads j low;
    }

-- the head by itself
head_alone : (bytes : List ℕ) (n : ℕ) → IsHeadEnd bytes n → IsHeadEnd (take n bytes) (length (take n bytes))
head_alone bytes n end =
    let l : n ≡ length (take n bytes) = sym (length-take-le n bytes end.within) in
    let low : 4 ≤ n = end.low in
    subst (IsHeadEnd (take n bytes)) l (record {
      low = end.low;
      within = omega arith;
      occurs = occurs_in_front bytes n (n - 4) end.within (omega arith) end.occurs;
      first = λ k low high at. end.first k low high (occurs_in_all bytes n k end.within at);
    })

-- the head at the front of what is pending
pub says_head : {bytes : List ℕ} {n : ℕ} → length bytes ≤ 16384 → IsHeadEnd bytes n → (h : RequestHead) → IsHead (take n bytes) h → head_refusal h ≡ None
    → HeadSays (take n bytes) h
says_head {bytes = bytes} {n = n} short end h is_head accepted = record {
  short = let l : length (take n bytes) ≡ n = length-take-le n bytes end.within in let w : n ≤ length bytes = end.within in omega arith;
  ends = head_alone bytes n end;
  is_head = is_head;
  accepted = accepted;
}

-- a body was read to its end
pub received_whole : {received : Received} {input text rest body : List ℕ} {size : ℕ} {head : RequestHead}
    → HeadSays text head → size ≡ size_of head → IsWhole input text rest size body → IsHeld received body head → IsReceived received input rest
received_whole {text = text} {rest = rest} {body = body} {head = head} says told whole held = record {
  text = text;
  body = body;
  head = head;
  request = record { says = says; size = sym told ∙ sym whole.length_is };
  input_is = whole.input_is ∙ sym (append_assoc text body rest);
  held = held;
}

-- a body was cut short
pub part_cut : {input text : List ℕ} {size : ℕ} {head : RequestHead} → HeadSays text head → size ≡ size_of head → IsCut input text size → IsPart input
part_cut {text = text} {size = size} {head = head} says told cut =
    in_body text cut.front head says cut.input_is (let short : length cut.front < size = cut.short in omega (arith, told))

-- the bytes through the first blank line are no head
pub none_refused : (pending : List ℕ) (n : ℕ) → IsHeadEnd pending n → IsNoHead (take n pending) → IsRefused pending None rule.BadHead
none_refused pending n end none = no_head n refl refl end none

-- they are a head that is refused
pub cause_refused : (pending : List ℕ) (n : ℕ) {method : Method} {why : HeadRefusal} → IsHeadEnd pending n → IsCheckedHead (take n pending) (head_check.Refused method why)
    → IsRefused pending (Some method) (head_rule why)
cause_refused pending n {why = why} end h = by_head n h.head why (ap Some h.due.1) refl end h.is_head h.due.0

refusal_limit : (broken wants fits : Bool) (at limit : ℕ)
    → (if broken then Some Bad else (if wants then Some LengthRequired else (if fits then None else Some (TooLarge at)))) ≡ Some (TooLarge limit) → at ≡ limit
refusal_limit true wants fits at limit e = absurd (cc)
refusal_limit false true fits at limit e = absurd (cc)
refusal_limit false false true at limit e = absurd (cc)
refusal_limit false false false at limit e = cc

one_of_limits : (blob : Bool) → IsLimit (if blob then 16777216 else 65536)
one_of_limits true = inr refl
one_of_limits false = inl refl

-- there are two limits
pub limit_is : (h : RequestHead) (limit : ℕ) → head_refusal h ≡ Some (TooLarge limit) → IsLimit limit
unfolding head_refusal
limit_is h limit e =
    subst IsLimit
    (refusal_limit (is_broken (length_told (fields_of h))) (wants_length (method_named h.method) (length_told (fields_of h)) (not (lacks (codes "transfer-encoding") (fields_of h))))
    (nat_le (value_or_zero (length_told (fields_of h))) (limit_at h.target)) (limit_at h.target) limit e)
    (one_of_limits (starts_with nat_eq h.target (codes "/blobs/")))

fits_limit : (broken wants fits : Bool) (at : ℕ)
    → (if broken then Some Bad else (if wants then Some LengthRequired else (if fits then None else Some (TooLarge at)))) ≡ None → IsTrue fits
fits_limit true wants fits at e = absurd (cc)
fits_limit false true fits at e = absurd (cc)
fits_limit false false true at e = refl
fits_limit false false false at e = absurd (cc)

below_limit : (n limit : ℕ) → IsLimit limit → n ≤ limit → n ≤ 16777216
below_limit n limit (inl e) le = omega (arith, e)
below_limit n limit (inr e) le = omega (arith, e)

-- the size that a head tells, where it isn't refused
accepted_size : (h : RequestHead) → head_refusal h ≡ None → size_of h ≤ 16777216
unfolding head_refusal size_of
accepted_size h e =
    let size = value_or_zero (length_told (fields_of h)) in
    below_limit size (limit_at h.target) (one_of_limits (starts_with nat_eq h.target (codes "/blobs/")))
    (leb-true size (limit_at h.target)
    (fits_limit (is_broken (length_told (fields_of h))) (wants_length (method_named h.method) (length_told (fields_of h)) (not (lacks (codes "transfer-encoding") (fields_of h))))
    (nat_le size (limit_at h.target)) (limit_at h.target) e))

held_short : {A : Type 0} (bytes : A → List ℕ) (held : Option A) (body : List ℕ) → IfSome held (λ v. bytes v ≡ body) → length body ≤ 16777216 → IfSome held (λ v. length (bytes v) ≤ 16777216)
held_short bytes None body is short = tt
held_short bytes (Some v) body is short = subst (λ l. length l ≤ 16777216) (sym is) short

-- a body that is held is as long as a body may be
pub short_body : {s t : LinkState} {old new : List ℕ} {received : Received} → Takes s t old new (taken.Asks received) → IfSome received.body (λ v. length v.items ≤ 16777216)
short_body {received = received} x =
    let r = x.outcome.0 in
    held_short (λ v. v.items) received.body r.body r.held.body_is (subst (λ n. n ≤ 16777216) r.request.size (accepted_size r.head r.request.says.accepted))

-- the head that is pending is refused, with nothing read
pub refused_here : {s : LinkState} {pending : List ℕ} {method : Option Method} {why : Refusal} → IsRefused pending method (rule_of why)
    → Takes s s pending pending (taken.Refuses method why)
refused_here {s = s} {pending = pending} refused = record { taken = []; moves = Moves-refl s; output = SameOutput-refl s; outcome = (refused, append-nil pending, refl) }

stops_after : (ended : Ended) (rest : List ℕ) (s t u : LinkState) → t.read_faults ≡ s.read_faults → StopsAs ended rest t u → StopsAs ended rest s u
stops_after Closed rest s t u le x = (x.0, x.1, x.2 ∙ le)
stops_after CutShort rest s t u le x = (x.0, x.1, x.2 ∙ le)
stops_after ReadFault rest s t u le x = (subst (λ n. Rose n u.read_faults) le x.0, x.1)
stops_after LastAsked rest s t u le x = x
stops_after BadHead rest s t u le x = x
stops_after Retired rest s t u le x = x
stops_after WriteFault rest s t u le x = x

taken_after : (s t u : LinkState) (input new : List ℕ) (r : Incoming) → t.read_faults ≡ s.read_faults → IsIncoming t u input new r → IsIncoming s u input new r
taken_after s t u input new (taken.Asks received) le x = (x.0, x.1 ∙ le)
taken_after s t u input new (taken.Refuses method why) le x = (x.0, x.1, x.2 ∙ le)
taken_after s t u input new (taken.Ends ended) le x = stops_after ended input s t u le x

-- a request was taken after reads, none of which failed
pub takes_after : {s t u : LinkState} {a b c : List ℕ} {r : Incoming} → Grows s t a b → t.read_faults ≡ s.read_faults → Takes t u b c r → Takes s u a c r
takes_after {s = s} {t = t} {u = u} {a = a} {b = b} {c = c} {r = r} x well y =
    let same : b ++ y.taken ≡ a ++ (x.taken ++ y.taken) = ap (λ l. l ++ y.taken) x.grown ∙ append_assoc a x.taken y.taken in
    record {
      taken = x.taken ++ y.taken;
      moves = Moves-trans x.moves y.moves;
      output = SameOutput-trans x.output y.output;
      outcome = subst (λ input. IsIncoming s u input c r) same (taken_after s t u (b ++ y.taken) c r well y.outcome);
    }

-- Requests, one after another, whatever answers them.
use Rattle.std.proofs.Common.{Bool, true, false, ◌≡◌, ℕ, ◌+◌, ◌<◌, ◌≤◌, List, [], ◌∷◌, ◌++◌, length, arith, refl, sym, ap, ◌∙◌, append_assoc, append-nil, length-append, Option, Some, None, Result, subst}
use Rattle.std.specs.Prelude.{◌==◌, ◌≢◌}
use Rattle.std.specs.List.{flat_map, count_by}
use Rattle.std.proofs.lemmas.List.Concat.{flat_map-append}
use Rattle.dimensions.proofs.Counting.{count-append}
use Rattle.httparse.specs.Grammar.{RequestHead}
use Rattle.request_head.specs.declared.method.Method.{Method}
use Rattle.request_head.specs.HeadFields.{method_of}
use Rattle.sw_base.specs.Faults.{Rose}
use Rattle.sw_base.specs.Link.{LinkState, IsClean, Moves, NoFault}
use Rattle.sw_base.proofs.Moving.{Moves-refl, Moves-trans, NoFault-refl, NoFault-trans, clean_still}
use Rattle.link_writer.specs.Sends.{Sends}
use Rattle.swarm_http.specs.declared.ended.Ended.{Ended}
use Rattle.swarm_http.specs.declared.ended.Ended.TheVariants.{Closed, LastAsked, CutShort, BadHead, Retired, ReadFault, WriteFault}
use Rattle.swarm_http.specs.declared.reply.Refusal.{Refusal}
use Rattle.swarm_http.specs.declared.reply.ReplyBytes.{ReplyBytes}
use Rattle.swarm_http.specs.declared.request.Received.{Received}
use Rattle.swarm_http.specs.declared.request.Incoming.TheVariants as taken
use Rattle.swarm_http.specs.Replies.{Shown, refusal, sent_to}
use Rattle.swarm_http.specs.Sends.{rule_of, status_in, shown_in}
use Rattle.swarm_http.specs.Served.{Served, request_bytes, reply_bytes, replies, is_accepted}
use Rattle.swarm_http.specs.Endings.{Transfers, NoneCloses, IsOpenStill, IsCutReply, last_reply, refused_head, EndsAs, EndsAtFault}
use Rattle.swarm_http.specs.Conversing.{Does, DoesEach, Converses}
use Rattle.swarm_http.specs.Takes.{IsHeld, StopsAs, Takes, ReadsWell}
use Rattle.swarm_http.specs.Steps.{GoesOn, Stops, AreCounted, count_of}

DoesEach-append : {S : Type 0} (does : Does S) (old mid new : S) (xs ys : List Served) → DoesEach does old xs mid → DoesEach does mid ys new → DoesEach does old (xs ++ ys) new
DoesEach-append {S = S} does old mid new [] ys same rest = subst (λ (s : S). DoesEach does s ys new) same rest
DoesEach-append does old mid new (x ∷ xs) ys first rest = (first.0, first.1, first.2, DoesEach-append does first.0 mid new xs ys first.3 rest)

nothing_served : (s : LinkState) → Transfers [] [] [] [] s s
nothing_served s = record { taken = []; moves = Moves-refl s; input_is = refl }

Transfers-trans : {xs ys : List Served} {pending mid rest p q : List ℕ} {s t u : LinkState} → Transfers xs pending mid p s t → Transfers ys mid rest q t u → Transfers (xs ++ ys) pending rest (p ++ q) s u
Transfers-trans {xs = xs} {ys = ys} {pending = pending} {mid = mid} {rest = rest} x y = record {
  taken = x.taken ++ y.taken;
  moves = Moves-trans x.moves y.moves;
  input_is =
      sym (append_assoc pending x.taken y.taken) ∙ ap (λ l. l ++ y.taken) x.input_is ∙ append_assoc (flat_map request_bytes xs) mid y.taken
      ∙ ap (λ l. flat_map request_bytes xs ++ l) y.input_is ∙ sym (append_assoc (flat_map request_bytes xs) (flat_map request_bytes ys) rest)
      ∙ ap (λ l. l ++ rest) (sym (flat_map-append request_bytes xs ys));
}

-- what was sent before goes in front
replies_after : (xs ys : List Served) (sent : List ℕ) → sent ≡ replies ys → replies xs ++ sent ≡ replies (xs ++ ys)
replies_after xs ys sent e = ap (λ l. replies xs ++ l) e ∙ sym (flat_map-append reply_bytes xs ys)

none_close : (xs ys : List Served) → NoneCloses xs → NoneCloses ys → NoneCloses (xs ++ ys)
none_close [] ys p q = q
none_close (x ∷ xs) ys p q = (p.0, none_close xs ys p.1 q)

-- no request was answered yet
nothing_open : IsOpenStill 1 []
nothing_open = record { few = omega arith; open_still = tt }

-- fewer than 65536 requests, and no request more
open_after : (xs ys : List Served) → length xs < 65536 → NoneCloses xs → IsOpenStill 1 ys → IsOpenStill 65536 (xs ++ ys)
open_after xs ys few o y = record {
  few = let none : length ys < 1 = y.few in omega (arith, length-append xs ys);
  open_still = none_close xs ys o y.open_still;
}

cut_after : (xs ys : List Served) (rest sent : List ℕ) → length xs < 65536 → NoneCloses xs → IsCutReply 1 ys rest sent → IsCutReply 65536 (xs ++ ys) rest (replies xs ++ sent)
cut_after xs ys rest sent few o (last_reply zs x front back is still so_far whole) =
    last_reply (xs ++ zs) x front back (ap (λ l. xs ++ l) is ∙ sym (append_assoc xs zs (x ∷ []))) (none_close xs zs o still)
    (ap (λ l. replies xs ++ l) so_far ∙ sym (append_assoc (replies xs) (replies zs) front) ∙ ap (λ l. l ++ front) (sym (flat_map-append reply_bytes xs zs))) whole
cut_after xs ys rest sent few o (refused_head method why front back still refused so_far whole) =
    refused_head method why front back (open_after xs ys few o still) refused
    (ap (λ l. replies xs ++ l) so_far ∙ sym (append_assoc (replies xs) (replies ys) front) ∙ ap (λ l. l ++ front) (sym (flat_map-append reply_bytes xs ys))) whole

-- a connection that ends after some requests, none of which asks to close it
ends_after : (ended : Ended) (xs ys : List Served) (rest sent : List ℕ) (s m t : LinkState) → length xs < 65536 → NoneCloses xs → NoFault s m
    → ended ≢ Retired → EndsAs 1 ended ys rest sent m t → EndsAs 65536 ended (xs ++ ys) rest (replies xs ++ sent) s t
ends_after Closed xs ys rest sent s m t few o well nr e = (e.0, e.1, replies_after xs ys sent e.2, open_after xs ys few o e.3)
ends_after LastAsked xs ys rest sent s m t few o well nr e =
    let l = e.0 in (
      record {
        earlier = xs ++ l.earlier;
        last = l.last;
        are = ap (λ k. xs ++ k) l.are ∙ sym (append_assoc xs l.earlier (l.last ∷ []));
        open_before = none_close xs l.earlier o l.open_before;
        closing = l.closing;
      },
      replies_after xs ys sent e.1,
    )
ends_after CutShort xs ys rest sent s m t few o well nr e = (e.0, e.1, replies_after xs ys sent e.2, open_after xs ys few o e.3)
ends_after BadHead xs ys rest all s m t few o well nr e =
    let sent = sent_to e.0 (refusal None e.1) in
    (e.0, e.1, e.2, ap (λ l. replies xs ++ l) e.3 ∙ sym (append_assoc (replies xs) (replies ys) sent) ∙ ap (λ l. l ++ sent) (sym (flat_map-append reply_bytes xs ys)), open_after xs ys few o e.4)
ends_after Retired xs ys rest sent s m t few o well nr e = absurd (nr refl)
ends_after ReadFault xs ys rest sent s m t few o well nr e = (subst (λ n. Rose n t.read_faults) well.reads e.0, e.1, replies_after xs ys sent e.2, open_after xs ys few o e.3)
ends_after WriteFault xs ys rest sent s m t few o well nr e = (subst (λ n. Rose n t.write_faults) well.writes e.0, cut_after xs ys rest sent few o e.1)

-- no request was answered
none_served : {pending rest taken sent : List ℕ} {s t : LinkState} → Moves s t taken sent → pending ++ taken ≡ rest → Transfers [] pending rest sent s t
none_served {taken = taken} m is = record { taken = taken; moves = m; input_is = is }

-- one request was answered
one_served : {pending rest taken sent : List ℕ} (x : Served) {s t : LinkState} → Moves s t taken sent → pending ++ taken ≡ request_bytes x ++ rest → Transfers (x ∷ []) pending rest sent s t
one_served {rest = rest} {taken = taken} x m is = record { taken = taken; moves = m; input_is = is ∙ ap (λ l. l ++ rest) (sym (append-nil (request_bytes x))) }

-- it ended at a write or a flush that failed
write_fault : {s t : LinkState} → t.read_faults ≡ s.read_faults → EndsAtFault WriteFault s t
write_fault reads = record { reads = λ n. reads; writes = λ n. absurd (n refl); clean = λ n. absurd (n refl) }

-- no call failed
no_faults : {ended : Ended} {s t : LinkState} → t.read_faults ≡ s.read_faults → t.write_faults ≡ s.write_faults → IsClean t → EndsAtFault ended s t
no_faults reads writes clean = record { reads = λ n. reads; writes = λ n. writes; clean = λ n. clean }

-- what is sent by the method that is held of a request is its reply
sent_as : {m n : Method} (it : Shown) → m ≡ n → sent_to (Some m) it ≡ sent_to (Some n) it
sent_as it same = ap (λ k. sent_to (Some k) it) same

-- a request was taken, answered and its reply written
abbrev goes_on : {S : Type 0} (does : Does S) (shown : ReplyBytes) {pending rest : List ℕ} {received : Received} {T E : Type 0} {r : Result T E} {old new : S} {s t u : LinkState}
    → Takes s t pending rest (taken.Asks received)
    → ((body : List ℕ) (head : RequestHead) → IsHeld received body head → does head body (status_in shown) (shown_in shown) old new)
    → (y : Sends t u (sent_to (Some received.line.method) (shown_in shown)) r) → y.back ≡ [] → u.write_faults ≡ t.write_faults → IsClean u → received.line.closes ≡ false
    → GoesOn does pending rest old new s u
goes_on does shown {new = new} {s = s} {u = u} x answers y all well flushed still =
    let q = x.outcome.0 in
    let one : Served = record { text = q.text; body = q.body; head = q.head; status = status_in shown; shown = shown_in shown } in
    let sent : y.written.sent ≡ sent_to (Some (method_of q.head)) (shown_in shown) =
    sym (append-nil y.written.sent) ∙ ap (λ l. y.written.sent ++ l) (sym all) ∙ sym y.written.whole ∙ sent_as (shown_in shown) q.held.line.method in
    let moves = Moves-trans x.moves y.written.moves in
    record {
      x = one;
      open_still = sym q.held.line.closes ∙ still;
      transfers = one_served one (subst (Moves s u x.taken) sent (subst (λ l. Moves s u l y.written.sent) (append-nil x.taken) moves)) q.input_is;
      each = (new, q.request, answers q.body q.head q.held, refl);
      no_fault = record { reads = y.written.input.read_faults ∙ x.outcome.1; writes = well ∙ x.output.write_faults };
      clean = flushed;
    }

-- its reply was not written whole
abbrev reply_cut : {S : Type 0} (does : Does S) (shown : ReplyBytes) {pending rest : List ℕ} {received : Received} {T E : Type 0} {r : Result T E} {old new : S} {s t u : LinkState}
    → Takes s t pending rest (taken.Asks received)
    → ((body : List ℕ) (head : RequestHead) → IsHeld received body head → does head body (status_in shown) (shown_in shown) old new)
    → Sends t u (sent_to (Some received.line.method) (shown_in shown)) r → Rose t.write_faults u.write_faults → Stops does pending old new s u WriteFault
reply_cut does shown {rest = rest} {new = new} {s = s} {u = u} x answers y rose =
    let q = x.outcome.0 in
    let one : Served = record { text = q.text; body = q.body; head = q.head; status = status_in shown; shown = shown_in shown } in
    let moves = Moves-trans x.moves y.written.moves in
    record {
      xs = one ∷ [];
      rest = rest;
      sent = y.written.sent;
      transfers = one_served one (subst (λ l. Moves s u l y.written.sent) (append-nil x.taken) moves) q.input_is;
      each = (new, q.request, answers q.body q.head q.held, refl);
      ends = (subst (λ n. Rose n u.write_faults) x.output.write_faults rose, last_reply [] one y.written.sent y.back refl tt refl (sym (sent_as (shown_in shown) q.held.line.method) ∙ y.written.whole));
      few = omega arith;
      faults = write_fault (y.written.input.read_faults ∙ x.outcome.1);
      not_retired = λ h. cc;
    }

-- its reply was the last
abbrev asked_last : {S : Type 0} (does : Does S) (shown : ReplyBytes) {pending rest : List ℕ} {received : Received} {T E : Type 0} {r : Result T E} {old new : S} {s t u : LinkState}
    → Takes s t pending rest (taken.Asks received)
    → ((body : List ℕ) (head : RequestHead) → IsHeld received body head → does head body (status_in shown) (shown_in shown) old new)
    → (y : Sends t u (sent_to (Some received.line.method) (shown_in shown)) r) → y.back ≡ [] → u.write_faults ≡ t.write_faults → IsClean u → received.line.closes ≡ true
    → Stops does pending old new s u LastAsked
asked_last does shown {rest = rest} {new = new} {s = s} {u = u} x answers y all well flushed closing =
    let q = x.outcome.0 in
    let one : Served = record { text = q.text; body = q.body; head = q.head; status = status_in shown; shown = shown_in shown } in
    let sent : y.written.sent ≡ sent_to (Some (method_of q.head)) (shown_in shown) =
    sym (append-nil y.written.sent) ∙ ap (λ l. y.written.sent ++ l) (sym all) ∙ sym y.written.whole ∙ sent_as (shown_in shown) q.held.line.method in
    let moves = Moves-trans x.moves y.written.moves in
    record {
      xs = one ∷ [];
      rest = rest;
      sent = y.written.sent;
      transfers = one_served one (subst (λ l. Moves s u l y.written.sent) (append-nil x.taken) moves) q.input_is;
      each = (new, q.request, answers q.body q.head q.held, refl);
      ends = (record { earlier = []; last = one; are = refl; open_before = tt; closing = sym q.held.line.closes ∙ closing }, sent ∙ sym (append-nil (reply_bytes one)));
      few = omega arith;
      faults = no_faults (y.written.input.read_faults ∙ x.outcome.1) (well ∙ x.output.write_faults) flushed;
      not_retired = λ h. cc;
    }

-- the head was refused
abbrev head_refused : {S : Type 0} (does : Does S) {pending rest : List ℕ} {method : Option Method} {why : Refusal} {T E : Type 0} {r : Result T E} {v : S} {s t u : LinkState}
    → Takes s t pending rest (taken.Refuses method why) → (w : Sends t u (sent_to method (refusal None (rule_of why))) r) → w.back ≡ [] → u.write_faults ≡ t.write_faults → IsClean u
    → Stops does pending v v s u BadHead
head_refused does {rest = rest} {method = method} {why = why} {s = s} {u = u} x w all well flushed =
    let moves = Moves-trans x.moves w.written.moves in
    record {
      xs = [];
      rest = rest;
      sent = w.written.sent;
      transfers = none_served (subst (λ l. Moves s u l w.written.sent) (append-nil x.taken) moves) x.outcome.1;
      each = refl;
      ends = (method, rule_of why, x.outcome.0, sym (append-nil w.written.sent) ∙ ap (λ l. w.written.sent ++ l) (sym all) ∙ sym w.written.whole, nothing_open);
      few = omega arith;
      faults = no_faults (w.written.input.read_faults ∙ x.outcome.2) (well ∙ x.output.write_faults) flushed;
      not_retired = λ h. cc;
    }

-- the refusal of a head was not written whole
abbrev refusal_cut : {S : Type 0} (does : Does S) {pending rest : List ℕ} {method : Option Method} {why : Refusal} {T E : Type 0} {r : Result T E} {v : S} {s t u : LinkState}
    → Takes s t pending rest (taken.Refuses method why) → Sends t u (sent_to method (refusal None (rule_of why))) r → Rose t.write_faults u.write_faults → Stops does pending v v s u WriteFault
refusal_cut does {rest = rest} {method = method} {why = why} {s = s} {u = u} x w rose =
    let moves = Moves-trans x.moves w.written.moves in
    record {
      xs = [];
      rest = rest;
      sent = w.written.sent;
      transfers = none_served (subst (λ l. Moves s u l w.written.sent) (append-nil x.taken) moves) x.outcome.1;
      each = refl;
      ends = (subst (λ n. Rose n u.write_faults) x.output.write_faults rose, refused_head method (rule_of why) w.written.sent w.back nothing_open x.outcome.0 refl w.written.whole);
      few = omega arith;
      faults = write_fault (w.written.input.read_faults ∙ x.outcome.2);
      not_retired = λ h. cc;
    }

ends_of : (ended : Ended) (rest : List ℕ) (s t : LinkState) → StopsAs ended rest s t → EndsAs 1 ended [] rest [] s t × (ended ≢ Retired) × (ended ≢ ReadFault → ReadsWell s t)
ends_of Closed rest s t x = ((x.0, x.1, refl, nothing_open), (λ h. cc), λ n. x.2)
ends_of CutShort rest s t x = ((x.0, x.1, refl, nothing_open), (λ h. cc), λ n. x.2)
ends_of ReadFault rest s t x = ((x.0, x.1, refl, nothing_open), (λ h. cc), λ n. absurd (n refl))
ends_of LastAsked rest s t x = absurd x
ends_of BadHead rest s t x = absurd x
ends_of Retired rest s t x = absurd x
ends_of WriteFault rest s t x = absurd x

-- no request came
abbrev taking_ended : {S : Type 0} (does : Does S) {pending rest : List ℕ} {v : S} {s t : LinkState} (ended : Ended) → Takes s t pending rest (taken.Ends ended) → IsClean s → Stops does pending v v s t ended
taking_ended does {pending = pending} {s = s} {t = t} ended x clean =
    let e = ends_of ended (pending ++ x.taken) s t x.outcome in
    record {
      xs = [];
      rest = pending ++ x.taken;
      sent = [];
      transfers = none_served x.moves refl;
      each = refl;
      ends = e.0;
      few = omega arith;
      faults = record { reads = e.2; writes = λ n. x.output.write_faults; clean = λ n. clean_still x.output clean };
      not_retired = e.1;
    }

-- ---- the numbers of requests

one_counted : (x : Served) → count_by is_accepted (x ∷ []) ≡ count_of (is_accepted x)
one_counted x = by_cases (is_accepted x) refl
  where
    by_cases : (b : Bool) → is_accepted x ≡ b → count_by is_accepted (x ∷ []) ≡ count_of (is_accepted x)
    by_cases true is = rw is refl
    by_cases false is = rw is refl

are_one : (x : Served) (accepted : Bool) → accepted ≡ is_accepted x → AreCounted (x ∷ []) true accepted
are_one x accepted is = record { requests = refl; accepted_are = ap count_of is ∙ sym (one_counted x) }

are_none : AreCounted [] false false
are_none = record { requests = refl; accepted_are = refl }

few_more : {count good : ℕ} (accepted : Bool) → good ≤ count → good + count_of accepted ≤ count + 1
few_more true few = omega arith
few_more false few = omega arith

pub goes_on_counted : {S : Type 0} (does : Does S) (shown : ReplyBytes) {pending rest : List ℕ} {received : Received} {T E : Type 0} {r : Result T E} {old new : S} {s t u : LinkState} {accepted : Bool}
    → Takes s t pending rest (taken.Asks received)
    → ((body : List ℕ) (head : RequestHead) → IsHeld received body head → does head body (status_in shown) (shown_in shown) old new)
    → (y : Sends t u (sent_to (Some received.line.method) (shown_in shown)) r) → y.back ≡ [] → u.write_faults ≡ t.write_faults → IsClean u → received.line.closes ≡ false
    → accepted ≡ (status_in shown == 200) → (goes : GoesOn does pending rest old new s u) × (accepted ≡ is_accepted goes.x)
goes_on_counted does shown x answers y all well flushed still is = (goes_on does shown x answers y all well flushed still, is)

pub reply_cut_counted : {S : Type 0} (does : Does S) (shown : ReplyBytes) {pending rest : List ℕ} {received : Received} {T E : Type 0} {r : Result T E} {old new : S} {s t u : LinkState} {accepted : Bool}
    → Takes s t pending rest (taken.Asks received)
    → ((body : List ℕ) (head : RequestHead) → IsHeld received body head → does head body (status_in shown) (shown_in shown) old new)
    → Sends t u (sent_to (Some received.line.method) (shown_in shown)) r → Rose t.write_faults u.write_faults
    → accepted ≡ (status_in shown == 200) → (stops : Stops does pending old new s u WriteFault) × AreCounted stops.xs true accepted
reply_cut_counted does shown {accepted = accepted} x answers y rose is =
    let q = x.outcome.0 in
    (reply_cut does shown x answers y rose, are_one (record { text = q.text; body = q.body; head = q.head; status = status_in shown; shown = shown_in shown }) accepted is)

pub asked_last_counted : {S : Type 0} (does : Does S) (shown : ReplyBytes) {pending rest : List ℕ} {received : Received} {T E : Type 0} {r : Result T E} {old new : S} {s t u : LinkState} {accepted : Bool}
    → Takes s t pending rest (taken.Asks received)
    → ((body : List ℕ) (head : RequestHead) → IsHeld received body head → does head body (status_in shown) (shown_in shown) old new)
    → (y : Sends t u (sent_to (Some received.line.method) (shown_in shown)) r) → y.back ≡ [] → u.write_faults ≡ t.write_faults → IsClean u → received.line.closes ≡ true
    → accepted ≡ (status_in shown == 200) → (stops : Stops does pending old new s u LastAsked) × AreCounted stops.xs true accepted
asked_last_counted does shown {accepted = accepted} x answers y all well flushed closing is =
    let q = x.outcome.0 in
    (asked_last does shown x answers y all well flushed closing, are_one (record { text = q.text; body = q.body; head = q.head; status = status_in shown; shown = shown_in shown }) accepted is)

pub head_refused_counted : {S : Type 0} (does : Does S) {pending rest : List ℕ} {method : Option Method} {why : Refusal} {T E : Type 0} {r : Result T E} {v : S} {s t u : LinkState}
    → Takes s t pending rest (taken.Refuses method why) → (w : Sends t u (sent_to method (refusal None (rule_of why))) r) → w.back ≡ [] → u.write_faults ≡ t.write_faults → IsClean u
    → (stops : Stops does pending v v s u BadHead) × AreCounted stops.xs false false
head_refused_counted does x w all well flushed = (head_refused does x w all well flushed, are_none)

pub refusal_cut_counted : {S : Type 0} (does : Does S) {pending rest : List ℕ} {method : Option Method} {why : Refusal} {T E : Type 0} {r : Result T E} {v : S} {s t u : LinkState}
    → Takes s t pending rest (taken.Refuses method why) → Sends t u (sent_to method (refusal None (rule_of why))) r → Rose t.write_faults u.write_faults
    → (stops : Stops does pending v v s u WriteFault) × AreCounted stops.xs false false
refusal_cut_counted does x w rose = (refusal_cut does x w rose, are_none)

pub taking_ended_counted : {S : Type 0} (does : Does S) {pending rest : List ℕ} {v : S} {s t : LinkState} (ended : Ended)
    → Takes s t pending rest (taken.Ends ended) → IsClean s → (stops : Stops does pending v v s t ended) × AreCounted stops.xs false false
taking_ended_counted does ended x clean = (taking_ended does ended x clean, are_none)

-- the connection so far
pub record SoFar {S : Type 0} (does : Does S) (count good : ℕ) (pending : List ℕ) (old new : S) (s t : LinkState) : Type 0 where
  pub xs : List Served
  pub transfers : Transfers xs [] pending (replies xs) s t
  pub each : DoesEach does old xs new
  pub counted : length xs ≡ count
  pub accepted : count_by is_accepted xs ≡ good
  pub accepted_few : good ≤ count
  pub open_still : NoneCloses xs
  pub no_fault : NoFault s t
  pub clean : IsClean t

pub begun : {S : Type 0} (does : Does S) (v : S) (s : LinkState) → IsClean s → SoFar does 0 0 [] v v s s
begun does v s clean = record {
  xs = [];
  transfers = nothing_served s;
  each = refl;
  counted = refl;
  accepted = refl;
  accepted_few = omega arith;
  open_still = tt;
  no_fault = NoFault-refl s;
  clean = clean;
}

pub one_on : {S : Type 0} (does : Does S) {count good : ℕ} {accepted : Bool} {pending more : List ℕ} {u v w : S} {r s t : LinkState}
    → SoFar does count good pending u v r s → (y : GoesOn does pending more v w s t) → accepted ≡ is_accepted y.x → SoFar does (count + 1) (good + count_of accepted) more u w r t
one_on does {accepted = accepted} {more = more} {u = u} {v = v} {w = w} {r = r} {t = t} x y is = record {
  xs = x.xs ++ y.x ∷ [];
  transfers = subst (λ l. Transfers (x.xs ++ y.x ∷ []) [] more l r t) (replies_after x.xs (y.x ∷ []) (reply_bytes y.x) (sym (append-nil (reply_bytes y.x)))) (Transfers-trans x.transfers y.transfers);
  each = DoesEach-append does u v w x.xs (y.x ∷ []) x.each y.each;
  counted = omega (arith, length-append x.xs (y.x ∷ []), x.counted);
  accepted = omega (arith, count-append is_accepted x.xs (y.x ∷ []), one_counted y.x, ap count_of is, x.accepted);
  accepted_few = few_more accepted x.accepted_few;
  open_still = none_close x.xs (y.x ∷ []) x.open_still (y.open_still, tt);
  no_fault = NoFault-trans x.no_fault y.no_fault;
  clean = y.clean;
}

-- ---- the whole connection

pub ended_counted : {S : Type 0} (does : Does S) {count good : ℕ} {pending : List ℕ} {u v w : S} {r s t : LinkState} {ended : Ended} {asked accepted : Bool} → SoFar does count good pending u v r s → count < 65536
    → (y : Stops does pending v w s t ended) → AreCounted y.xs asked accepted → Converses does u w r t (record { ended = ended; requests = count + count_of asked; accepted = good + count_of accepted })
ended_counted does {u = u} {v = v} {w = w} {r = r} {s = s} {t = t} {ended = ended} x early y k = record {
  xs = x.xs ++ y.xs;
  rest = y.rest;
  sent = replies x.xs ++ y.sent;
  transfers = Transfers-trans x.transfers y.transfers;
  each = DoesEach-append does u v w x.xs y.xs x.each y.each;
  ends = ends_after ended x.xs y.xs y.rest y.sent r s t (omega (arith, x.counted)) x.open_still x.no_fault y.not_retired y.ends;
  few = omega (arith, length-append x.xs y.xs, x.counted, y.few);
  faults = record { reads = λ n. y.faults.reads n ∙ x.no_fault.reads; writes = λ n. y.faults.writes n ∙ x.no_fault.writes; clean = y.faults.clean };
  requests = omega (arith, length-append x.xs y.xs, x.counted, k.requests);
  accepted = omega (arith, count-append is_accepted x.xs y.xs, x.accepted, k.accepted_are);
}

pub retired_counted : {S : Type 0} (does : Does S) {count good : ℕ} {pending : List ℕ} {u v : S} {s t : LinkState} → SoFar does count good pending u v s t → count ≡ 65536
    → Converses does u v s t (record { ended = Retired; requests = 65536; accepted = good })
retired_counted does {pending = pending} x full = record {
  xs = x.xs;
  rest = pending;
  sent = replies x.xs;
  transfers = x.transfers;
  each = x.each;
  ends = (x.counted ∙ full, refl, x.open_still);
  few = omega (arith, x.counted, full);
  faults = no_faults x.no_fault.reads x.no_fault.writes x.clean;
  requests = sym full ∙ sym x.counted;
  accepted = sym x.accepted;
}

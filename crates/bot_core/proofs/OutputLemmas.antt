-- What an update carries.
use Rattle.std.proofs.Common.{◌≡◌, ℕ, zero, suc, ◌+◌, ◌-◌, ◌/◌, ◌≤◌, Bool, true, false, not, ◌&&◌, ◌||◌, ◌==◌, if◌then◌else◌, nat_le, nat_lt, List, [], ◌∷◌, ◌++◌, length, take, drop, Option, Some, None, is_some, IfSome, refl, ap, sym, ◌∙◌, subst, arith, append_assoc, length-append}
use Rattle.std.proofs.lemmas.Bool.Decides.{nat_tests}
use Rattle.std.specs.Option.{option_map}
use Rattle.bot_core.specs.Types.{RefusalCode, Run, Action, BotEvent, BotLimits, BotState, Phase, Awaited, Begin, Answer, Slept, End}
use Rattle.refusal_codes.specs.Codes.{code_numbered}
use Rattle.bot_core.specs.declared.action.StopWhy.TheVariants as why
use Rattle.bot_core.specs.declared.action.Action.TheVariants as action
use Rattle.bot_core.specs.declared.bot_event.BotEvent.TheVariants as event
use Rattle.bot_core.specs.declared.bot_state.Phase.TheVariants as phase
use Rattle.bot_core.specs.RunChanges.{most_pending, most_output, drop_output, abandon_run, is_dropped, add_output, has_passed, is_reached, is_grace_over, end_of}
use Rattle.bot_core.proofs.StateBounds.{stepped_keeps}
use Rattle.bot_core.specs.Table.{enter, enter_stop, enter_sleep, next_session, with_run, is_stop, sends_request, is_transient, needs_new_session, is_claim_over, is_store_full, abandons_run, apply_refusal, signal_term, signal_kill, send_or_sleep, continue_run, end_task, after_handshake, after_poll, after_claim, after_prepare, after_start, after_look, after_signal, after_send, after_upload, after_last_send, after_clean_up, after_answer, after_begin, after_sleep, after_event, next_state, phase_action, awaited_action, action_of, record_action, issue_action}
use Rattle.bot_core.specs.Bounds.{RunBounds, Bounds, InBounds}
use Rattle.bot_core.specs.Output.{OutputState, OutputEvent, waiting_at, waiting_after, wrote_after, HasBytes, OutputStep, OutputSteps, output_start, CarriesOutput}

-- ---- lists

take_whole : {A : Type 0} (n : ℕ) (xs ys : List A) → length xs ≡ n → take n (xs ++ ys) ≡ xs
take_whole zero [] ys h = refl
take_whole (suc n) [] ys h = absurd (omega arith)
take_whole zero (x ∷ xs) ys h = absurd (omega arith)
take_whole (suc n) (x ∷ xs) ys h = ap (λ zs. x ∷ zs) (take_whole n xs ys (omega arith))

drop_whole : {A : Type 0} (n : ℕ) (xs ys : List A) → length xs ≡ n → drop n (xs ++ ys) ≡ ys
drop_whole zero [] ys h = refl
drop_whole (suc n) [] ys h = absurd (omega arith)
drop_whole zero (x ∷ xs) ys h = absurd (omega arith)
drop_whole (suc n) (x ∷ xs) ys h = drop_whole n xs ys (omega arith)

length_take : {A : Type 0} (n : ℕ) (xs : List A) → n ≤ length xs → length (take n xs) ≡ n
length_take zero xs h = refl
length_take (suc n) [] h = absurd (omega arith)
length_take (suc n) (x ∷ xs) h = ap suc (length_take n xs (omega arith))

nil_append : {A : Type 0} (xs : List A) → xs ++ [] ≡ xs
nil_append [] = refl
nil_append (x ∷ xs) = ap (λ zs. x ∷ zs) (nil_append xs)

take_all : {A : Type 0} (n : ℕ) (xs : List A) → length xs ≡ n → take n xs ≡ xs
take_all n xs h = sym (ap (λ zs. take n zs) (nil_append xs)) ∙ take_whole n xs [] h

take_same : {A : Type 0} (n : ℕ) (xs : List A) → take n (take n xs) ≡ take n xs
take_same zero xs = refl
take_same (suc n) [] = refl
take_same (suc n) (x ∷ xs) = ap (λ zs. x ∷ zs) (take_same n xs)

-- ---- the bytes before, those that wait, and those that were dropped

record Agrees (pending sent dropped : ℕ) (dropping abandoned : Bool) (waiting wrote : List ℕ) : Type 0 where
  before : List ℕ
  after : List ℕ
  parts : wrote ≡ before ++ (take pending waiting ++ after)
  sent_is : length before ≡ sent
  fits : pending ≤ length waiting
  joins : dropping ≡ false → abandoned ≡ false → after ≡ []
  whole : dropped ≡ 0 → after ≡ []

abbrev Fits : Run → List ℕ → List ℕ → Type 0
Fits r waiting wrote = Agrees r.pending r.sent r.dropped r.dropping r.abandoned waiting wrote

fresh : (d : ℕ) (c a : Bool) (waiting : List ℕ) → Agrees 0 0 d c a waiting []
fresh d c a waiting = record { before = []; after = []; parts = refl; sent_is = refl; fits = omega arith; joins = λ _ _. refl; whole = λ _. refl }

-- what waits is dropped, and a flag says so
dropped_all : (p s d : ℕ) (c a c' a' : Bool) (waiting wrote : List ℕ) → (c' ≡ false → a' ≡ false → ⊥) → Agrees p s d c a waiting wrote → Agrees 0 s (d + p) c' a' waiting wrote
dropped_all p s d c a c' a' waiting wrote flagged g =
    record {
      before = g.before;
      after = take p waiting ++ g.after;
      parts = g.parts;
      sent_is = g.sent_is;
      fits = omega arith;
      joins = λ x y. absurd (flagged x y);
      whole = λ z. let p0 : p ≡ 0 = omega arith in let d0 : d ≡ 0 = omega arith in rw (p0, g.whole d0) refl;
    }

-- what waits was sent
delivered : (p s d : ℕ) (c a : Bool) (waiting wrote : List ℕ) → Agrees p s d c a waiting wrote → Agrees 0 (s + p) d c a waiting wrote
delivered p s d c a waiting wrote g =
    record {
      before = g.before ++ take p waiting;
      after = g.after;
      parts = g.parts ∙ sym (append_assoc g.before (take p waiting) g.after);
      sent_is = length-append g.before (take p waiting) ∙ ap (λ n. n + length (take p waiting)) g.sent_is ∙ ap (λ n. s + n) (length_take p waiting g.fits);
      fits = omega arith;
      joins = g.joins;
      whole = g.whole;
    }

-- a Look cuts the bytes that wait to those that are pending
cut_back : (p s d : ℕ) (c a : Bool) (waiting wrote : List ℕ) → Agrees p s d c a waiting wrote → Agrees p s d c a (take p waiting) wrote
cut_back p s d c a waiting wrote g =
    record {
      before = g.before;
      after = g.after;
      parts = g.parts ∙ ap (λ (xs : List ℕ). g.before ++ (xs ++ g.after)) (sym (take_same p waiting));
      sent_is = g.sent_is;
      fits = omega (arith, length_take p waiting g.fits);
      joins = g.joins;
      whole = g.whole;
    }

-- more output, which is kept
output_kept : (p s d n : ℕ) (waiting wrote bytes : List ℕ) → length waiting ≡ p → length bytes ≡ n → Agrees p s d false false waiting wrote → Agrees (p + n) s d false false (waiting ++ bytes) (wrote ++ bytes)
output_kept p s d n waiting wrote bytes lw lb g =
    let none : g.after ≡ [] = g.joins refl refl in
    let all : take (p + n) (waiting ++ bytes) ≡ waiting ++ bytes = take_all (p + n) (waiting ++ bytes) (length-append waiting bytes ∙ ap (λ k. k + length bytes) lw ∙ ap (λ k. p + k) lb) in
    let now : take p waiting ≡ waiting = take_all p waiting lw in
    record {
      before = g.before;
      after = [];
      parts =
          ap (λ (xs : List ℕ). xs ++ bytes) (g.parts ∙ ap (λ (xs : List ℕ). g.before ++ (take p waiting ++ xs)) none ∙ ap (λ (xs : List ℕ). g.before ++ xs) (nil_append (take p waiting) ∙ now))
          ∙ append_assoc g.before waiting bytes ∙ ap (λ (xs : List ℕ). g.before ++ xs) (sym (nil_append (take (p + n) (waiting ++ bytes)) ∙ all));
      sent_is = g.sent_is;
      fits = omega (arith, length-append waiting bytes);
      joins = λ _ _. refl;
      whole = λ _. refl;
    }

-- more output, which is dropped
output_lost : (p s d n : ℕ) (c a : Bool) (waiting wrote bytes : List ℕ) → 1 ≤ n → length waiting ≡ p → Agrees p s d c a waiting wrote → Agrees p s (d + n) true a (waiting ++ bytes) (wrote ++ bytes)
output_lost p s d n c a waiting wrote bytes some lw g =
    record {
      before = g.before;
      after = g.after ++ bytes;
      parts =
          ap (λ (xs : List ℕ). xs ++ bytes) (g.parts ∙ ap (λ (xs : List ℕ). g.before ++ (xs ++ g.after)) (take_all p waiting lw))
          ∙ append_assoc g.before (waiting ++ g.after) bytes ∙ ap (λ (xs : List ℕ). g.before ++ xs) (append_assoc waiting g.after bytes)
          ∙ ap (λ (xs : List ℕ). g.before ++ (xs ++ (g.after ++ bytes))) (sym (take_whole p waiting bytes lw));
      sent_is = g.sent_is;
      fits = omega (arith, length-append waiting bytes);
      joins = λ x y. absurd (cc);
      whole = λ z. absurd (omega arith);
    }

-- ---- the rows of the table

-- the run of a bot agrees with these bytes
abbrev Stands : List ℕ → List ℕ → BotState → Type 0
Stands waiting wrote s = Fits s.run waiting wrote

if_run : (P : Run → Type 0) (c : Bool) (x y : Run) → P x → P y → P (if c then x else y)
if_run P true x y p q = p
if_run P false x y p q = q

if_both : (P : BotState → Type 0) (c : Bool) (x y : BotState) → P x → P y → P (if c then x else y)
if_both P true x y p q = p
if_both P false x y p q = q

module _ (w o : List ℕ) where
  handshake_stands : (s : BotState) (e : BotEvent) (b : List ℕ) → Stands w o s → IfSome (after_handshake s e) (Stands (waiting_after e b w) (wrote_after e b o))
  handshake_stands s event.HandshakeOk b g = g
  handshake_stands s (event.Refused number) b g = g
  handshake_stands s e b g = tt

  poll_stands : (s : BotState) (e : BotEvent) (b : List ℕ) → Stands w o s → IfSome (after_poll s e) (Stands (waiting_after e b w) (wrote_after e b o))
  poll_stands s (event.PollSleep secs) b g = g
  poll_stands s event.PollClaim b g = g
  poll_stands s event.PollTerminate b g = g
  poll_stands s (event.Refused number) b g = if_both (Stands w o) (needs_new_session (code_numbered number)) (next_session s) (enter_stop why.Refused s) g g
  poll_stands s e b g = tt

  claim_stands : (s : BotState) (e : BotEvent) (b : List ℕ) → Stands w o s → IfSome (after_claim s e) (Stands (waiting_after e b w) (wrote_after e b o))
  claim_stands s (event.ClaimRun x i r t) b g = fresh 0 false false w
  claim_stands s event.ClaimSkip b g = g
  claim_stands s (event.Refused number) b g =
      if_both (Stands w o) (needs_new_session (code_numbered number)) (next_session s) (if is_claim_over (code_numbered number) then enter phase.Poll s else enter_stop why.Refused s) g
      (if_both (Stands w o) (is_claim_over (code_numbered number)) (enter phase.Poll s) (enter_stop why.Refused s) g g)
  claim_stands s e b g = tt

  prepare_stands : (s : BotState) (e : BotEvent) (b : List ℕ) → Stands w o s → IfSome (after_prepare s e) (Stands (waiting_after e b w) (wrote_after e b o))
  prepare_stands s event.Prepared b g = g
  prepare_stands s event.RunnerFailed b g = g
  prepare_stands s e b g = tt

  start_stands : (s : BotState) (e : BotEvent) (m : ℕ) (b : List ℕ) → Stands w o s → IfSome (after_start s e m) (Stands (waiting_after e b w) (wrote_after e b o))
  start_stands s event.Started m b g = g
  start_stands s event.RunnerFailed m b g = g
  start_stands s e m b g = tt

  send_or_sleep_stands : (s : BotState) (m : ℕ) → Stands w o s → Stands w o (send_or_sleep m s)
  send_or_sleep_stands s m g = if_both (Stands w o) (not s.run.abandoned && (nat_lt 0 s.run.pending || has_passed s.run.last_send (s.run.tolerance / 4) m)) (enter phase.Send s) (enter_sleep 1 phase.Look s) g g

  continue_run_stands : (s : BotState) (m : ℕ) → Stands w o s → Stands w o (continue_run m s)
  continue_run_stands s m g =
      let k : Stands w o (send_or_sleep m s) = send_or_sleep_stands s m g in
      if_both (Stands w o) (is_some s.run.term) _ _
      (if_both (Stands w o) (not s.run.killed && is_grace_over s.run.grace s.run.term m) (signal_kill s) (send_or_sleep m s) g k)
      (if_both (Stands w o) s.run.stop (signal_term (λ r. r) m s) _ g
      (if_both (Stands w o) (is_reached s.run.started s.run.execution m) (signal_term (λ r. record r { hard_timeout = true }) m s) _ g
      (if_both (Stands w o) (is_reached s.run.last_output s.run.io m) (signal_term (λ r. record r { io_timeout = true }) m s) (send_or_sleep m s) g k)))

  signal_stands : (s : BotState) (e : BotEvent) (b : List ℕ) → Stands w o s → IfSome (after_signal s e) (Stands (waiting_after e b w) (wrote_after e b o))
  signal_stands s event.Signalled b g = g
  signal_stands s event.RunnerFailed b g = g
  signal_stands s e b g = tt

  repelled_stands : (code : Option RefusalCode) (r : Run) → Fits r w o → Fits (apply_refusal code r) w o
  repelled_stands code r g =
      let P : Run → Type 0 = λ x. Fits x w o in
      let all : (c a : Bool) → (c ≡ false → a ≡ false → ⊥) → Agrees 0 r.sent (r.dropped + r.pending) c a w o = λ c a f. dropped_all r.pending r.sent r.dropped r.dropping r.abandoned c a w o f g in
      if_run P (is_store_full code) (drop_output r) (if abandons_run code then abandon_run r else record (abandon_run r) { refused = true }) (all true r.abandoned (λ x y. cc))
      (if_run P (abandons_run code) (abandon_run r) (record (abandon_run r) { refused = true }) (all r.dropping true (λ x y. cc)) (all r.dropping true (λ x y. cc)))

  send_stands : (s : BotState) (e : BotEvent) (b : List ℕ) → Stands w o s → IfSome (after_send s e) (Stands (waiting_after e b w) (wrote_after e b o))
  send_stands s (event.SendOk must_stop) b g = delivered s.run.pending s.run.sent s.run.dropped s.run.dropping s.run.abandoned w o g
  send_stands s (event.Refused number) b g = repelled_stands (code_numbered number) s.run g
  send_stands s e b g = tt

  upload_stands : (s : BotState) (e : BotEvent) (b : List ℕ) → Stands w o s → IfSome (after_upload s e) (Stands (waiting_after e b w) (wrote_after e b o))
  upload_stands s event.Uploaded b g = g
  upload_stands s (event.Refused number) b g = if_both (Stands w o) (is_store_full (code_numbered number)) (enter phase.LastSend s) (enter_stop why.Refused s) g g
  upload_stands s e b g = tt

  last_stands : (s : BotState) (e : BotEvent) (b : List ℕ) → Stands w o s → IfSome (after_last_send s e) (Stands (waiting_after e b w) (wrote_after e b o))
  last_stands s (event.SendOk must_stop) b g = g
  last_stands s (event.Refused number) b g =
      if_both (Stands w o) (is_store_full (code_numbered number)) (enter phase.LastSend (with_run drop_output s)) _
      (dropped_all s.run.pending s.run.sent s.run.dropped s.run.dropping s.run.abandoned true s.run.abandoned w o (λ x y. cc) g)
      (if_both (Stands w o) (abandons_run (code_numbered number)) (enter phase.CleanUp (with_run abandon_run s)) (enter_stop why.Refused s)
      (dropped_all s.run.pending s.run.sent s.run.dropped s.run.dropping s.run.abandoned s.run.dropping true w o (λ x y. cc) g) g)
  last_stands s e b g = tt

  end_task_stands : (s : BotState) → Stands w o s → Stands w o (end_task s)
  end_task_stands s g =
      let t : BotState = record s { tasks = s.tasks + 1 } in
      if_both (Stands w o) t.run.refused (enter_stop why.Refused t) _ g
      (if_both (Stands w o) (nat_le t.limits.tasks t.tasks) (enter_stop why.Tasks t) _ g
      (if_both (Stands w o) t.run.abandoned (next_session t) (enter phase.Poll t) g g))

  clean_stands : (s : BotState) (e : BotEvent) (b : List ℕ) → Stands w o s → IfSome (after_clean_up s e) (Stands (waiting_after e b w) (wrote_after e b o))
  clean_stands s event.Cleaned b g = end_task_stands s g
  clean_stands s event.RunnerFailed b g = end_task_stands s g
  clean_stands s e b g = tt

-- ---- a look

add_output_cases : (c a d x : Bool) (P : Bool → Type 0) → (c ≡ (a || d || x)) → (c ≡ true → P true) → (a ≡ false → d ≡ false → P false) → P c
add_output_cases true a d x P e t f = t refl
add_output_cases false false false x P e t f = f refl refl
add_output_cases false false true x P e t f = absurd (cc)
add_output_cases false true d x P e t f = absurd (cc)

add_output_stands : (size m : ℕ) (b v o : List ℕ) (r : Run) → 1 ≤ size → length b ≡ size → length v ≡ r.pending → Fits r v o → Fits (add_output size m r) (v ++ b) (o ++ b)
add_output_stands size m b v o r some lb lv g =
    add_output_cases (is_dropped size r) r.abandoned r.dropping (nat_lt most_output (r.sent + r.pending + size))
    (λ c. Fits (if c then record r { last_output = m; dropped = r.dropped + size; dropping = true } else record r { last_output = m; pending = r.pending + size }) (v ++ b) (o ++ b))
    refl
    (λ _. output_lost r.pending r.sent r.dropped size r.dropping r.abandoned v o b some lv g)
    (λ a d. let k : Agrees r.pending r.sent r.dropped false false v o = subst (λ y. Agrees r.pending r.sent r.dropped false y v o) a (subst (λ y. Agrees r.pending r.sent r.dropped y r.abandoned v o) d g) in
    subst (λ y. Agrees (r.pending + size) r.sent r.dropped r.dropping y (v ++ b) (o ++ b)) (sym a) (subst (λ y. Agrees (r.pending + size) r.sent r.dropped y false (v ++ b) (o ++ b)) (sym d) (output_kept r.pending r.sent r.dropped size v o b lv lb k)))

and_left : (x : ℕ) (b : Bool) → (nat_le 1 x && b) ≡ true → 1 ≤ x
and_left x true h = grind (arith, nat_tests)
and_left x false h = absurd (grind (arith, nat_tests))

output_stands : (s : BotState) (size m : ℕ) (c : Bool) (b v o : List ℕ) → (nat_le 1 size && nat_le size (most_pending - s.run.pending)) ≡ c → length b ≡ size → length v ≡ s.run.pending → Stands v o s →
    IfSome (if c then Some (continue_run m (with_run (add_output size m) s)) else None) (Stands (v ++ b) (o ++ b))
output_stands s size m false b v o h lb lv g = tt
output_stands s size m true b v o h lb lv g =
    continue_run_stands (v ++ b) (o ++ b) (with_run (add_output size m) s) m (add_output_stands size m b v o s.run (and_left size (nat_le size (most_pending - s.run.pending)) h) lb lv g)

look_row : (s : BotState) (e : BotEvent) (m : ℕ) (b v o : List ℕ) → HasBytes e b → length v ≡ s.run.pending → Stands v o s → IfSome (after_look s e m) (Stands (waiting_after e b v) (wrote_after e b o))
look_row s (event.Output size) m b v o sp lv g = output_stands s size m (nat_le 1 size && nat_le size (most_pending - s.run.pending)) b v o refl sp lv g
look_row s event.Quiet m b v o sp lv g = continue_run_stands v o s m g
look_row s (event.Ended code) m b v o sp lv g = g
look_row s event.RunnerFailed m b v o sp lv g = g
look_row s e m b v o sp lv g = tt

waiting_at_stands : (s : BotState) (p : Phase) (w o : List ℕ) → Bounds s → Stands w o s → Stands (waiting_at (phase_action s p) w) o s
waiting_at_stands s phase.Look w o bs g =
    let rb : RunBounds s.steps s.run = bs.run in
    let k : s.run.pending ≡ most_pending - (most_pending - s.run.pending) = omega (arith, rb.pending) in
    subst (λ n. Stands (take n w) o s) k (cut_back s.run.pending s.run.sent s.run.dropped s.run.dropping s.run.abandoned w o g)
waiting_at_stands s p w o bs g = g

look_stands : (s : BotState) (e : BotEvent) (m : ℕ) (b w o : List ℕ) → Bounds s → HasBytes e b → Stands w o s → IfSome (after_look s e m) (Stands (waiting_after e b (waiting_at (phase_action s phase.Look) w)) (wrote_after e b o))
look_stands s e m b w o bs sp g =
    let rb : RunBounds s.steps s.run = bs.run in
    let k : s.run.pending ≡ most_pending - (most_pending - s.run.pending) = omega (arith, rb.pending) in
    subst (λ n. IfSome (after_look s e m) (Stands (waiting_after e b (take n w)) (wrote_after e b o))) k
    (look_row s e m b (take s.run.pending w) o sp (length_take s.run.pending w g.fits) (cut_back s.run.pending s.run.sent s.run.dropped s.run.dropping s.run.abandoned w o g))

-- ---- the whole table

answer_stands : (s : BotState) (p : Phase) (e : BotEvent) (m : ℕ) (b w o : List ℕ) → Bounds s → HasBytes e b → Stands w o s → IfSome (after_answer s p e m) (Stands (waiting_after e b (waiting_at (phase_action s p) w)) (wrote_after e b o))
answer_stands s phase.Handshake e m b w o bs sp g = handshake_stands w o s e b g
answer_stands s phase.Poll e m b w o bs sp g = poll_stands w o s e b g
answer_stands s phase.Claim e m b w o bs sp g = claim_stands w o s e b g
answer_stands s phase.Prepare e m b w o bs sp g = prepare_stands w o s e b g
answer_stands s phase.Start e m b w o bs sp g = start_stands w o s e m b g
answer_stands s phase.Look e m b w o bs sp g = look_stands s e m b w o bs sp g
answer_stands s (phase.Signal signal) e m b w o bs sp g = signal_stands w o s e b g
answer_stands s phase.Send e m b w o bs sp g = send_stands w o s e b g
answer_stands s phase.LastSend e m b w o bs sp g = last_stands w o s e b g
answer_stands s phase.Upload e m b w o bs sp g = upload_stands w o s e b g
answer_stands s phase.CleanUp e m b w o bs sp g = clean_stands w o s e b g
answer_stands s (phase.Stop why) e m b w o bs sp g = tt

begin_stands : (s : BotState) (e : BotEvent) (m : ℕ) (b w o : List ℕ) → Stands w o s → IfSome (after_begin s e m) (Stands (waiting_after e b w) (wrote_after e b o))
begin_stands s event.Begin m b w o g = g
begin_stands s e m b w o g = tt

wake_stands : (s : BotState) (e : BotEvent) (b w o : List ℕ) → Stands w o s → IfSome (after_sleep s e) (Stands (waiting_after e b w) (wrote_after e b o))
wake_stands s event.Slept b w o g = g
wake_stands s e b w o g = tt

not_both : (x t : Bool) → (x && false) ≡ t → t ≡ true → ⊥
not_both true t h k = cc
not_both false t h k = cc

request_stands : (s : BotState) (p : Phase) (t : Bool) (w o : List ℕ) (y : Bool) → (sends_request p && y) ≡ t → Stands w o s → t ≡ true → Stands (waiting_at (phase_action s p) w) o s
request_stands s phase.Look t w o y h g k = absurd (cc)
request_stands s p t w o y h g k = g

-- an answer that is lost changes no bytes
transient_stands : (s : BotState) (p : Phase) (e : BotEvent) (t : Bool) (b w o : List ℕ) → (sends_request p && is_transient e) ≡ t → Stands w o s → t ≡ true → Stands (waiting_after e b (waiting_at (phase_action s p) w)) (wrote_after e b o) s
transient_stands s p event.Lost t b w o h g k = request_stands s p t w o true h g k
transient_stands s p (event.Refused n) t b w o h g k = request_stands s p t w o (is_transient (event.Refused n)) h g k
transient_stands s p e t b w o h g k = absurd (not_both (sends_request p) t h k)

if_heard : (P : BotState → Type 0) (c : Bool) (x y : Option BotState) → (c ≡ true → IfSome x P) → IfSome y P → IfSome (if c then x else y) P
if_heard P true x y p q = p refl
if_heard P false x y p q = q

after_event_stands : (s : BotState) (a : Awaited) (e : BotEvent) (m : ℕ) (b w o : List ℕ) → Bounds s → HasBytes e b → Stands w o s → IfSome (after_event s a e m) (Stands (waiting_after e b (waiting_at (awaited_action s a) w)) (wrote_after e b o))
after_event_stands s Begin e m b w o bs sp g = begin_stands s e m b (waiting_at (phase_action s s.phase) w) o (waiting_at_stands s s.phase w o bs g)
after_event_stands s (Slept secs) e m b w o bs sp g = wake_stands s e b w o g
after_event_stands s Answer e m b w o bs sp g =
    if_heard (Stands (waiting_after e b (waiting_at (phase_action s s.phase) w)) (wrote_after e b o)) (sends_request s.phase && is_transient e) (Some (enter_sleep 5 s.phase s)) (after_answer s s.phase e m)
    (transient_stands s s.phase e (sends_request s.phase && is_transient e) b w o refl g) (answer_stands s s.phase e m b w o bs sp g)

next_stands : (s : BotState) (c : Bool) (e : BotEvent) (m : ℕ) (b w o : List ℕ) → (c ≡ false → Bounds s) → HasBytes e b → Stands w o s →
    IfSome (if c then None else after_event s s.awaited e m) (Stands (waiting_after e b (waiting_at (action_of s) w)) (wrote_after e b o))
next_stands s true e m b w o bs sp g = tt
next_stands s false e m b w o bs sp g = after_event_stands s s.awaited e m b w o (bs refl) sp g

-- ---- a step

record_action_stands : (a : Action) (m : ℕ) (w o : List ℕ) (s : BotState) → Stands w o s → Stands w o (record_action a m s)
record_action_stands action.Poll m w o s g = if_both (Stands w o) (nat_le s.limits.polls s.polls) (enter_stop why.Polls s) (record s { polls = s.polls + 1 }) g g
record_action_stands (action.Send start size last) m w o s g = g
record_action_stands a m w o s g = g

issue_action_stands : (m : ℕ) (w o : List ℕ) (s : BotState) → Stands w o s → Stands w o (issue_action m s)
issue_action_stands m w o s g =
    let t : BotState = record_action (action_of s) m s in let h : Stands w o t = record_action_stands (action_of s) m w o s g in
    if_both (Stands w o) (nat_le t.limits.steps t.steps) (enter_stop why.Steps t) (record t { steps = t.steps + 1 }) h h

-- what holds of a bot that goes on, and of its bytes
record Sound (side : OutputState) : Type 0 where
  bounds : InBounds side.bot
  stands : Stands side.waiting side.wrote side.bot

from_next : (o : Option BotState) (m : ℕ) (t : BotState) (P : BotState → Type 0) → option_map (issue_action m) o ≡ Some t → ((u : BotState) → o ≡ Some u → P (issue_action m u)) → P t
from_next None m t P h f = absurd (cc)
from_next (Some u) m t P h f = let e : issue_action m u ≡ t = cc in subst P e (f u refl)

Sound-turn : (old : OutputState) (turn : OutputEvent) (new : OutputState) → OutputStep old turn new → Sound old → Sound new
Sound-turn old turn new h s =
    let s1 : Stands old.waiting old.wrote old.bot = s.stands in
    let w : List ℕ = waiting_after turn.event turn.bytes (waiting_at (action_of old.bot) old.waiting) in let o : List ℕ = wrote_after turn.event turn.bytes old.wrote in
    let all : IfSome (next_state old.bot turn.event turn.moment) (Stands w o) = next_stands old.bot (is_stop old.bot.phase) turn.event turn.moment turn.bytes old.waiting old.wrote s.bounds h.has_bytes s1 in
    record {
      bounds = from_next (next_state old.bot turn.event turn.moment) turn.moment new.bot InBounds h.stepped (λ u is. stepped_keeps old.bot u turn.event turn.moment s.bounds is);
      stands =
          let P : BotState → Type 0 = λ b. Stands new.waiting new.wrote b in
          from_next (next_state old.bot turn.event turn.moment) turn.moment new.bot P h.stepped
          (λ u is.
          let Q : Option BotState → Type 0 = λ x. IfSome x (Stands w o) in
          let g : Stands w o (issue_action turn.moment u) = issue_action_stands turn.moment w o u (subst Q is all) in
          subst (λ (v : List ℕ). Stands v new.wrote (issue_action turn.moment u)) (sym h.waiting) (subst (λ (v : List ℕ). Stands w v (issue_action turn.moment u)) (sym h.wrote) g));
    }

Sound-all : (turns : List OutputEvent) (old new : OutputState) → OutputSteps old turns new → Sound old → Sound new
Sound-all [] old new h s = subst Sound (sym h) s
Sound-all (turn ∷ turns) old new h s = let m : OutputState = h.0 in Sound-all turns m new h.2 (Sound-turn old turn m h.1 s)

Sound-start : (limits : BotLimits) → Sound (output_start limits)
Sound-start limits =
    record {
      bounds = λ _. record { steps = omega arith; session = omega arith; claim = omega arith; polls = omega arith; tasks = omega arith; run = record { pending = omega arith; output = omega arith; dropped = omega arith; duration = omega arith } };
      stands = fresh 0 false false [];
    }

-- ---- what an update carries

whole_of : (side : OutputState) (last : Option End) (g : Stands side.waiting side.wrote side.bot) → IfSome last (λ end. end.dropped ≡ side.bot.run.dropped) →
    length side.wrote ≡ side.bot.run.sent + (side.bot.run.pending + length g.after) →
    IfSome last (λ end. end.dropped ≡ 0 → side.bot.run.sent + side.bot.run.pending ≡ length side.wrote)
whole_of side None g same long = tt
whole_of side (Some end) g same long = λ z.
    let none : g.after ≡ [] = g.whole (sym same ∙ z) in let n : length g.after ≡ 0 = ap (λ (xs : List ℕ). length xs) none in omega (arith, long, n)

CarriesOutput-of : (side : OutputState) (last : Option End) → Stands side.waiting side.wrote side.bot → IfSome last (λ end. end.dropped ≡ side.bot.run.dropped) → CarriesOutput side side.bot.run.sent side.bot.run.pending last
CarriesOutput-of side last g same =
    let r : Run = side.bot.run in
    let rest : drop r.sent side.wrote ≡ take r.pending side.waiting ++ g.after = ap (λ (xs : List ℕ). drop r.sent xs) g.parts ∙ drop_whole r.sent g.before (take r.pending side.waiting ++ g.after) g.sent_is in
    let size : length (take r.pending side.waiting) ≡ r.pending = length_take r.pending side.waiting g.fits in
    let long : length side.wrote ≡ r.sent + (r.pending + length g.after) =
    ap (λ (xs : List ℕ). length xs) g.parts ∙ length-append g.before (take r.pending side.waiting ++ g.after) ∙ ap (λ n. n + length (take r.pending side.waiting ++ g.after)) g.sent_is
    ∙ ap (λ n. r.sent + n) (length-append (take r.pending side.waiting) g.after ∙ ap (λ n. n + length g.after) size) in
    record {
      bytes = sym (ap (λ (xs : List ℕ). take r.pending xs) rest ∙ take_whole r.pending (take r.pending side.waiting) g.after size);
      within = omega (arith, long);
      whole = whole_of side last g same long;
    }

CarriesOutput-same : (side : OutputState) (start size : ℕ) (last last2 : Option End) → side.bot.run.sent ≡ start → side.bot.run.pending ≡ size → last2 ≡ last → CarriesOutput side side.bot.run.sent side.bot.run.pending last2 → CarriesOutput side start size last
CarriesOutput-same side start size last last2 a b c k =
    subst (λ x. CarriesOutput side x size last) a (subst (λ x. CarriesOutput side side.bot.run.sent x last) b (subst (λ x. CarriesOutput side side.bot.run.sent side.bot.run.pending x) c k))

phase_carries : (side : OutputState) (p : Phase) (start size : ℕ) (last : Option End) → Stands side.waiting side.wrote side.bot → phase_action side.bot p ≡ action.Send start size last → CarriesOutput side start size last
phase_carries side phase.Send start size last g h = CarriesOutput-same side start size last None (cc) (cc) (cc) (CarriesOutput-of side None g tt)
phase_carries side phase.LastSend start size last g h = CarriesOutput-same side start size last (Some (end_of side.bot.run)) (cc) (cc) (cc) (CarriesOutput-of side (Some (end_of side.bot.run)) g refl)
phase_carries side p start size last g h = absurd (cc)

awaited_carries : (side : OutputState) (a : Awaited) (p : Phase) (start size : ℕ) (last : Option End) → Stands side.waiting side.wrote side.bot → awaited_action (record side.bot { phase = p }) a ≡ action.Send start size last → CarriesOutput side start size last
awaited_carries side (Slept secs) p start size last g h = absurd (cc)
awaited_carries side Begin p start size last g h = phase_carries side p start size last g h
awaited_carries side Answer p start size last g h = phase_carries side p start size last g h

pub all_carry : (limits : BotLimits) (turns : List OutputEvent) (side : OutputState) → OutputSteps (output_start limits) turns side →
    (start size : ℕ) (last : Option End) → action_of side.bot ≡ action.Send start size last → CarriesOutput side start size last
all_carry limits turns side h start size last is =
    let s : Sound side = Sound-all turns (output_start limits) side h (Sound-start limits) in
    awaited_carries side side.bot.awaited side.bot.phase start size last s.stands is

-- What each row of the table does to ids, runs and signals.
use Rattle.std.proofs.Common.{◌≡◌, ℕ, ◌+◌, ◌-◌, ◌/◌, ◌≤◌, ◌<◌, Bool, true, false, not, ◌&&◌, ◌||◌, ◌==◌, if◌then◌else◌, nat_le, nat_lt, Option, Some, None, is_some, IfSome, ℤ, negsuc, refl, ap, sym, ◌∙◌, subst, arith}
use Rattle.std.specs.Option.{option_map}
use Rattle.refusal_codes.specs.Codes.{code_numbered}
use Rattle.bot_core.specs.Types.{Run, StopWhy, Term, Action, BotEvent, BotState, Phase, Awaited, Begin, Answer, Slept}
use Rattle.bot_core.specs.declared.action.StopWhy.TheVariants as why
use Rattle.bot_core.specs.declared.action.Action.TheVariants as action
use Rattle.bot_core.specs.declared.bot_event.BotEvent.TheVariants as event
use Rattle.bot_core.specs.declared.bot_state.Phase.TheVariants as phase
use Rattle.bot_core.specs.RunChanges.{most_pending, drop_output, abandon_run, add_output, is_dropped, end_run, has_passed, is_reached, is_grace_over}
use Rattle.bot_core.specs.Table.{enter, enter_stop, enter_sleep, next_session, with_run, is_stop, sends_request, is_transient, needs_new_session, is_claim_over, is_store_full, abandons_run, fail_start, apply_refusal, signal_kill, send_or_sleep, continue_run, end_task, after_handshake, after_poll, after_claim, after_prepare, after_start, after_look, after_signal, after_send, after_upload, after_last_send, after_clean_up, after_answer, after_begin, after_sleep, after_event, next_state, action_of, record_action, issue_action, stepped}
use Rattle.bot_core.specs.Signals.{Signals, signals_at_event, AreInOrder}
use Rattle.bot_core.specs.OpenRuns.{is_claim_run}
use Rattle.bot_core.specs.Ids.{is_again}
use Rattle.bot_core.proofs.RowParts.{asks, cleans, names_session, names_id, is_signal, is_open, is_starting, is_plain, is_slept, Quiet, logged, RunAgrees, none_in_order, new_agrees, term_agrees, kill_agrees, same_at_event, order_at_event, none_logged, plain_signal, plain_names, plain_session, plain_open, plain_starting}

-- ---- a row, from a state at this phase

-- a start is for the same claim, which was open and is no longer
abbrev Starts : BotState → Phase → Awaited → BotState → Type 0
Starts s p a t = (is_open p a ≡ true) × (s.session ≡ t.session) × (s.claim ≡ t.claim) × (is_open t.phase t.awaited ≡ false)

pub record Row (s : BotState) (p : Phase) (a : Awaited) (e : BotEvent) (m : ℕ) (t : BotState) : Type 0 where
  pub session : s.session ≤ t.session
  pub claim : s.session ≡ t.session → s.claim ≤ t.claim
  -- an id that isn't sent again is a later one
  pub fresh : is_again e ≡ false → names_id t.phase t.awaited ≡ true → s.session ≡ t.session → s.claim < t.claim
  pub first : (names_session p ≡ true → s.claim ≡ 0) → names_session t.phase ≡ true → t.claim ≡ 0
  -- a claim that is open was so
  pub opens : s.session ≡ t.session → s.claim ≡ t.claim → is_open t.phase t.awaited ≡ true → is_open p a ≡ true
  pub starts : is_starting t.phase t.awaited ≡ true → Starts s p a t
  -- a run stays open
  pub stays : asks p a ≡ false → cleans p a ≡ false → asks t.phase t.awaited ≡ false
  pub opened : is_claim_run e ≡ true → asks t.phase t.awaited ≡ false
  pub quiet : Quiet p a → Quiet t.phase t.awaited
  pub order : Quiet p a → (g : Signals) → RunAgrees s.run g → AreInOrder (logged t.phase t.awaited m (signals_at_event e g))
  pub agrees : Quiet p a → (g : Signals) → RunAgrees s.run g → is_stop t.phase ≡ false → RunAgrees t.run (logged t.phase t.awaited m (signals_at_event e g))

if_row : (s : BotState) (p : Phase) (a : Awaited) (e : BotEvent) (m : ℕ) (c : Bool) (x y : BotState) → (c ≡ true → Row s p a e m x) → (c ≡ false → Row s p a e m y) → Row s p a e m (if c then x else y)
if_row s p a e m true x y f g = f refl
if_row s p a e m false x y f g = g refl

-- the run agrees with the signals after a row that logs none
silent_row : (s t : BotState) (e : BotEvent) (m : ℕ) → is_claim_run e ≡ false → is_signal t.phase ≡ false → ((g : Signals) → RunAgrees s.run g → RunAgrees t.run g) →
    (g : Signals) → RunAgrees s.run g → RunAgrees t.run (logged t.phase t.awaited m (signals_at_event e g))
silent_row s t e m c q f g a =
    subst (λ (x : Signals). RunAgrees t.run x) (sym (none_logged t.phase t.awaited m (signals_at_event e g) q))
    (subst (λ (x : Signals). RunAgrees t.run x) (sym (same_at_event e g c)) (f g a))

-- the same session and claim, and no new run
plain : (s t : BotState) (p : Phase) (e : BotEvent) (m : ℕ) → t.session ≡ s.session → t.claim ≡ s.claim → is_claim_run e ≡ false → is_plain t.phase ≡ true →
    ((g : Signals) → RunAgrees s.run g → RunAgrees t.run g) → (asks p Answer ≡ false → cleans p Answer ≡ false → asks t.phase t.awaited ≡ false) → Row s p Answer e m t
plain s t p e m e1 e2 c q f o = record {
  session = omega (arith, e1);
  claim = λ h. omega (arith, e2);
  fresh = λ h n. absurd (let k : names_id t.phase t.awaited ≡ false = plain_names t.phase t.awaited q in cc);
  first = λ h n. absurd (let k : names_session t.phase ≡ false = plain_session t.phase q in cc);
  opens = λ h k n. absurd (let z : is_open t.phase t.awaited ≡ false = plain_open t.phase t.awaited q in cc);
  starts = λ n. absurd (let z : is_starting t.phase t.awaited ≡ false = plain_starting t.phase t.awaited q in cc);
  stays = o;
  opened = λ h. absurd (cc);
  quiet = λ h k. plain_signal t.phase q;
  order = λ h g a. (silent_row s t e m c (plain_signal t.phase q) f g a).order;
  agrees = λ h g a k. silent_row s t e m c (plain_signal t.phase q) f g a;
}

-- the next session
session_row : (s t : BotState) (p : Phase) (a : Awaited) (e : BotEvent) (m : ℕ) → t.session ≡ s.session + 1 → t.claim ≡ 0 → t.run ≡ s.run → t.phase ≡ phase.Handshake → is_claim_run e ≡ false →
    (asks p a ≡ false → cleans p a ≡ false → asks t.phase t.awaited ≡ false) → Row s p a e m t
session_row s t p a e m e1 e2 r is c o =
    let q : is_signal t.phase ≡ false = ap is_signal is in
    let f : (g : Signals) → RunAgrees s.run g → RunAgrees t.run g = λ g a. subst (λ (x : Run). RunAgrees x g) (sym r) a in
    record {
      session = omega (arith, e1);
      claim = λ h. absurd (omega (arith, e1, h));
      fresh = λ h n k. absurd (omega (arith, e1, k));
      first = λ h n. e2;
      opens = λ h k n. absurd (omega (arith, e1, h));
      starts = λ n. absurd (let z : is_starting t.phase t.awaited ≡ false = ap (λ x. is_starting x t.awaited) is in cc);
      stays = o;
      opened = λ h. absurd (cc);
      quiet = λ h k. q;
      order = λ h g a. (silent_row s t e m c q f g a).order;
      agrees = λ h g a k. silent_row s t e m c q f g a;
    }

-- ---- the rows

same_agrees : (r : Run) (g : Signals) → RunAgrees r g → RunAgrees r g
same_agrees r g a = a

handshake_row : (s : BotState) (e : BotEvent) (m : ℕ) → IfSome (after_handshake s e) (Row s phase.Handshake Answer e m)
handshake_row s event.HandshakeOk m = plain s (enter phase.Poll s) phase.Handshake event.HandshakeOk m refl refl refl refl (same_agrees s.run) (λ o. absurd (cc))
handshake_row s (event.Refused n) m = plain s (enter_stop why.Refused s) phase.Handshake (event.Refused n) m refl refl refl refl (same_agrees s.run) (λ o. absurd (cc))
handshake_row s e m = tt

poll_row : (s : BotState) (e : BotEvent) (m : ℕ) → IfSome (after_poll s e) (Row s phase.Poll Answer e m)
poll_row s (event.PollSleep secs) m = plain s (enter_sleep secs phase.Poll s) phase.Poll (event.PollSleep secs) m refl refl refl refl (same_agrees s.run) (λ o. absurd (cc))
poll_row s event.PollClaim m = record {
  session = omega arith;
  claim = λ h. omega arith;
  fresh = λ h n k. omega arith;
  first = λ h n. absurd (cc);
  opens = λ h k n. absurd (omega (arith, k));
  starts = λ n. absurd (cc);
  stays = λ o. absurd (cc);
  opened = λ h. absurd (cc);
  quiet = λ h k. refl;
  order = λ h g a. a.order;
  agrees = λ h g a k. a;
}
poll_row s event.PollTerminate m = plain s (enter_stop why.Terminated s) phase.Poll event.PollTerminate m refl refl refl refl (same_agrees s.run) (λ o. absurd (cc))
poll_row s (event.Refused n) m =
    if_row s phase.Poll Answer (event.Refused n) m (needs_new_session (code_numbered n)) (next_session s) (enter_stop why.Refused s)
    (λ _. session_row s (next_session s) phase.Poll Answer (event.Refused n) m refl refl refl refl refl (λ o. absurd (cc)))
    (λ _. plain s (enter_stop why.Refused s) phase.Poll (event.Refused n) m refl refl refl refl (same_agrees s.run) (λ o. absurd (cc)))
poll_row s e m = tt

claim_row : (s : BotState) (e : BotEvent) (m : ℕ) → IfSome (after_claim s e) (Row s phase.Claim Answer e m)
claim_row s (event.ClaimRun x i r t) m = record {
  session = omega arith;
  claim = λ h. omega arith;
  fresh = λ h n. absurd (cc);
  first = λ h n. absurd (cc);
  opens = λ h k n. refl;
  starts = λ n. absurd (cc);
  stays = λ o. absurd (cc);
  opened = λ h. refl;
  quiet = λ h k. refl;
  order = λ h g a. none_in_order r;
  agrees = λ h g a k. new_agrees r;
}
claim_row s event.ClaimSkip m = plain s (enter phase.Poll s) phase.Claim event.ClaimSkip m refl refl refl refl (same_agrees s.run) (λ o. absurd (cc))
claim_row s (event.Refused n) m =
    if_row s phase.Claim Answer (event.Refused n) m (needs_new_session (code_numbered n)) (next_session s) _
    (λ _. session_row s (next_session s) phase.Claim Answer (event.Refused n) m refl refl refl refl refl (λ o. absurd (cc)))
    (λ _. if_row s phase.Claim Answer (event.Refused n) m (is_claim_over (code_numbered n)) (enter phase.Poll s) (enter_stop why.Refused s)
    (λ _. plain s (enter phase.Poll s) phase.Claim (event.Refused n) m refl refl refl refl (same_agrees s.run) (λ o. absurd (cc)))
    (λ _. plain s (enter_stop why.Refused s) phase.Claim (event.Refused n) m refl refl refl refl (same_agrees s.run) (λ o. absurd (cc))))
claim_row s e m = tt

prepare_row : (s : BotState) (e : BotEvent) (m : ℕ) → IfSome (after_prepare s e) (Row s phase.Prepare Answer e m)
prepare_row s event.Prepared m = record {
  session = omega arith;
  claim = λ h. omega arith;
  fresh = λ h n. absurd (cc);
  first = λ h n. absurd (cc);
  opens = λ h k n. absurd (cc);
  starts = λ n. (refl, refl, refl, refl);
  stays = λ o c. refl;
  opened = λ h. absurd (cc);
  quiet = λ h k. refl;
  order = λ h g a. a.order;
  agrees = λ h g a k. a;
}
prepare_row s event.RunnerFailed m = plain s (fail_start s) phase.Prepare event.RunnerFailed m refl refl refl refl (same_agrees s.run) (λ o c. refl)
prepare_row s e m = tt

start_row : (s : BotState) (e : BotEvent) (m : ℕ) → IfSome (after_start s e m) (Row s phase.Start Answer e m)
start_row s event.Started m = plain s _ phase.Start event.Started m refl refl refl refl (same_agrees s.run) (λ o c. refl)
start_row s event.RunnerFailed m = plain s (fail_start s) phase.Start event.RunnerFailed m refl refl refl refl (same_agrees s.run) (λ o c. refl)
start_row s e m = tt

-- the command runs on, with a run that has the same signals
module _ (s s2 : BotState) (e : BotEvent) (m : ℕ) (e1 : s2.session ≡ s.session) (e2 : s2.claim ≡ s.claim) (c : is_claim_run e ≡ false) (f : (g : Signals) → RunAgrees s.run g → RunAgrees s2.run g) where
  abbrev R : BotState → Type 0
  R t = Row s phase.Look Answer e m t

  signal_row_of : (t : BotState) → t.session ≡ s.session → t.claim ≡ s.claim → t.awaited ≡ Answer → is_signal t.phase ≡ true →
      ((g : Signals) → RunAgrees s2.run g → RunAgrees t.run (logged t.phase t.awaited m g)) → names_id t.phase t.awaited ≡ false → names_session t.phase ≡ false → is_open t.phase t.awaited ≡ false → is_starting t.phase t.awaited ≡ false →
      asks t.phase t.awaited ≡ false → R t
  signal_row_of t t1 t2 w q h n n2 n3 n4 k =
      let all : (g : Signals) → RunAgrees s.run g → RunAgrees t.run (logged t.phase t.awaited m (signals_at_event e g)) =
      λ g a. subst (λ (x : Signals). RunAgrees t.run (logged t.phase t.awaited m x)) (sym (same_at_event e g c)) (h g (f g a)) in
      record {
        session = omega (arith, t1);
        claim = λ h. omega (arith, t2);
        fresh = λ h i. absurd (cc);
        first = λ h i. absurd (cc);
        opens = λ h i z. absurd (cc);
        starts = λ z. absurd (cc);
        stays = λ o i. k;
        opened = λ h. k;
        quiet = λ h i. absurd (let z : is_slept t.awaited ≡ false = ap is_slept w in cc);
        order = λ h g a. (all g a).order;
        agrees = λ h g a i. all g a;
      }

  send_or_sleep_row : R (send_or_sleep m s2)
  send_or_sleep_row =
      if_row s phase.Look Answer e m (not s2.run.abandoned && (nat_lt 0 s2.run.pending || has_passed s2.run.last_send (s2.run.tolerance / 4) m)) (enter phase.Send s2) (enter_sleep 1 phase.Look s2)
      (λ _. plain s (enter phase.Send s2) phase.Look e m e1 e2 c refl f (λ o i. refl))
      (λ _. plain s (enter_sleep 1 phase.Look s2) phase.Look e m e1 e2 c refl f (λ o i. refl))

  term_row : is_some s2.run.term ≡ false → (h i : Bool) →
      R (record s2 { run = record s2.run { term = Some m; hard_timeout = h; io_timeout = i }; phase = phase.Signal Term; awaited = Answer })
  term_row none h i = signal_row_of _ e1 e2 refl refl (λ g a. term_agrees s2.run.grace s2.run.term s2.run.killed m g none a) refl refl refl refl refl

  kill_row : (not s2.run.killed && is_grace_over s2.run.grace s2.run.term m) ≡ true → R (signal_kill s2)
  kill_row over = signal_row_of (signal_kill s2) e1 e2 refl refl (λ g a. kill_agrees s2.run.grace s2.run.term s2.run.killed m g over a) refl refl refl refl refl

  continue_run_row : R (continue_run m s2)
  continue_run_row =
      if_row s phase.Look Answer e m (is_some s2.run.term) _ _
      (λ _. if_row s phase.Look Answer e m (not s2.run.killed && is_grace_over s2.run.grace s2.run.term m) (signal_kill s2) (send_or_sleep m s2) kill_row (λ _. send_or_sleep_row))
      (λ none. if_row s phase.Look Answer e m s2.run.stop _ _ (λ _. term_row none s2.run.hard_timeout s2.run.io_timeout)
      (λ _. if_row s phase.Look Answer e m (is_reached s2.run.started s2.run.execution m) _ _ (λ _. term_row none true s2.run.io_timeout)
      (λ _. if_row s phase.Look Answer e m (is_reached s2.run.last_output s2.run.io m) _ _ (λ _. term_row none s2.run.hard_timeout true) (λ _. send_or_sleep_row))))

end_row : (s : BotState) (e : BotEvent) (code : ℤ) (m : ℕ) (b : Bool) → is_claim_run e ≡ false → Row s phase.Look Answer e m (enter (if b then phase.CleanUp else phase.Upload) (with_run (end_run code m) s))
end_row s e code m true c = plain s _ phase.Look e m refl refl c refl (same_agrees s.run) (λ o i. refl)
end_row s e code m false c = plain s _ phase.Look e m refl refl c refl (same_agrees s.run) (λ o i. refl)

add_agrees : (size m : ℕ) (r : Run) (b : Bool) (g : Signals) → RunAgrees r g →
    RunAgrees (if b then record r { last_output = m; dropped = r.dropped + size; dropping = true } else record r { last_output = m; pending = r.pending + size }) g
add_agrees size m r true g a = a
add_agrees size m r false g a = a

some_row : (s : BotState) (p : Phase) (a : Awaited) (e : BotEvent) (m : ℕ) (c : Bool) (x y : Option BotState) → (c ≡ true → IfSome x (Row s p a e m)) → IfSome y (Row s p a e m) → IfSome (if c then x else y) (Row s p a e m)
some_row s p a e m true x y f g = f refl
some_row s p a e m false x y f g = g

look_row : (s : BotState) (e : BotEvent) (m : ℕ) → IfSome (after_look s e m) (Row s phase.Look Answer e m)
look_row s (event.Output size) m =
    some_row s phase.Look Answer (event.Output size) m (nat_le 1 size && nat_le size (most_pending - s.run.pending)) (Some (continue_run m (with_run (add_output size m) s))) None
    (λ _. continue_run_row s (with_run (add_output size m) s) (event.Output size) m refl refl refl (add_agrees size m s.run (is_dropped size s.run))) tt
look_row s event.Quiet m = continue_run_row s s event.Quiet m refl refl refl (same_agrees s.run)
look_row s (event.Ended code) m = end_row s (event.Ended code) code m s.run.abandoned refl
look_row s event.RunnerFailed m = end_row s event.RunnerFailed (negsuc 0) m s.run.abandoned refl
look_row s e m = tt

signal_row : (s : BotState) (p : Phase) (e : BotEvent) (m : ℕ) → IfSome (after_signal s e) (Row s p Answer e m)
signal_row s p event.Signalled m = plain s (enter phase.Look s) p event.Signalled m refl refl refl refl (same_agrees s.run) (λ o i. refl)
signal_row s p event.RunnerFailed m = plain s (enter phase.Look s) p event.RunnerFailed m refl refl refl refl (same_agrees s.run) (λ o i. refl)
signal_row s p e m = tt

refusal_agrees : (r : Run) (b c : Bool) (g : Signals) → RunAgrees r g → RunAgrees (if b then drop_output r else if c then abandon_run r else record (abandon_run r) { refused = true }) g
refusal_agrees r true c g a = a
refusal_agrees r false true g a = a
refusal_agrees r false false g a = a

send_row : (s : BotState) (e : BotEvent) (m : ℕ) → IfSome (after_send s e) (Row s phase.Send Answer e m)
send_row s (event.SendOk must_stop) m = plain s _ phase.Send (event.SendOk must_stop) m refl refl refl refl (same_agrees s.run) (λ o i. refl)
send_row s (event.Refused n) m = plain s (enter phase.Look (with_run (apply_refusal (code_numbered n)) s)) phase.Send (event.Refused n) m refl refl refl refl (refusal_agrees s.run (is_store_full (code_numbered n)) (abandons_run (code_numbered n))) (λ o i. refl)
send_row s e m = tt

upload_row : (s : BotState) (e : BotEvent) (m : ℕ) → IfSome (after_upload s e) (Row s phase.Upload Answer e m)
upload_row s event.Uploaded m = plain s (enter phase.LastSend s) phase.Upload event.Uploaded m refl refl refl refl (same_agrees s.run) (λ o i. refl)
upload_row s (event.Refused n) m =
    if_row s phase.Upload Answer (event.Refused n) m (is_store_full (code_numbered n)) (enter phase.LastSend s) (enter_stop why.Refused s)
    (λ _. plain s (enter phase.LastSend s) phase.Upload (event.Refused n) m refl refl refl refl (same_agrees s.run) (λ o i. refl))
    (λ _. plain s (enter_stop why.Refused s) phase.Upload (event.Refused n) m refl refl refl refl (same_agrees s.run) (λ o i. refl))
upload_row s e m = tt

last_send_row : (s : BotState) (e : BotEvent) (m : ℕ) → IfSome (after_last_send s e) (Row s phase.LastSend Answer e m)
last_send_row s (event.SendOk must_stop) m = plain s (enter phase.CleanUp s) phase.LastSend (event.SendOk must_stop) m refl refl refl refl (same_agrees s.run) (λ o i. refl)
last_send_row s (event.Refused n) m =
    if_row s phase.LastSend Answer (event.Refused n) m (is_store_full (code_numbered n)) (enter phase.LastSend (with_run drop_output s)) _
    (λ _. plain s (enter phase.LastSend (with_run drop_output s)) phase.LastSend (event.Refused n) m refl refl refl refl (same_agrees s.run) (λ o i. refl))
    (λ _. if_row s phase.LastSend Answer (event.Refused n) m (abandons_run (code_numbered n)) (enter phase.CleanUp (with_run abandon_run s)) (enter_stop why.Refused s)
    (λ _. plain s (enter phase.CleanUp (with_run abandon_run s)) phase.LastSend (event.Refused n) m refl refl refl refl (same_agrees s.run) (λ o i. refl))
    (λ _. plain s (enter_stop why.Refused s) phase.LastSend (event.Refused n) m refl refl refl refl (same_agrees s.run) (λ o i. refl)))
last_send_row s e m = tt

end_task_row : (s : BotState) (e : BotEvent) (m : ℕ) → is_claim_run e ≡ false → Row s phase.CleanUp Answer e m (end_task s)
end_task_row s e m c =
    let t : BotState = record s { tasks = s.tasks + 1 } in
    if_row s phase.CleanUp Answer e m s.run.refused (enter_stop why.Refused t) _ (λ _. plain s (enter_stop why.Refused t) phase.CleanUp e m refl refl c refl (same_agrees s.run) (λ o i. absurd (cc)))
    (λ _. if_row s phase.CleanUp Answer e m (nat_le s.limits.tasks (s.tasks + 1)) (enter_stop why.Tasks t) _ (λ _. plain s (enter_stop why.Tasks t) phase.CleanUp e m refl refl c refl (same_agrees s.run) (λ o i. absurd (cc)))
    (λ _. if_row s phase.CleanUp Answer e m s.run.abandoned (next_session t) (enter phase.Poll t)
    (λ _. session_row s (next_session t) phase.CleanUp Answer e m refl refl refl refl c (λ o i. absurd (cc)))
    (λ _. plain s (enter phase.Poll t) phase.CleanUp e m refl refl c refl (same_agrees s.run) (λ o i. absurd (cc)))))

clean_up_row : (s : BotState) (e : BotEvent) (m : ℕ) → IfSome (after_clean_up s e) (Row s phase.CleanUp Answer e m)
clean_up_row s event.Cleaned m = end_task_row s event.Cleaned m refl
clean_up_row s event.RunnerFailed m = end_task_row s event.RunnerFailed m refl
clean_up_row s e m = tt

answer_row : (s : BotState) (p : Phase) (e : BotEvent) (m : ℕ) → IfSome (after_answer s p e m) (Row s p Answer e m)
answer_row s phase.Handshake e m = handshake_row s e m
answer_row s phase.Poll e m = poll_row s e m
answer_row s phase.Claim e m = claim_row s e m
answer_row s phase.Prepare e m = prepare_row s e m
answer_row s phase.Start e m = start_row s e m
answer_row s phase.Look e m = look_row s e m
answer_row s (phase.Signal signal) e m = signal_row s (phase.Signal signal) e m
answer_row s phase.Send e m = send_row s e m
answer_row s phase.LastSend e m = last_send_row s e m
answer_row s phase.Upload e m = upload_row s e m
answer_row s phase.CleanUp e m = clean_up_row s e m
answer_row s (phase.Stop why) e m = tt

begin_row : (s : BotState) (p : Phase) (e : BotEvent) (m : ℕ) → IfSome (after_begin s e m) (Row s p Begin e m)
begin_row s p event.Begin m = session_row s (next_session (record s { first = m })) p Begin event.Begin m refl refl refl refl refl (λ o. absurd (cc))
begin_row s p e m = tt

asks_awake : (p : Phase) (secs : ℕ) → asks p (Slept secs) ≡ asks p Answer
asks_awake phase.Handshake secs = refl
asks_awake phase.Poll secs = refl
asks_awake phase.Claim secs = refl
asks_awake p secs = refl

wake_opens : (p : Phase) (secs : ℕ) → is_open p Answer ≡ true → is_open p (Slept secs) ≡ true
wake_opens phase.Claim secs h = refl
wake_opens phase.Prepare secs h = refl
wake_opens p secs h = absurd (cc)

wake_starts : (p : Phase) (secs : ℕ) → is_starting p Answer ≡ true → (is_open p (Slept secs) ≡ true) × (is_open p Answer ≡ false)
wake_starts phase.Start secs h = (refl, refl)
wake_starts p secs h = absurd (cc)

sleep_row : (s : BotState) (p : Phase) (e : BotEvent) (m secs : ℕ) → s.phase ≡ p → IfSome (after_sleep s e) (Row s p (Slept secs) e m)
sleep_row s p event.Slept m secs is = record {
  session = omega arith;
  claim = λ h. omega arith;
  fresh = λ h. absurd (cc);
  first = λ h n. h (sym (ap names_session is) ∙ n);
  opens = λ h k n. wake_opens p secs (sym (ap (λ q. is_open q Answer) is) ∙ n);
  starts = λ n.
      let z : (is_open p (Slept secs) ≡ true) × (is_open p Answer ≡ false) = wake_starts p secs (sym (ap (λ q. is_starting q Answer) is) ∙ n) in
      (z.0, refl, refl, ap (λ q. is_open q Answer) is ∙ z.1);
  stays = λ o i. ap (λ q. asks q Answer) is ∙ sym (asks_awake p secs) ∙ o;
  opened = λ h. absurd (cc);
  quiet = λ h k. absurd (cc);
  order = λ h g a. (silent_row s (enter s.phase s) event.Slept m refl (ap is_signal is ∙ h refl) (same_agrees s.run) g a).order;
  agrees = λ h g a k. silent_row s (enter s.phase s) event.Slept m refl (ap is_signal is ∙ h refl) (same_agrees s.run) g a;
}
sleep_row s p e m secs is = tt

asked_signals : (p : Phase) (b : Bool) → (sends_request p && b) ≡ true → is_signal p ≡ false
asked_signals (phase.Signal signal) b h = absurd (cc)
asked_signals p b h = refl

and_false : (x b : Bool) → (x && b) ≡ true → b ≡ false → ⊥
and_false true b h k = cc
and_false false b h k = cc

transient_is_no_run : (x : Bool) (e : BotEvent) → (x && is_transient e) ≡ true → is_claim_run e ≡ false
transient_is_no_run x (event.ClaimRun a b c d) h = absurd (and_false x false h refl)
transient_is_no_run x e h = refl

lost_opens : (p : Phase) (b : Bool) → (sends_request p && b) ≡ true → is_open p (Slept 5) ≡ true → is_open p Answer ≡ true
lost_opens phase.Claim b h k = refl
lost_opens phase.Prepare b h k = refl
lost_opens phase.Start b h k = absurd (cc)
lost_opens p b h k = absurd (cc)

sleep_starts : (p : Phase) (secs : ℕ) → is_starting p (Slept secs) ≡ false
sleep_starts phase.Start secs = refl
sleep_starts p secs = refl

transient_row : (s : BotState) (p : Phase) (e : BotEvent) (m : ℕ) → s.phase ≡ p → (sends_request p && is_transient e) ≡ true → Row s p Answer e m (enter_sleep 5 p s)
transient_row s p e m is h =
    let c : is_claim_run e ≡ false = transient_is_no_run (sends_request p) e h in
    let q : is_signal p ≡ false = asked_signals p (is_transient e) h in
    record {
      session = omega arith;
      claim = λ h. omega arith;
      fresh = λ h n. absurd (cc);
      first = λ h n. h n;
      opens = λ i k n. lost_opens p (is_transient e) h n;
      starts = λ n. absurd (let z : is_starting p (Slept 5) ≡ false = sleep_starts p 5 in cc);
      stays = λ o i. asks_awake p 5 ∙ o;
      opened = λ h. absurd (cc);
      quiet = λ h k. q;
      order = λ h g a. (silent_row s (enter_sleep 5 p s) e m c q (same_agrees s.run) g a).order;
      agrees = λ h g a k. silent_row s (enter_sleep 5 p s) e m c q (same_agrees s.run) g a;
    }

event_row : (s : BotState) (a : Awaited) (e : BotEvent) (m : ℕ) → IfSome (after_event s a e m) (Row s s.phase a e m)
event_row s Begin e m = begin_row s s.phase e m
event_row s (Slept secs) e m = sleep_row s s.phase e m secs refl
event_row s Answer e m =
    some_row s s.phase Answer e m (sends_request s.phase && is_transient e) (Some (enter_sleep 5 s.phase s)) (after_answer s s.phase e m)
    (λ h. transient_row s s.phase e m refl h) (answer_row s s.phase e m)

next_row : (s : BotState) (e : BotEvent) (m : ℕ) (c : Bool) → IfSome (if c then None else after_event s s.awaited e m) (Row s s.phase s.awaited e m)
next_row s e m true = tt
next_row s e m false = event_row s s.awaited e m

-- ---- the limits

stop_row : (s : BotState) (p : Phase) (a : Awaited) (e : BotEvent) (m : ℕ) (t : BotState) (w : StopWhy) → Row s p a e m t → Row s p a e m (enter_stop w t)
stop_row s p a e m t w r = record {
  session = r.session;
  claim = r.claim;
  fresh = λ h n. absurd (cc);
  first = λ h n. absurd (cc);
  opens = λ h k n. absurd (cc);
  starts = λ n. absurd (cc);
  stays = λ o i. refl;
  opened = λ h. refl;
  quiet = λ h k. refl;
  order = λ h g x. order_at_event e g x.order;
  agrees = λ h g x k. absurd (cc);
}

moved_row : (s : BotState) (p : Phase) (a : Awaited) (e : BotEvent) (m : ℕ) (t : BotState) (polls steps last : ℕ) → Row s p a e m t →
    Row s p a e m (record t { polls = polls; steps = steps; run = record t.run { last_send = last } })
moved_row s p a e m t polls steps last r = record {
  session = r.session;
  claim = r.claim;
  fresh = r.fresh;
  first = r.first;
  opens = r.opens;
  starts = r.starts;
  stays = r.stays;
  opened = r.opened;
  quiet = r.quiet;
  order = r.order;
  agrees = r.agrees;
}

record_row : (s : BotState) (p : Phase) (a : Awaited) (e : BotEvent) (m : ℕ) (t : BotState) (x : Action) → Row s p a e m t → Row s p a e m (record_action x m t)
record_row s p a e m t action.Poll r =
    if_row s p a e m (nat_le t.limits.polls t.polls) (enter_stop why.Polls t) (record t { polls = t.polls + 1 }) (λ _. stop_row s p a e m t why.Polls r) (λ _. moved_row s p a e m t (t.polls + 1) t.steps t.run.last_send r)
record_row s p a e m t (action.Send start size last) r = moved_row s p a e m t t.polls t.steps m r
record_row s p a e m t x r = r

issue_row : (s : BotState) (p : Phase) (a : Awaited) (e : BotEvent) (m : ℕ) (t : BotState) → Row s p a e m t → Row s p a e m (issue_action m t)
issue_row s p a e m t r =
    let u : BotState = record_action (action_of t) m t in
    let k : Row s p a e m u = record_row s p a e m t (action_of t) r in
    if_row s p a e m (nat_le u.limits.steps u.steps) (enter_stop why.Steps u) (record u { steps = u.steps + 1 }) (λ _. stop_row s p a e m u why.Steps k) (λ _. moved_row s p a e m u u.polls (u.steps + 1) u.run.last_send k)

issued_row : (s : BotState) (e : BotEvent) (m : ℕ) (o : Option BotState) → IfSome o (Row s s.phase s.awaited e m) → IfSome (option_map (issue_action m) o) (Row s s.phase s.awaited e m)
issued_row s e m None h = tt
issued_row s e m (Some t) h = issue_row s s.phase s.awaited e m t h

-- each step is a row
pub stepped_row : (s : BotState) (e : BotEvent) (m : ℕ) → IfSome (stepped s e m) (Row s s.phase s.awaited e m)
stepped_row s e m = issued_row s e m (next_state s e m) (next_row s e m (is_stop s.phase))

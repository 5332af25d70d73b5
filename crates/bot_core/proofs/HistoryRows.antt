-- What each row of the table does to what is known of the run.
use Rattle.std.proofs.Common.{◌≡◌, ℕ, ◌+◌, ◌-◌, ◌/◌, ◌≤◌, Bool, true, false, not, ◌&&◌, ◌||◌, ◌==◌, if◌then◌else◌, nat_le, nat_lt, Option, Some, None, is_some, IfSome, ℤ, negsuc, refl, ap, sym, ◌∙◌, subst, arith}
use Rattle.std.proofs.lemmas.Bool.Decides.{nat_tests}
use Rattle.std.specs.Option.{option_map_or}
use Rattle.refusal_codes.specs.Codes.{code_numbered, is_transient_code}
use Rattle.bot_core.specs.Types.{Run, Term, Action, BotEvent, BotState, Phase, Awaited, Begin, Answer, Slept}
use Rattle.bot_core.specs.declared.action.StopWhy.TheVariants as why
use Rattle.bot_core.specs.declared.action.Action.TheVariants as action
use Rattle.bot_core.specs.declared.bot_event.BotEvent.TheVariants as event
use Rattle.bot_core.specs.declared.bot_state.Phase.TheVariants as phase
use Rattle.bot_core.specs.RunChanges.{most_pending, drop_output, abandon_run, add_output, is_dropped, end_run, has_passed, is_reached, is_grace_over}
use Rattle.bot_core.specs.Table.{enter, enter_stop, enter_sleep, next_session, next_claim, with_run, is_stop, sends_request, is_transient, needs_new_session, is_claim_over, is_store_full, abandons_run, fail_start, apply_refusal, signal_kill, send_or_sleep, continue_run, end_task, after_handshake, after_poll, after_claim, after_prepare, after_start, after_look, after_signal, after_send, after_upload, after_refused_end, after_last_send, after_clean_up, after_answer, after_begin, after_sleep, after_event, next_state, phase_action, awaited_action, action_of}
use Rattle.bot_core.specs.Histories.{TermSent, History, is_for_good, heard, done}
use Rattle.bot_core.specs.RunLaws.{finds_running, asks_for_end, is_look, reports_or_signals}
use Rattle.bot_core.proofs.RowParts.{is_signal, is_slept, Quiet}

-- ---- a run agrees with what is known of it

abbrev pub for_time : ℕ → Option TermSent → Bool
for_time execution None = false
for_time execution (Some t) = not t.asked && is_reached t.started execution t.moment

abbrev pub for_silence : ℕ → ℕ → Option TermSent → Bool
for_silence execution io None = false
for_silence execution io (Some t) = not t.asked && (not (is_reached t.started execution t.moment) && is_reached t.last_output io t.moment)

-- what both tell
pub record View : Type 0 where
  pub execution : ℕ
  pub io : ℕ
  pub tolerance : ℕ
  pub started : ℕ
  pub last_output : ℕ
  pub last_send : ℕ
  pub asked : Bool
  pub refused : Bool
  pub termed : Bool
  pub hard : Bool
  pub silent : Bool

abbrev pub run_view : Run → View
run_view r =
    record {
      execution = r.execution;
      io = r.io;
      tolerance = r.tolerance;
      started = r.started;
      last_output = r.last_output;
      last_send = r.last_send;
      asked = r.stop;
      refused = r.abandoned;
      termed = is_some r.term;
      hard = r.hard_timeout;
      silent = r.io_timeout;
    }

abbrev pub view_of : History → View
view_of h =
    record {
      execution = h.execution;
      io = h.io;
      tolerance = h.tolerance;
      started = h.started;
      last_output = h.last_output;
      last_send = h.last_send;
      asked = h.asked;
      refused = h.refused;
      termed = is_some h.term;
      hard = for_time h.execution h.term;
      silent = for_silence h.execution h.io h.term;
    }

abbrev pub Agrees : Run → History → Type 0
Agrees r h = run_view r ≡ view_of h

-- what is known with a Term that is chosen, and without an update that is
abbrev pub logged : Action → ℕ → History → History
logged (action.Signal Term) m h = done (action.Signal Term) m h
logged a m h = h

abbrev pub Kept : ℕ → History → BotState → Type 0
Kept m h t = Agrees t.run (logged (action_of t) m h)

-- ---- a row

pub record Stays (s t : BotState) : Type 0 where
  pub tasks : t.tasks ≡ s.tasks
  pub steps : t.steps ≡ s.steps
  pub limits : t.limits ≡ s.limits

-- from a state with this action by an event, with what is known then
pub record Row (s : BotState) (x : Action) (e : BotEvent) (m : ℕ) (h : History) (t : BotState) : Type 0 where
  pub limits : t.limits ≡ s.limits
  pub kept : is_stop t.phase ≡ false → Kept m h t
  pub looks : asks_for_end e x ≡ true → (is_look (action_of t) ≡ true) × Stays s t
  pub terminates : finds_running e ≡ true → h.asked ≡ true → h.term ≡ None → (action_of t ≡ action.Signal Term) × Stays s t
  pub reports : finds_running e ≡ true → h.refused ≡ false → h.last_send + h.tolerance / 4 ≤ m → (reports_or_signals (action_of t) ≡ true) × Stays s t

if_row : (s : BotState) (x : Action) (e : BotEvent) (m : ℕ) (h : History) (c : Bool) (t u : BotState) → (c ≡ true → Row s x e m h t) → (c ≡ false → Row s x e m h u) → Row s x e m h (if c then t else u)
if_row s x e m h true t u f g = f refl
if_row s x e m h false t u f g = g refl

some_row : (s : BotState) (x : Action) (e : BotEvent) (m : ℕ) (h : History) (c : Bool) (t u : Option BotState) → (c ≡ true → IfSome t (Row s x e m h)) → IfSome u (Row s x e m h) → IfSome (if c then t else u) (Row s x e m h)
some_row s x e m h true t u f g = f refl
some_row s x e m h false t u f g = g

-- nothing is asked for, and the event is no look
plain : (s t : BotState) (x : Action) (e : BotEvent) (m : ℕ) (h : History) → asks_for_end e x ≡ false → finds_running e ≡ false → t.limits ≡ s.limits → Kept m h t → Row s x e m h t
plain s t x e m h a b l k = record { limits = l; kept = λ _. k; looks = λ i. absurd (cc); terminates = λ i. absurd (cc); reports = λ i. absurd (cc) }

-- ---- the rows outside of a look

handshake_row : (s : BotState) (e : BotEvent) (m : ℕ) (h : History) → Agrees s.run h → IfSome (after_handshake s e) (Row s (phase_action s phase.Handshake) e m (heard (phase_action s phase.Handshake) e m h))
handshake_row s event.HandshakeOk m h g = plain s _ _ event.HandshakeOk m h refl refl refl g
handshake_row s (event.Refused n) m h g = plain s _ _ (event.Refused n) m h refl refl refl g
handshake_row s e m h g = tt

poll_row : (s : BotState) (e : BotEvent) (m : ℕ) (h : History) → Agrees s.run h → IfSome (after_poll s e) (Row s action.Poll e m (heard action.Poll e m h))
poll_row s (event.PollSleep secs) m h g = plain s _ _ (event.PollSleep secs) m h refl refl refl g
poll_row s event.PollClaim m h g = plain s _ _ event.PollClaim m h refl refl refl g
poll_row s event.PollTerminate m h g = plain s _ _ event.PollTerminate m h refl refl refl g
poll_row s (event.Refused n) m h g =
    if_row s action.Poll (event.Refused n) m h (needs_new_session (code_numbered n)) (next_session s) (enter_stop why.Refused s)
    (λ _. plain s _ _ (event.Refused n) m h refl refl refl g) (λ _. plain s _ _ (event.Refused n) m h refl refl refl g)
poll_row s e m h g = tt

claim_row : (s : BotState) (e : BotEvent) (m : ℕ) (h : History) → Agrees s.run h → IfSome (after_claim s e) (Row s (phase_action s phase.Claim) e m (heard (phase_action s phase.Claim) e m h))
claim_row s (event.ClaimRun x i r t) m h g = plain s _ _ (event.ClaimRun x i r t) m _ refl refl refl refl
claim_row s event.ClaimSkip m h g = plain s _ _ event.ClaimSkip m h refl refl refl g
claim_row s (event.Refused n) m h g =
    if_row s (phase_action s phase.Claim) (event.Refused n) m h (needs_new_session (code_numbered n)) (next_session s) _ (λ _. plain s _ _ (event.Refused n) m h refl refl refl g)
    (λ _. if_row s (phase_action s phase.Claim) (event.Refused n) m h (is_claim_over (code_numbered n)) (enter phase.Poll s) (enter_stop why.Refused s)
    (λ _. plain s _ _ (event.Refused n) m h refl refl refl g) (λ _. plain s _ _ (event.Refused n) m h refl refl refl g))
claim_row s e m h g = tt

prepare_row : (s : BotState) (e : BotEvent) (m : ℕ) (h : History) → Agrees s.run h → IfSome (after_prepare s e) (Row s action.Prepare e m (heard action.Prepare e m h))
prepare_row s event.Prepared m h g = plain s _ _ event.Prepared m h refl refl refl g
prepare_row s event.RunnerFailed m h g = plain s _ _ event.RunnerFailed m h refl refl refl g
prepare_row s e m h g = tt

start_row : (s : BotState) (e : BotEvent) (m : ℕ) (h : History) → Agrees s.run h → IfSome (after_start s e m) (Row s action.Start e m (heard action.Start e m h))
start_row s event.Started m h g = plain s _ _ event.Started m _ refl refl refl (ap (λ (v : View). record v { started = m; last_output = m; last_send = m }) g)
start_row s event.RunnerFailed m h g = plain s _ _ event.RunnerFailed m h refl refl refl g
start_row s e m h g = tt

signal_row : (s : BotState) (e : BotEvent) (m : ℕ) (h : History) (x : Action) → Agrees s.run h → IfSome (after_signal s e) (Row s x e m (heard x e m h))
signal_row s event.Signalled m h x g = plain s _ x event.Signalled m h refl refl refl g
signal_row s event.RunnerFailed m h x g = plain s _ x event.RunnerFailed m h refl refl refl g
signal_row s e m h x g = tt

-- an update was refused, and doesn't come again as it was
refused_agrees : (r : Run) (h : History) (b : Bool) (x : Run) → run_view x ≡ record (run_view r) { asked = true; refused = true } → Agrees r h → Agrees (if b then drop_output r else x) (if not b then record h { asked = true; refused = true } else h)
refused_agrees r h true x k g = g
refused_agrees r h false x k g = k ∙ ap (λ (v : View). record v { asked = true; refused = true }) g

good_refusal : (t f : Bool) → t ≡ false → (not t && not f) ≡ not f
good_refusal true f h = absurd (cc)
good_refusal false f h = refl

refused_at : (n : ℕ) (h : History) (r2 : Run) → is_transient (event.Refused n) ≡ false →
    Agrees r2 (if not (is_store_full (code_numbered n)) then record h { asked = true; refused = true } else h) → Agrees r2 (if is_for_good n then record h { asked = true; refused = true } else h)
refused_at n h r2 q g =
    subst (λ (b : Bool). Agrees r2 (if b then record h { asked = true; refused = true } else h)) (sym (good_refusal (is_transient (event.Refused n)) (is_store_full (code_numbered n)) q)) g

abandoned_view : (r : Run) (c : Bool) → run_view (if c then abandon_run r else record (abandon_run r) { refused = true }) ≡ record (run_view r) { asked = true; refused = true }
abandoned_view r true = refl
abandoned_view r false = refl

send_row : (s : BotState) (e : BotEvent) (m : ℕ) (h : History) → is_transient e ≡ false → Agrees s.run h → IfSome (after_send s e) (Row s (phase_action s phase.Send) e m (heard (phase_action s phase.Send) e m h))
send_row s (event.SendOk must_stop) m h q g = record {
  limits = refl;
  kept = λ _. ap (λ (v : View). record v { asked = v.asked || must_stop }) g;
  looks = λ i. (refl, record { tasks = refl; steps = refl; limits = refl });
  terminates = λ i. absurd (cc);
  reports = λ i. absurd (cc);
}
send_row s (event.Refused n) m h q g =
    plain s (enter phase.Look (with_run (apply_refusal (code_numbered n)) s)) _ (event.Refused n) m _ refl refl refl
    (refused_at n h (apply_refusal (code_numbered n) s.run) q
    (refused_agrees s.run h (is_store_full (code_numbered n)) _ (abandoned_view s.run (abandons_run (code_numbered n))) g))
send_row s e m h q g = tt

upload_row : (s : BotState) (e : BotEvent) (m : ℕ) (h : History) → Agrees s.run h → IfSome (after_upload s e) (Row s action.Upload e m (heard action.Upload e m h))
upload_row s event.Uploaded m h g = plain s _ _ event.Uploaded m h refl refl refl g
upload_row s (event.Refused n) m h g =
    if_row s action.Upload (event.Refused n) m h (is_store_full (code_numbered n)) (enter phase.LastSend s) (enter_stop why.Refused s)
    (λ _. plain s _ _ (event.Refused n) m h refl refl refl g) (λ _. plain s _ _ (event.Refused n) m h refl refl refl g)
upload_row s e m h g = tt

-- the bot stops
stops : (s t : BotState) (x : Action) (e : BotEvent) (m : ℕ) (h : History) → asks_for_end e x ≡ false → finds_running e ≡ false → t.limits ≡ s.limits → is_stop t.phase ≡ true → Row s x e m h t
stops s t x e m h a b l k = record { limits = l; kept = λ i. absurd (cc); looks = λ i. absurd (cc); terminates = λ i. absurd (cc); reports = λ i. absurd (cc) }

last_send_row : (s : BotState) (e : BotEvent) (m : ℕ) (h : History) → is_transient e ≡ false → Agrees s.run h → IfSome (after_last_send s e) (Row s (phase_action s phase.LastSend) e m (heard (phase_action s phase.LastSend) e m h))
last_send_row s (event.SendOk must_stop) m h q g = plain s _ _ (event.SendOk must_stop) m h (ends must_stop) refl refl g
  where
    ends : (b : Bool) → asks_for_end (event.SendOk b) (phase_action s phase.LastSend) ≡ false
    ends true = refl
    ends false = refl
last_send_row s (event.Refused n) m h q g =
    subst (λ (b : Bool). Row s (phase_action s phase.LastSend) (event.Refused n) m (if b then record h { asked = true; refused = true } else h) (after_refused_end s (code_numbered n)))
    (sym (good_refusal (is_transient (event.Refused n)) (is_store_full (code_numbered n)) q)) (refused_row (is_store_full (code_numbered n)) (abandons_run (code_numbered n)))
  where
    refused_row : (b c : Bool) → Row s (phase_action s phase.LastSend) (event.Refused n) m (if not b then record h { asked = true; refused = true } else h)
        (if b then enter phase.LastSend (with_run drop_output s) else if c then enter phase.CleanUp (with_run abandon_run s) else enter_stop why.Refused s)
    refused_row true c = plain s _ _ (event.Refused n) m h refl refl refl g
    refused_row false true = plain s _ _ (event.Refused n) m _ refl refl refl (ap (λ (v : View). record v { asked = true; refused = true }) g)
    refused_row false false = stops s _ _ (event.Refused n) m _ refl refl refl refl
last_send_row s e m h q g = tt

end_task_row : (s : BotState) (e : BotEvent) (m : ℕ) (h : History) → asks_for_end e action.CleanUp ≡ false → finds_running e ≡ false → Agrees s.run h → Row s action.CleanUp e m h (end_task s)
end_task_row s e m h a b g =
    let t : BotState = record s { tasks = s.tasks + 1 } in
    if_row s action.CleanUp e m h s.run.refused (enter_stop why.Refused t) _ (λ _. plain s _ _ e m h a b refl g)
    (λ _. if_row s action.CleanUp e m h (nat_le s.limits.tasks (s.tasks + 1)) (enter_stop why.Tasks t) _ (λ _. plain s _ _ e m h a b refl g)
    (λ _. if_row s action.CleanUp e m h s.run.abandoned (next_session t) (enter phase.Poll t) (λ _. plain s _ _ e m h a b refl g) (λ _. plain s _ _ e m h a b refl g)))

clean_up_row : (s : BotState) (e : BotEvent) (m : ℕ) (h : History) → Agrees s.run h → IfSome (after_clean_up s e) (Row s action.CleanUp e m (heard action.CleanUp e m h))
clean_up_row s event.Cleaned m h g = end_task_row s event.Cleaned m h refl refl g
clean_up_row s event.RunnerFailed m h g = end_task_row s event.RunnerFailed m h refl refl g
clean_up_row s e m h g = tt

-- ---- the rows of a look

same_when_asked : (b a x : Bool) → b ≡ false → a ≡ true → b ≡ (not a && x)
same_when_asked b true x h k = h
same_when_asked b false x h k = absurd (cc)

same_when_not : (b a x : Bool) → b ≡ x → a ≡ false → b ≡ (not a && x)
same_when_not b true x h k = absurd (cc)
same_when_not b false x h k = h

false_unless : (b c x : Bool) → b ≡ false → c ≡ true → b ≡ (not c && x)
false_unless b c x h k = same_when_asked b c x h k

no_time : (execution : ℕ) (o : Option TermSent) → is_some o ≡ false → for_time execution o ≡ false
no_time execution None h = refl
no_time execution (Some t) h = absurd (cc)

no_silence : (execution io : ℕ) (o : Option TermSent) → is_some o ≡ false → for_silence execution io o ≡ false
no_silence execution io None h = refl
no_silence execution io (Some t) h = absurd (cc)

no_term : (o : Option TermSent) → o ≡ None → is_some o ≡ false
no_term None h = refl
no_term (Some t) h = absurd (cc)

-- the command runs on, with a run that agrees
module _ (s s2 : BotState) (x : Action) (e : BotEvent) (m : ℕ) (h : History) (g : Agrees s2.run h) (e1 : s2.tasks ≡ s.tasks) (e2 : s2.steps ≡ s.steps) (e3 : s2.limits ≡ s.limits) (a : asks_for_end e x ≡ false) where
  abbrev R : BotState → Type 0
  R t = Row s x e m h t

  -- neither Term nor an update is due
  moves : (t : BotState) → Stays s t → Kept m h t → (h.asked ≡ true → h.term ≡ None → action_of t ≡ action.Signal Term) →
      (h.refused ≡ false → h.last_send + h.tolerance / 4 ≤ m → reports_or_signals (action_of t) ≡ true) → R t
  moves t same k f f2 = record { limits = same.limits; kept = λ _. k; looks = λ i. absurd (cc); terminates = λ i j l. (f j l, same); reports = λ i j l. (f2 j l, same) }

  has_time : h.last_send + h.tolerance / 4 ≤ m → has_passed s2.run.last_send (s2.run.tolerance / 4) m ≡ true
  has_time i =
      let l : s2.run.last_send ≡ h.last_send = ap View.last_send g in
      let t : s2.run.tolerance ≡ h.tolerance = ap View.tolerance g in
      let k : s2.run.last_send + s2.run.tolerance / 4 ≤ m = subst (λ n. n + s2.run.tolerance / 4 ≤ m) (sym l) (subst (λ n. h.last_send + n / 4 ≤ m) (sym t) i) in
      grind (arith, nat_tests)

  is_due : (b w p : Bool) → b ≡ false → p ≡ true → (not b && (w || p)) ≡ true
  is_due true w p i j = absurd (cc)
  is_due false true p i j = refl
  is_due false false p i j = j

  send_or_sleep_row : (h.asked ≡ true → h.term ≡ None → ⊥) → R (send_or_sleep m s2)
  send_or_sleep_row never =
      let c : Bool = not s2.run.abandoned && (nat_lt 0 s2.run.pending || has_passed s2.run.last_send (s2.run.tolerance / 4) m) in
      if_row s x e m h c (enter phase.Send s2) (enter_sleep 1 phase.Look s2)
      (λ _. moves (enter phase.Send s2) (record { tasks = e1; steps = e2; limits = e3 }) g (λ j l. absurd (never j l)) (λ j l. refl))
      (λ i. moves (enter_sleep 1 phase.Look s2) (record { tasks = e1; steps = e2; limits = e3 }) g (λ j l. absurd (never j l))
      (λ j l. let k : c ≡ true = is_due s2.run.abandoned (nat_lt 0 s2.run.pending) (has_passed s2.run.last_send (s2.run.tolerance / 4) m) (ap View.refused g ∙ j) (has_time l) in absurd (cc)))

  kill_row : is_some s2.run.term ≡ true → R (signal_kill s2)
  kill_row some = moves (signal_kill s2) (record { tasks = e1; steps = e2; limits = e3 }) g (λ j l. let k : is_some h.term ≡ true = sym (ap View.termed g) ∙ some in let n : is_some h.term ≡ false = no_term h.term l in absurd (cc)) (λ j l. refl)

  term_row : (b c : Bool) → b ≡ (not h.asked && is_reached h.started h.execution m) → c ≡ (not h.asked && (not (is_reached h.started h.execution m) && is_reached h.last_output h.io m)) →
      R (record s2 { run = record s2.run { term = Some m; hard_timeout = b; io_timeout = c }; phase = phase.Signal Term; awaited = Answer })
  term_row b c i j =
      moves (record s2 { run = record s2.run { term = Some m; hard_timeout = b; io_timeout = c }; phase = phase.Signal Term; awaited = Answer }) (record { tasks = e1; steps = e2; limits = e3 })
      (ap (λ (v : View). record v { termed = true; hard = b; silent = c }) g ∙
      ap (λ (n : Bool). record (view_of h) { termed = true; hard = n; silent = c }) i ∙ ap (λ (n : Bool). record (view_of h) { termed = true; hard = not h.asked && is_reached h.started h.execution m; silent = n }) j)
      (λ j l. refl) (λ j l. refl)

  reached_time : is_reached s2.run.started s2.run.execution m ≡ is_reached h.started h.execution m
  reached_time = ap (λ (v : View). is_reached v.started v.execution m) g

  reached_silence : is_reached s2.run.last_output s2.run.io m ≡ is_reached h.last_output h.io m
  reached_silence = ap (λ (v : View). is_reached v.last_output v.io m) g

  not_hard : is_some s2.run.term ≡ false → s2.run.hard_timeout ≡ false
  not_hard none = ap View.hard g ∙ no_time h.execution h.term (sym (ap View.termed g) ∙ none)

  not_silent : is_some s2.run.term ≡ false → s2.run.io_timeout ≡ false
  not_silent none = ap View.silent g ∙ no_silence h.execution h.io h.term (sym (ap View.termed g) ∙ none)

  asked_row : is_some s2.run.term ≡ false → s2.run.stop ≡ true → R (record s2 { run = record s2.run { term = Some m }; phase = phase.Signal Term; awaited = Answer })
  asked_row none stop =
      let asked : h.asked ≡ true = sym (ap View.asked g) ∙ stop in
      term_row s2.run.hard_timeout s2.run.io_timeout (same_when_asked _ h.asked _ (not_hard none) asked) (same_when_asked _ h.asked _ (not_silent none) asked)

  time_row : is_some s2.run.term ≡ false → s2.run.stop ≡ false → is_reached s2.run.started s2.run.execution m ≡ true →
      R (record s2 { run = record s2.run { term = Some m; hard_timeout = true }; phase = phase.Signal Term; awaited = Answer })
  time_row none going over =
      let asked : h.asked ≡ false = sym (ap View.asked g) ∙ going in
      let reached : is_reached h.started h.execution m ≡ true = sym reached_time ∙ over in
      term_row true s2.run.io_timeout (same_when_not true h.asked _ (sym reached) asked) (same_when_not _ h.asked _ (same_when_asked _ (is_reached h.started h.execution m) _ (not_silent none) reached) asked)

  silence_row : is_some s2.run.term ≡ false → s2.run.stop ≡ false → is_reached s2.run.started s2.run.execution m ≡ false → is_reached s2.run.last_output s2.run.io m ≡ true →
      R (record s2 { run = record s2.run { term = Some m; io_timeout = true }; phase = phase.Signal Term; awaited = Answer })
  silence_row none going early over =
      let asked : h.asked ≡ false = sym (ap View.asked g) ∙ going in
      let time : is_reached h.started h.execution m ≡ false = sym reached_time ∙ early in
      let silence : is_reached h.last_output h.io m ≡ true = sym reached_silence ∙ over in
      term_row s2.run.hard_timeout true (same_when_not _ h.asked _ (not_hard none ∙ sym time) asked) (same_when_not true h.asked _ (same_when_not true (is_reached h.started h.execution m) _ (sym silence) time) asked)

  continue_run_row : R (continue_run m s2)
  continue_run_row =
      if_row s x e m h (is_some s2.run.term) _ _
      (λ some. if_row s x e m h (not s2.run.killed && is_grace_over s2.run.grace s2.run.term m) (signal_kill s2) (send_or_sleep m s2) (λ _. kill_row some)
      (λ _. send_or_sleep_row (λ j l. let k : is_some h.term ≡ true = sym (ap View.termed g) ∙ some in let n : is_some h.term ≡ false = no_term h.term l in cc)))
      (λ none. if_row s x e m h s2.run.stop _ _ (asked_row none)
      (λ going. let unasked : h.asked ≡ false = sym (ap View.asked g) ∙ going in
      if_row s x e m h (is_reached s2.run.started s2.run.execution m) _ _ (time_row none going)
      (λ early. if_row s x e m h (is_reached s2.run.last_output s2.run.io m) _ _ (silence_row none going early) (λ _. send_or_sleep_row (λ j l. cc)))))

end_row : (s : BotState) (e : BotEvent) (code : ℤ) (m : ℕ) (h : History) (x : Action) (b : Bool) → asks_for_end e x ≡ false → finds_running e ≡ false → Agrees s.run h →
    Row s x e m h (enter (if b then phase.CleanUp else phase.Upload) (with_run (end_run code m) s))
end_row s e code m h x true i j g = plain s _ x e m h i j refl g
end_row s e code m h x false i j g = plain s _ x e m h i j refl g

add_agrees : (size m : ℕ) (r : Run) (b : Bool) (h : History) → Agrees r h →
    Agrees (if b then record r { last_output = m; dropped = r.dropped + size; dropping = true } else record r { last_output = m; pending = r.pending + size }) (record h { last_output = m })
add_agrees size m r true h g = ap (λ (v : View). record v { last_output = m }) g
add_agrees size m r false h g = ap (λ (v : View). record v { last_output = m }) g

look_row : (s : BotState) (e : BotEvent) (m : ℕ) (h : History) → Agrees s.run h → IfSome (after_look s e m) (Row s (phase_action s phase.Look) e m (heard (phase_action s phase.Look) e m h))
look_row s (event.Output size) m h g =
    some_row s _ (event.Output size) m _ (nat_le 1 size && nat_le size (most_pending - s.run.pending)) (Some (continue_run m (with_run (add_output size m) s))) None
    (λ _. continue_run_row s (with_run (add_output size m) s) _ (event.Output size) m (record h { last_output = m }) (add_agrees size m s.run (is_dropped size s.run) h g) refl refl refl refl) tt
look_row s event.Quiet m h g = continue_run_row s s _ event.Quiet m h g refl refl refl refl
look_row s (event.Ended code) m h g = end_row s (event.Ended code) code m h _ s.run.abandoned refl refl g
look_row s event.RunnerFailed m h g = end_row s event.RunnerFailed (negsuc 0) m h _ s.run.abandoned refl refl g
look_row s e m h g = tt

-- ---- all rows

answer_row : (s : BotState) (p : Phase) (e : BotEvent) (m : ℕ) (h : History) → (sends_request p && is_transient e) ≡ false → Agrees s.run h → IfSome (after_answer s p e m) (Row s (phase_action s p) e m (heard (phase_action s p) e m h))
answer_row s phase.Handshake e m h q g = handshake_row s e m h g
answer_row s phase.Poll e m h q g = poll_row s e m h g
answer_row s phase.Claim e m h q g = claim_row s e m h g
answer_row s phase.Prepare e m h q g = prepare_row s e m h g
answer_row s phase.Start e m h q g = start_row s e m h g
answer_row s phase.Look e m h q g = look_row s e m h g
answer_row s (phase.Signal signal) e m h q g = signal_row s e m h (action.Signal signal) g
answer_row s phase.Send e m h q g = send_row s e m h q g
answer_row s phase.LastSend e m h q g = last_send_row s e m h q g
answer_row s phase.Upload e m h q g = upload_row s e m h g
answer_row s phase.CleanUp e m h q g = clean_up_row s e m h g
answer_row s (phase.Stop why) e m h q g = tt

begin_row : (s : BotState) (x : Action) (e : BotEvent) (m : ℕ) (h : History) → Agrees s.run h → IfSome (after_begin s e m) (Row s x e m (heard x e m h))
begin_row s x event.Begin m h g = plain s _ x event.Begin m h refl refl refl g
begin_row s x e m h g = tt

unsigned : (t : BotState) (p : Phase) (m : ℕ) (h : History) → is_signal p ≡ false → h ≡ logged (phase_action t p) m h
unsigned t (phase.Signal signal) m h q = absurd (cc)
unsigned t p m h q = refl

sleep_row : (s : BotState) (x : Action) (e : BotEvent) (m : ℕ) (h : History) → is_signal s.phase ≡ false → Agrees s.run h → IfSome (after_sleep s e) (Row s x e m (heard x e m h))
sleep_row s x event.Slept m h q g = plain s (enter s.phase s) x event.Slept m h refl refl refl (subst (λ (k : History). Agrees s.run k) (unsigned (enter s.phase s) s.phase m h q) g)
sleep_row s x e m h q g = tt

and_false : (x b : Bool) → (x && b) ≡ true → b ≡ false → ⊥
and_false true b h k = cc
and_false false b h k = cc

-- nothing is learned by an event after which the request is sent again
transient_row : (s : BotState) (x : Action) (p : Phase) (e : BotEvent) (m : ℕ) (h : History) (b : Bool) → (b && is_transient e) ≡ true → Agrees s.run h → Row s x e m (heard x e m h) (enter_sleep 5 p s)
transient_row s x p event.Lost m h b q g = plain s (enter_sleep 5 p s) x event.Lost m h refl refl refl g
transient_row s x p (event.Refused n) m h b q g =
    plain s (enter_sleep 5 p s) x (event.Refused n) m _ refl refl refl (subst (λ (k : History). Agrees s.run k) (not_learned x (is_transient (event.Refused n)) (is_store_full (code_numbered n)) refl refl) g)
  where
    not_learned : (y : Action) (c d : Bool) → is_transient (event.Refused n) ≡ c → is_store_full (code_numbered n) ≡ d → h ≡ heard y (event.Refused n) m h
    not_learned (action.Send start size last) true d i j = sym (if_not (is_for_good n) (good i))
      where
        good : is_transient (event.Refused n) ≡ true → is_for_good n ≡ false
        good k = ap (λ (z : Bool). not z && not (is_store_full (code_numbered n))) k

        if_not : (z : Bool) → z ≡ false → (if z then record h { asked = true; refused = true } else h) ≡ h
        if_not true k = absurd (cc)
        if_not false k = refl
    not_learned (action.Send start size last) false d i j = absurd (and_false b (is_transient (event.Refused n)) q i)
    not_learned y c d i j = refl
transient_row s x p e m h b q g = absurd (and_false b false q refl)

event_row : (s : BotState) (a : Awaited) (e : BotEvent) (m : ℕ) (h : History) → Quiet s.phase a → Agrees s.run h → IfSome (after_event s a e m) (Row s (awaited_action s a) e m (heard (awaited_action s a) e m h))
event_row s Begin e m h quiet g = begin_row s (phase_action s s.phase) e m h g
event_row s (Slept secs) e m h quiet g = sleep_row s (action.Sleep secs) e m h (quiet refl) g
event_row s Answer e m h quiet g = at_answer (sends_request s.phase && is_transient e) refl
  where
    at_answer : (c : Bool) → (sends_request s.phase && is_transient e) ≡ c → IfSome (if c then Some (enter_sleep 5 s.phase s) else after_answer s s.phase e m) (Row s (phase_action s s.phase) e m (heard (phase_action s s.phase) e m h))
    at_answer true q = transient_row s (phase_action s s.phase) s.phase e m h (sends_request s.phase) q g
    at_answer false q = answer_row s s.phase e m h q g

pub next_row : (s : BotState) (e : BotEvent) (m : ℕ) (h : History) → Quiet s.phase s.awaited → (is_stop s.phase ≡ false → Agrees s.run h) → IfSome (next_state s e m) (Row s (action_of s) e m (heard (action_of s) e m h))
next_row s e m h quiet g = unless_stopped (is_stop s.phase) refl
  where
    unless_stopped : (c : Bool) → is_stop s.phase ≡ c → IfSome (if c then None else after_event s s.awaited e m) (Row s (action_of s) e m (heard (action_of s) e m h))
    unless_stopped true i = tt
    unless_stopped false i = event_row s s.awaited e m h quiet (g i)

-- What each row of the bot's table does to ids, phases and the length sent.
use Rattle.std.proofs.Common.{◌≡◌, ℕ, ◌+◌, ◌-◌, ◌/◌, Bool, true, false, not, ◌&&◌, ◌||◌, if◌then◌else◌, nat_le, nat_lt, Option, Some, None, is_some, IfSome, ℤ, negsuc, refl, subst}
use Rattle.std.specs.Option.{option_map}
use Rattle.refusal_codes.specs.declared.refusal_code.RefusalCode.{RefusalCode}
use Rattle.refusal_codes.specs.Codes.{code_numbered}
use Rattle.bot_core.specs.declared.run.Run.{Run}
use Rattle.bot_core.specs.declared.action.StopWhy.{StopWhy}
use Rattle.bot_core.specs.declared.action.StopWhy.TheVariants as why
use Rattle.bot_worlds.specs.Types.{Action, BotEvent, BotState, Phase, Awaited, Begin, Answer, Slept}
use Rattle.bot_core.specs.declared.action.Action.TheVariants as action
use Rattle.bot_core.specs.declared.bot_event.BotEvent.TheVariants as event
use Rattle.bot_core.specs.declared.bot_state.Phase.TheVariants as phase
use Rattle.bot_core.specs.RunChanges.{most_pending, drop_output, abandon_run, add_output, is_dropped, has_passed, is_reached, is_grace_over}
use Rattle.bot_core.specs.Table.{enter, enter_stop, enter_sleep, next_session, with_run, is_stop, sends_request, is_transient, needs_new_session, is_claim_over, is_store_full, abandons_run, apply_refusal, signal_term, signal_kill, send_or_sleep, continue_run, end_task, end_command, after_handshake, after_poll, after_claim, after_prepare, after_start, after_look, after_signal, after_send, after_upload, after_last_send, after_clean_up, after_answer, after_begin, after_sleep, after_event, next_state, action_of, record_action, issue_action, stepped}
use Rattle.bot_worlds.specs.Phases.{claims, is_early, is_live, is_over}

abbrev pub is_run : BotEvent → Bool
is_run (event.ClaimRun x i g o) = true
is_run e = false

abbrev pub is_started : BotEvent → Bool
is_started event.Started = true
is_started e = false

abbrev pub is_sent : BotEvent → Bool
is_sent (event.SendOk must_stop) = true
is_sent e = false

abbrev pub is_begin : BotEvent → Bool
is_begin event.Begin = true
is_begin e = false

-- a row from a phase, by the ids, the length sent and the phase behind it
pub data Walk (s : BotState) (p : Phase) (e : BotEvent) (x : ℕ × ℕ × ℕ) (c n : ℕ) (q : Phase) : Type 0 where
  plain : is_run e ≡ false → is_started e ≡ false → (is_live q ≡ true → is_live p ≡ true) → (claims q ≡ true → claims p ≡ true) → (is_early q ≡ true → is_early p ≡ true) → (is_over p ≡ true → is_over q ≡ true) →
      x ≡ (s.first, s.session, s.limits.steps) → c ≡ s.claim → n ≡ s.run.sent → Walk s p e x c n q
  next_id : is_run e ≡ false → is_started e ≡ false → is_early q ≡ false → is_over p ≡ true → is_over q ≡ true → (x ≡ (s.first, s.session, s.limits.steps)) × (c ≡ s.claim + 1) → n ≡ s.run.sent → Walk s p e x c n q
  next_name : is_run e ≡ false → is_started e ≡ false → claims q ≡ false → is_early q ≡ false → is_over q ≡ true → x ≡ (s.first, s.session + 1, s.limits.steps) → c ≡ 0 → n ≡ s.run.sent → Walk s p e x c n q
  told : is_run e ≡ true → is_started e ≡ false → claims p ≡ true → claims q ≡ false → is_live q ≡ false → x ≡ (s.first, s.session, s.limits.steps) → c ≡ s.claim → n ≡ 0 → Walk s p e x c n q
  begun : is_run e ≡ false → is_started e ≡ true → is_early p ≡ true → is_over p ≡ false → claims q ≡ false → is_early q ≡ false → x ≡ (s.first, s.session, s.limits.steps) → c ≡ s.claim → n ≡ s.run.sent → Walk s p e x c n q
  sent : is_sent e ≡ true → is_run e ≡ false → is_started e ≡ false → p ≡ phase.Send → claims q ≡ false → is_early q ≡ false → x ≡ (s.first, s.session, s.limits.steps) → c ≡ s.claim → n ≡ s.run.sent + s.run.pending → Walk s p e x c n q

abbrev pub Walks : BotState → Phase → BotEvent → BotState → Type 0
Walks s p e t = Walk s p e (t.first, t.session, t.limits.steps) t.claim t.run.sent t.phase

if_walk : (s : BotState) (p : Phase) (e : BotEvent) (b : Bool) (x y : BotState) → Walks s p e x → Walks s p e y → Walks s p e (if b then x else y)
if_walk s p e true x y f g = f
if_walk s p e false x y f g = g

-- a stop in place of it
stop_walk : (s : BotState) (p : Phase) (e : BotEvent) (x : ℕ × ℕ × ℕ) (c n : ℕ) (q : Phase) (w : StopWhy) → Walk s p e x c n q → Walk s p e x c n (phase.Stop w)
stop_walk s p e x c n q w (plain a b v k l o i j m) = plain a b (λ h. absurd (cc)) (λ h. absurd (cc)) (λ h. absurd (cc)) (λ h. refl) i j m
stop_walk s p e x c n q w (next_id a b k l o i m) = next_id a b refl l refl i m
stop_walk s p e x c n q w (next_name a b k l o i j m) = next_name a b refl refl refl i j m
stop_walk s p e x c n q w (told a b k l v i j m) = told a b k refl refl i j m
stop_walk s p e x c n q w (begun a b k l o r i j m) = begun a b k l refl refl i j m
stop_walk s p e x c n q w (sent a b d k l o i j m) = sent a b d k refl refl i j m

-- ---- the rows

module _ (s : BotState) where
  abbrev Row : Phase → BotEvent → Option BotState → Type 0
  Row p e o = IfSome o (Walks s p e)

  handshake_row : (e : BotEvent) → Row phase.Handshake e (after_handshake s e)
  handshake_row event.HandshakeOk = plain refl refl (λ h. absurd (cc)) (λ h. absurd (cc)) (λ h. absurd (cc)) (λ h. refl) refl refl refl
  handshake_row (event.Refused number) = plain refl refl (λ h. absurd (cc)) (λ h. absurd (cc)) (λ h. absurd (cc)) (λ h. refl) refl refl refl
  handshake_row e = tt

  stops : (p : Phase) (e : BotEvent) → is_run e ≡ false → is_started e ≡ false → Walks s p e (enter_stop why.Refused s)
  stops p e a b = plain a b (λ h. absurd (cc)) (λ h. absurd (cc)) (λ h. absurd (cc)) (λ h. refl) refl refl refl

  renews : (p : Phase) (e : BotEvent) → is_run e ≡ false → is_started e ≡ false → Walks s p e (next_session s)
  renews p e a b = next_name a b refl refl refl refl refl refl

  poll_row : (e : BotEvent) → Row phase.Poll e (after_poll s e)
  poll_row (event.PollSleep secs) = plain refl refl (λ h. absurd (cc)) (λ h. absurd (cc)) (λ h. absurd (cc)) (λ h. refl) refl refl refl
  poll_row event.PollClaim = next_id refl refl refl refl refl (refl, refl) refl
  poll_row event.PollTerminate = plain refl refl (λ h. absurd (cc)) (λ h. absurd (cc)) (λ h. absurd (cc)) (λ h. refl) refl refl refl
  poll_row (event.Refused number) = if_walk s phase.Poll (event.Refused number) (needs_new_session (code_numbered number)) (next_session s) (enter_stop why.Refused s) (renews phase.Poll (event.Refused number) refl refl) (stops phase.Poll (event.Refused number) refl refl)
  poll_row e = tt

  claim_row : (e : BotEvent) → Row phase.Claim e (after_claim s e)
  claim_row (event.ClaimRun x i g o) = told refl refl refl refl refl refl refl refl
  claim_row event.ClaimSkip = plain refl refl (λ h. absurd (cc)) (λ h. absurd (cc)) (λ h. absurd (cc)) (λ h. refl) refl refl refl
  claim_row (event.Refused number) =
      if_walk s phase.Claim (event.Refused number) (needs_new_session (code_numbered number)) (next_session s) (if is_claim_over (code_numbered number) then enter phase.Poll s else enter_stop why.Refused s) (renews phase.Claim (event.Refused number) refl refl)
      (if_walk s phase.Claim (event.Refused number) (is_claim_over (code_numbered number)) (enter phase.Poll s) (enter_stop why.Refused s)
      (plain refl refl (λ h. absurd (cc)) (λ h. absurd (cc)) (λ h. absurd (cc)) (λ h. refl) refl refl refl) (stops phase.Claim (event.Refused number) refl refl))
  claim_row e = tt

  prepare_row : (e : BotEvent) → Row phase.Prepare e (after_prepare s e)
  prepare_row event.Prepared = plain refl refl (λ h. absurd (cc)) (λ h. absurd (cc)) (λ h. refl) (λ h. absurd (cc)) refl refl refl
  prepare_row event.RunnerFailed = plain refl refl (λ h. absurd (cc)) (λ h. absurd (cc)) (λ h. absurd (cc)) (λ h. refl) refl refl refl
  prepare_row e = tt

  start_row : (e : BotEvent) (m : ℕ) → Row phase.Start e (after_start s e m)
  start_row event.Started m = begun refl refl refl refl refl refl refl refl refl
  start_row event.RunnerFailed m = plain refl refl (λ h. absurd (cc)) (λ h. absurd (cc)) (λ h. absurd (cc)) (λ h. refl) refl refl refl
  start_row e m = tt

  signal_row : (k : _) (e : BotEvent) → Row (phase.Signal k) e (after_signal s e)
  signal_row k event.Signalled = plain refl refl (λ h. refl) (λ h. absurd (cc)) (λ h. absurd (cc)) (λ h. absurd (cc)) refl refl refl
  signal_row k event.RunnerFailed = plain refl refl (λ h. refl) (λ h. absurd (cc)) (λ h. absurd (cc)) (λ h. absurd (cc)) refl refl refl
  signal_row k e = tt

  refused_sent : (code : Option RefusalCode) (r : Run) → (apply_refusal code r).sent ≡ r.sent
  refused_sent code r = by_first (is_store_full code)
    where
      by_second : (c : Bool) → (if c then abandon_run r else record (abandon_run r) { refused = true }).sent ≡ r.sent
      by_second true = refl
      by_second false = refl

      by_first : (b : Bool) → (if b then drop_output r else if abandons_run code then abandon_run r else record (abandon_run r) { refused = true }).sent ≡ r.sent
      by_first true = refl
      by_first false = by_second (abandons_run code)

  send_row : (e : BotEvent) → Row phase.Send e (after_send s e)
  send_row (event.SendOk must_stop) = sent refl refl refl refl refl refl refl refl refl
  send_row (event.Refused number) = plain refl refl (λ h. refl) (λ h. absurd (cc)) (λ h. absurd (cc)) (λ h. absurd (cc)) refl refl (refused_sent (code_numbered number) s.run)
  send_row e = tt

  upload_row : (e : BotEvent) → Row phase.Upload e (after_upload s e)
  upload_row event.Uploaded = plain refl refl (λ h. absurd (cc)) (λ h. absurd (cc)) (λ h. absurd (cc)) (λ h. refl) refl refl refl
  upload_row (event.Refused number) =
      if_walk s phase.Upload (event.Refused number) (is_store_full (code_numbered number)) (enter phase.LastSend s) (enter_stop why.Refused s)
      (plain refl refl (λ h. absurd (cc)) (λ h. absurd (cc)) (λ h. absurd (cc)) (λ h. refl) refl refl refl) (stops phase.Upload (event.Refused number) refl refl)
  upload_row e = tt

  last_row : (e : BotEvent) → Row phase.LastSend e (after_last_send s e)
  last_row (event.SendOk must_stop) = plain refl refl (λ h. absurd (cc)) (λ h. absurd (cc)) (λ h. absurd (cc)) (λ h. refl) refl refl refl
  last_row (event.Refused number) =
      if_walk s phase.LastSend (event.Refused number) (is_store_full (code_numbered number)) (enter phase.LastSend (with_run drop_output s)) (if abandons_run (code_numbered number) then enter phase.CleanUp (with_run abandon_run s) else enter_stop why.Refused s)
      (plain refl refl (λ h. absurd (cc)) (λ h. absurd (cc)) (λ h. absurd (cc)) (λ h. refl) refl refl refl)
      (if_walk s phase.LastSend (event.Refused number) (abandons_run (code_numbered number)) (enter phase.CleanUp (with_run abandon_run s)) (enter_stop why.Refused s)
      (plain refl refl (λ h. absurd (cc)) (λ h. absurd (cc)) (λ h. absurd (cc)) (λ h. refl) refl refl refl) (stops phase.LastSend (event.Refused number) refl refl))
  last_row e = tt

  end_task_row : (e : BotEvent) → is_run e ≡ false → is_started e ≡ false → Walks s phase.CleanUp e (end_task s)
  end_task_row e a b =
      let t : BotState = record s { tasks = s.tasks + 1 } in
      if_walk s phase.CleanUp e t.run.refused (enter_stop why.Refused t) _ (plain a b (λ h. absurd (cc)) (λ h. absurd (cc)) (λ h. absurd (cc)) (λ h. refl) refl refl refl)
      (if_walk s phase.CleanUp e (nat_le t.limits.tasks t.tasks) (enter_stop why.Tasks t) _ (plain a b (λ h. absurd (cc)) (λ h. absurd (cc)) (λ h. absurd (cc)) (λ h. refl) refl refl refl)
      (if_walk s phase.CleanUp e t.run.abandoned (next_session t) (enter phase.Poll t) (next_name a b refl refl refl refl refl refl)
      (plain a b (λ h. absurd (cc)) (λ h. absurd (cc)) (λ h. absurd (cc)) (λ h. refl) refl refl refl)))

  clean_row : (e : BotEvent) → Row phase.CleanUp e (after_clean_up s e)
  clean_row event.Cleaned = end_task_row event.Cleaned refl refl
  clean_row event.RunnerFailed = end_task_row event.RunnerFailed refl refl
  clean_row e = tt

-- ---- a look

-- the same ids and length sent, at a phase
look_to : (s t : BotState) (e : BotEvent) → is_run e ≡ false → is_started e ≡ false → claims t.phase ≡ false → is_early t.phase ≡ false → ◌≡◌ {A = ℕ × ℕ × ℕ} (t.first, t.session, t.limits.steps) (s.first, s.session, s.limits.steps) → t.claim ≡ s.claim → t.run.sent ≡ s.run.sent → Walks s phase.Look e t
look_to s t e a b k l i j m = plain a b (λ h. refl) (λ h. absurd (cc)) (λ h. absurd (cc)) (λ h. absurd (cc)) i j m

-- t is as s in ids and length
record IsLike (s t : BotState) : Type 0 where
  session : ◌≡◌ {A = ℕ × ℕ × ℕ} (t.first, t.session, t.limits.steps) (s.first, s.session, s.limits.steps)
  claim : t.claim ≡ s.claim
  sent_is : t.run.sent ≡ s.run.sent

module _ (s : BotState) (e : BotEvent) (a : is_run e ≡ false) (b : is_started e ≡ false) (m : ℕ) where
  send_or_sleep_walk : (t : BotState) → IsLike s t → Walks s phase.Look e (send_or_sleep m t)
  send_or_sleep_walk t k = if_walk s phase.Look e (not t.run.abandoned && (nat_lt 0 t.run.pending || has_passed t.run.last_send (t.run.tolerance / 4) m)) (enter phase.Send t) (enter_sleep 1 phase.Look t)
      (look_to s (enter phase.Send t) e a b refl refl k.session k.claim k.sent_is) (look_to s (enter_sleep 1 phase.Look t) e a b refl refl k.session k.claim k.sent_is)

  continue_walk : (t : BotState) → IsLike s t → Walks s phase.Look e (continue_run m t)
  continue_walk t k =
      let r = send_or_sleep_walk t k in
      if_walk s phase.Look e (is_some t.run.term) _ _
      (if_walk s phase.Look e (not t.run.killed && is_grace_over t.run.grace t.run.term m) (signal_kill t) (send_or_sleep m t) (look_to s (signal_kill t) e a b refl refl k.session k.claim k.sent_is) r)
      (if_walk s phase.Look e t.run.stop (signal_term (λ r. r) m t) _ (look_to s (signal_term (λ r. r) m t) e a b refl refl k.session k.claim k.sent_is)
      (if_walk s phase.Look e (is_reached t.run.started t.run.execution m) (signal_term (λ r. record r { hard_timeout = true }) m t) _ (look_to s (signal_term (λ r. record r { hard_timeout = true }) m t) e a b refl refl k.session k.claim k.sent_is)
      (if_walk s phase.Look e (is_reached t.run.last_output t.run.io m) (signal_term (λ r. record r { io_timeout = true }) m t) (send_or_sleep m t) (look_to s (signal_term (λ r. record r { io_timeout = true }) m t) e a b refl refl k.session k.claim k.sent_is) r)))

  end_walk : (code : ℤ) → Walks s phase.Look e (end_command code m s)
  end_walk code = by_case s.run.abandoned
    where
      by_case : (c : Bool) → Walk s phase.Look e (s.first, s.session, s.limits.steps) s.claim s.run.sent (if c then phase.CleanUp else phase.Upload)
      by_case true = plain a b (λ h. refl) (λ h. absurd (cc)) (λ h. absurd (cc)) (λ h. absurd (cc)) refl refl refl
      by_case false = plain a b (λ h. refl) (λ h. absurd (cc)) (λ h. absurd (cc)) (λ h. absurd (cc)) refl refl refl

add_sent : (size m : ℕ) (r : Run) → (add_output size m r).sent ≡ r.sent
add_sent size m r = by_case (is_dropped size r)
  where
    by_case : (c : Bool) → (if c then record r { last_output = m; dropped = r.dropped + size; dropping = true } else record r { last_output = m; pending = r.pending + size }).sent ≡ r.sent
    by_case true = refl
    by_case false = refl

output_row : (s : BotState) (size m : ℕ) (c : Bool) → IfSome (if c then Some (continue_run m (with_run (add_output size m) s)) else None) (Walks s phase.Look (event.Output size))
output_row s size m false = tt
output_row s size m true = continue_walk s (event.Output size) refl refl m (with_run (add_output size m) s) (record { session = refl; claim = refl; sent_is = add_sent size m s.run })

look_row : (s : BotState) (e : BotEvent) (m : ℕ) → Row s phase.Look e (after_look s e m)
look_row s (event.Output size) m = output_row s size m (nat_le 1 size && nat_le size (most_pending - s.run.pending))
look_row s event.Quiet m = continue_walk s event.Quiet refl refl m s (record { session = refl; claim = refl; sent_is = refl })
look_row s (event.Ended code) m = end_walk s (event.Ended code) refl refl m code
look_row s event.RunnerFailed m = end_walk s event.RunnerFailed refl refl m (negsuc 0)
look_row s e m = tt

answer_row : (s : BotState) (p : Phase) (e : BotEvent) (m : ℕ) → Row s p e (after_answer s p e m)
answer_row s phase.Handshake e m = handshake_row s e
answer_row s phase.Poll e m = poll_row s e
answer_row s phase.Claim e m = claim_row s e
answer_row s phase.Prepare e m = prepare_row s e
answer_row s phase.Start e m = start_row s e m
answer_row s phase.Look e m = look_row s e m
answer_row s (phase.Signal k) e m = signal_row s k e
answer_row s phase.Send e m = send_row s e
answer_row s phase.LastSend e m = last_row s e
answer_row s phase.Upload e m = upload_row s e
answer_row s phase.CleanUp e m = clean_row s e
answer_row s (phase.Stop w) e m = tt

-- ---- all events

stays : (s : BotState) (e : BotEvent) (p : Phase) → is_run e ≡ false → is_started e ≡ false → Walk s p e (s.first, s.session, s.limits.steps) s.claim s.run.sent p
stays s e p a b = plain a b (λ h. h) (λ h. h) (λ h. h) (λ h. h) refl refl refl

sleep_row : (s : BotState) (e : BotEvent) → Row s s.phase e (after_sleep s e)
sleep_row s event.Slept = stays s event.Slept s.phase refl refl
sleep_row s e = tt

begin_row : (s : BotState) (e : BotEvent) (m : ℕ) → is_begin e ≡ false → Row s s.phase e (after_begin s e m)
begin_row s event.Begin m h = absurd (cc)
begin_row s e m h = tt

pub transient_plain : (e : BotEvent) → is_transient e ≡ true → (is_run e ≡ false) × (is_started e ≡ false)
transient_plain event.Lost h = (refl, refl)
transient_plain (event.Refused number) h = (refl, refl)
transient_plain e h = absurd (cc)

lost_row : (s : BotState) (e : BotEvent) (m : ℕ) (p : Phase) (b c : Bool) → is_transient e ≡ c → IfSome (if b && c then Some (enter_sleep 5 p s) else after_answer s p e m) (Walks s p e)
lost_row s e m p true true h = let k = transient_plain e h in stays s e p k.0 k.1
lost_row s e m p true false h = answer_row s p e m
lost_row s e m p false c h = answer_row s p e m

event_row : (s : BotState) (a : Awaited) (e : BotEvent) (m : ℕ) → is_begin e ≡ false → Row s s.phase e (after_event s a e m)
event_row s Begin e m h = begin_row s e m h
event_row s (Slept secs) e m h = sleep_row s e
event_row s Answer e m h = lost_row s e m s.phase (sends_request s.phase) (is_transient e) refl

next_row : (s : BotState) (e : BotEvent) (m : ℕ) (c : Bool) → is_begin e ≡ false → IfSome (if c then None else after_event s s.awaited e m) (Walks s s.phase e)
next_row s e m true h = tt
next_row s e m false h = event_row s s.awaited e m h

record_row : (s : BotState) (p : Phase) (e : BotEvent) (m : ℕ) (t : BotState) (x : Action) → Walks s p e t → Walks s p e (record_action x m t)
record_row s p e m t action.Poll r = if_walk s p e (nat_le t.limits.polls t.polls) (enter_stop why.Polls t) (record t { polls = t.polls + 1 }) (stop_walk s p e (t.first, t.session, t.limits.steps) t.claim t.run.sent t.phase why.Polls r) r
record_row s p e m t (action.Send start size last) r = r
record_row s p e m t x r = r

issue_row : (s : BotState) (p : Phase) (e : BotEvent) (m : ℕ) (t : BotState) → Walks s p e t → Walks s p e (issue_action m t)
issue_row s p e m t r =
    let u : BotState = record_action (action_of t) m t in
    let k : Walks s p e u = record_row s p e m t (action_of t) r in
    if_walk s p e (nat_le u.limits.steps u.steps) (enter_stop why.Steps u) (record u { steps = u.steps + 1 }) (stop_walk s p e (u.first, u.session, u.limits.steps) u.claim u.run.sent u.phase why.Steps k) k

issued_row : (s : BotState) (e : BotEvent) (m : ℕ) (o : Option BotState) → IfSome o (Walks s s.phase e) → IfSome (option_map (issue_action m) o) (Walks s s.phase e)
issued_row s e m None h = tt
issued_row s e m (Some t) h = issue_row s s.phase e m t h

-- each step is a row
pub step_walks : (s : BotState) (e : BotEvent) (m : ℕ) (t : BotState) → is_begin e ≡ false → stepped s e m ≡ Some t → Walks s s.phase e t
step_walks s e m t h is = subst (λ (o : Option BotState). IfSome o (Walks s s.phase e)) is (issued_row s e m (next_state s e m) (next_row s e m (is_stop s.phase) h))

-- ---- output

output_if : (s : BotState) (size m : ℕ) (c : Bool) → IfSome (if c then Some (continue_run m (with_run (add_output size m) s)) else None) (λ (t : BotState). is_live phase.Look ≡ true)
output_if s size m true = refl
output_if s size m false = tt

output_answer : (s : BotState) (p : Phase) (size m : ℕ) → IfSome (after_answer s p (event.Output size) m) (λ (t : BotState). is_live p ≡ true)
output_answer s phase.Look size m = output_if s size m (nat_le 1 size && nat_le size (most_pending - s.run.pending))
output_answer s (phase.Signal k) size m = tt
output_answer s (phase.Stop w) size m = tt
output_answer s p size m = tt

output_asked : (s : BotState) (p : Phase) (size m : ℕ) (b : Bool) → IfSome (if b && false then Some (enter_sleep 5 p s) else after_answer s p (event.Output size) m) (λ (t : BotState). is_live p ≡ true)
output_asked s p size m true = output_answer s p size m
output_asked s p size m false = output_answer s p size m

output_event : (s : BotState) (a : Awaited) (size m : ℕ) → IfSome (after_event s a (event.Output size) m) (λ (t : BotState). is_live s.phase ≡ true)
output_event s Begin size m = tt
output_event s (Slept secs) size m = tt
output_event s Answer size m = output_asked s s.phase size m (sends_request s.phase)

output_next : (s : BotState) (size m : ℕ) (c : Bool) → IfSome (option_map (issue_action m) (if c then None else after_event s s.awaited (event.Output size) m)) (λ (t : BotState). is_live s.phase ≡ true)
output_next s size m true = tt
output_next s size m false = by_some (after_event s s.awaited (event.Output size) m) (output_event s s.awaited size m)
  where
    by_some : (o : Option BotState) → IfSome o (λ (t : BotState). is_live s.phase ≡ true) → IfSome (option_map (issue_action m) o) (λ (t : BotState). is_live s.phase ≡ true)
    by_some None h = tt
    by_some (Some t) h = h

-- output comes while the command may write
pub output_live : (s : BotState) (size m : ℕ) (t : BotState) → stepped s (event.Output size) m ≡ Some t → is_live s.phase ≡ true
output_live s size m t is = subst (λ (o : Option BotState). IfSome o (λ (u : BotState). is_live s.phase ≡ true)) is (output_next s size m (is_stop s.phase))

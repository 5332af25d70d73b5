-- What the table keeps, and which events it takes.
use Rattle.std.proofs.Common.{◌≡◌, ℕ, ◌+◌, ◌-◌, ◌≤◌, Bool, true, false, Option, Some, None, is_some, IfSome, ℤ, negsuc, not, ◌/◌, refl, ◌∙◌, subst, arith, if◌then◌else◌, nat_le, nat_lt, ◌||◌, ◌&&◌, ◌==◌}
use Rattle.std.proofs.lemmas.Bool.Decides.{nat_tests}
use Rattle.std.specs.Option.{option_map}
use Rattle.bot_core.specs.Types.{RefusalCode, Run, Action, BotEvent, BotState, Phase, Awaited, Begin, Answer, Slept, Term, Kill}
use Rattle.refusal_codes.specs.Codes.{code_numbered}
use Rattle.bot_core.specs.declared.action.StopWhy.TheVariants as why
use Rattle.bot_core.specs.declared.action.Action.TheVariants as action
use Rattle.bot_core.specs.declared.bot_event.BotEvent.TheVariants as event
use Rattle.bot_core.specs.declared.bot_state.Phase.TheVariants as phase
use Rattle.bot_core.specs.RunChanges.{has_passed, is_reached, is_grace_over, most_pending, most_output, new_run, start_run, drop_output, abandon_run, count_sent, is_dropped, add_output, end_run}
use Rattle.bot_core.specs.Table.{enter, enter_stop, enter_sleep, next_session, next_claim, with_run, is_stop, sends_request, is_transient, needs_new_session, is_claim_over, is_store_full, abandons_run, apply_refusal, fail_start, end_command, signal_kill, send_or_sleep, continue_run, end_task, after_handshake, after_poll, after_claim, after_prepare, after_start, after_look, after_signal, after_send, after_upload, after_last_send, after_clean_up, after_answer, after_begin, after_sleep, after_event, next_state, action_of, record_action, issue_action, stepped}
use Rattle.bot_core.specs.Bounds.{RunBounds, Bounds, InBounds}

-- ---- which events come does not depend on the moment

look_takes : (s : BotState) (e : BotEvent) (m n : ℕ) → is_some (after_look s e m) ≡ is_some (after_look s e n)
look_takes s (event.Output size) m n = (elim (nat_le 1 size && nat_le size (most_pending - s.run.pending)) as (λ b. is_some (if b then Some (continue_run m (with_run (add_output size m) s)) else None) ≡ is_some (if b then Some (continue_run n (with_run (add_output size n) s)) else None)) [ true ↦ refl | false ↦ refl ])
look_takes s event.Quiet m n = refl
look_takes s (event.Ended code) m n = refl
look_takes s event.RunnerFailed m n = refl
look_takes s e m n = refl

start_takes : (s : BotState) (e : BotEvent) (m n : ℕ) → is_some (after_start s e m) ≡ is_some (after_start s e n)
start_takes s event.Started m n = refl
start_takes s event.RunnerFailed m n = refl
start_takes s e m n = refl

answer_takes : (s : BotState) (p : Phase) (e : BotEvent) (m n : ℕ) → is_some (after_answer s p e m) ≡ is_some (after_answer s p e n)
answer_takes s phase.Start e m n = start_takes s e m n
answer_takes s phase.Look e m n = look_takes s e m n
answer_takes s p e m n = refl

begin_takes : (s : BotState) (e : BotEvent) (m n : ℕ) → is_some (after_begin s e m) ≡ is_some (after_begin s e n)
begin_takes s event.Begin m n = refl
begin_takes s e m n = refl

some_if : {A : Type 0} (b : Bool) (x y z : Option A) → is_some y ≡ is_some z → is_some (if b then x else y) ≡ is_some (if b then x else z)
some_if true x y z h = refl
some_if false x y z h = h

after_event_takes : (s : BotState) (a : Awaited) (e : BotEvent) (m n : ℕ) → is_some (after_event s a e m) ≡ is_some (after_event s a e n)
after_event_takes s Begin e m n = begin_takes s e m n
after_event_takes s (Slept secs) e m n = refl
after_event_takes s Answer e m n =
    some_if (sends_request s.phase && is_transient e) (Some (enter_sleep 5 s.phase s)) (after_answer s s.phase e m) (after_answer s s.phase e n) (answer_takes s s.phase e m n)

pub next_takes : (s : BotState) (e : BotEvent) (m n : ℕ) → is_some (next_state s e m) ≡ is_some (next_state s e n)
next_takes s e m n = some_if (is_stop s.phase) None (after_event s s.awaited e m) (after_event s s.awaited e n) (after_event_takes s s.awaited e m n)

-- ---- the numbers of a run, one step on

RunBounds-stays : (n : ℕ) (r : Run) → RunBounds n r → RunBounds (n + 1) r
RunBounds-stays n r b = record { pending = b.pending; output = b.output; dropped = omega arith; duration = b.duration }

RunBounds-new : (n a b c d : ℕ) → RunBounds n (new_run a b c d)
RunBounds-new n a b c d = record { pending = omega arith; output = omega arith; dropped = omega arith; duration = omega arith }

RunBounds-drop_output : (n : ℕ) (r : Run) → RunBounds n r → RunBounds (n + 1) (drop_output r)
RunBounds-drop_output n r b = record { pending = omega arith; output = omega arith; dropped = omega arith; duration = b.duration }

RunBounds-abandon_run : (n : ℕ) (r : Run) → RunBounds n r → RunBounds (n + 1) (abandon_run r)
RunBounds-abandon_run n r b = record { pending = omega arith; output = omega arith; dropped = omega arith; duration = b.duration }

RunBounds-refused : (n : ℕ) (r : Run) → RunBounds n r → RunBounds (n + 1) (record (abandon_run r) { refused = true })
RunBounds-refused n r b = record { pending = omega arith; output = omega arith; dropped = omega arith; duration = b.duration }

RunBounds-count_sent : (n : ℕ) (must_stop : Bool) (r : Run) → RunBounds n r → RunBounds (n + 1) (count_sent must_stop r)
RunBounds-count_sent n must_stop r b = record { pending = omega arith; output = omega arith; dropped = omega arith; duration = b.duration }

if_run : (n : ℕ) (c : Bool) (x y : Run) → RunBounds n x → RunBounds n y → RunBounds n (if c then x else y)
if_run n true x y p q = p
if_run n false x y p q = q

RunBounds-apply_refusal : (n : ℕ) (code : Option RefusalCode) (r : Run) → RunBounds n r → RunBounds (n + 1) (apply_refusal code r)
RunBounds-apply_refusal n code r b =
    if_run (n + 1) (is_store_full code) (drop_output r) (if abandons_run code then abandon_run r else record (abandon_run r) { refused = true }) (RunBounds-drop_output n r b)
    (if_run (n + 1) (abandons_run code) (abandon_run r) (record (abandon_run r) { refused = true }) (RunBounds-abandon_run n r b) (RunBounds-refused n r b))

RunBounds-if_dropped : (n size m : ℕ) (r : Run) (l a d o : Bool) → RunBounds n r → size ≤ most_pending - r.pending → (l ≡ false → r.sent + r.pending + size ≤ most_output) →
    RunBounds (n + 1) (if l then record r { last_output = m; dropped = r.dropped + size; dropping = true } else record r { last_output = m; pending = r.pending + size })
RunBounds-if_dropped n size m r true a d o b fits most = record { pending = omega arith; output = omega arith; dropped = omega arith; duration = b.duration }
RunBounds-if_dropped n size m r false a d o b fits most = record { pending = omega arith; output = omega (arith, most refl); dropped = omega arith; duration = b.duration }

fits_unless_dropped : (a d : Bool) (x : ℕ) → (a || d || nat_lt most_output x) ≡ false → x ≤ most_output
fits_unless_dropped false false x h = grind (arith, nat_tests)
fits_unless_dropped false true x h = absurd (cc)
fits_unless_dropped true d x h = absurd (cc)

RunBounds-add_output : (n size m : ℕ) (r : Run) → RunBounds n r → size ≤ most_pending - r.pending → RunBounds (n + 1) (add_output size m r)
RunBounds-add_output n size m r b fits =
    RunBounds-if_dropped n size m r (is_dropped size r) true true true b fits (fits_unless_dropped r.abandoned r.dropping (r.sent + r.pending + size))

-- ---- the numbers of a bot, after an event and before the step is counted

record BoundsBeforeStep (s : BotState) : Type 0 where
  steps : s.steps ≤ s.limits.steps
  session : s.session ≤ s.steps + 1
  claim : s.claim ≤ s.steps + 1
  polls : s.polls ≤ s.limits.polls
  tasks : is_stop s.phase ≡ false → s.tasks ≤ s.limits.tasks - 1
  run : RunBounds (s.steps + 1) s.run

run_keeps : (s : BotState) (r : Run) (p : Phase) (a : Awaited) → Bounds s → RunBounds (s.steps + 1) r → BoundsBeforeStep (record s { run = r; phase = p; awaited = a })
run_keeps s r p a b rb = record { steps = b.steps; session = omega arith; claim = omega arith; polls = b.polls; tasks = λ _. b.tasks; run = rb }

phase_keeps : (s : BotState) (p : Phase) (a : Awaited) → Bounds s → BoundsBeforeStep (record s { phase = p; awaited = a })
phase_keeps s p a b = run_keeps s s.run p a b (RunBounds-stays s.steps s.run b.run)

next_session_keeps : (s : BotState) → Bounds s → BoundsBeforeStep (next_session s)
next_session_keeps s b = record { steps = b.steps; session = omega arith; claim = omega arith; polls = b.polls; tasks = λ _. b.tasks; run = RunBounds-stays s.steps s.run b.run }

next_claim_keeps : (s : BotState) → Bounds s → BoundsBeforeStep (next_claim s)
next_claim_keeps s b = record { steps = b.steps; session = omega arith; claim = omega arith; polls = b.polls; tasks = λ _. b.tasks; run = RunBounds-stays s.steps s.run b.run }

if_almost : (c : Bool) (x y : BotState) → BoundsBeforeStep x → BoundsBeforeStep y → BoundsBeforeStep (if c then x else y)
if_almost true x y p q = p
if_almost false x y p q = q

handshake_keeps : (s : BotState) (e : BotEvent) → Bounds s → IfSome (after_handshake s e) BoundsBeforeStep
handshake_keeps s event.HandshakeOk b = phase_keeps s phase.Poll Answer b
handshake_keeps s (event.Refused number) b = phase_keeps s (phase.Stop why.Refused) Answer b
handshake_keeps s e b = tt

poll_keeps : (s : BotState) (e : BotEvent) → Bounds s → IfSome (after_poll s e) BoundsBeforeStep
poll_keeps s (event.PollSleep secs) b = phase_keeps s phase.Poll (Slept secs) b
poll_keeps s event.PollClaim b = next_claim_keeps s b
poll_keeps s event.PollTerminate b = phase_keeps s (phase.Stop why.Terminated) Answer b
poll_keeps s (event.Refused number) b = if_almost (needs_new_session (code_numbered number)) (next_session s) (enter_stop why.Refused s) (next_session_keeps s b) (phase_keeps s (phase.Stop why.Refused) Answer b)
poll_keeps s e b = tt

claim_keeps : (s : BotState) (e : BotEvent) → Bounds s → IfSome (after_claim s e) BoundsBeforeStep
claim_keeps s (event.ClaimRun x i g t) b = run_keeps s (new_run x i g t) phase.Prepare Answer b (RunBounds-new (s.steps + 1) x i g t)
claim_keeps s event.ClaimSkip b = phase_keeps s phase.Poll Answer b
claim_keeps s (event.Refused number) b =
    if_almost (needs_new_session (code_numbered number)) (next_session s) (if is_claim_over (code_numbered number) then enter phase.Poll s else enter_stop why.Refused s) (next_session_keeps s b)
    (if_almost (is_claim_over (code_numbered number)) (enter phase.Poll s) (enter_stop why.Refused s) (phase_keeps s phase.Poll Answer b) (phase_keeps s (phase.Stop why.Refused) Answer b))
claim_keeps s e b = tt

fail_start_keeps : (s : BotState) → Bounds s → BoundsBeforeStep (fail_start s)
fail_start_keeps s b = let r : RunBounds s.steps s.run = b.run in run_keeps s (fail_start s).run phase.LastSend Answer b (record { pending = r.pending; output = r.output; dropped = omega arith; duration = omega arith })

prepare_keeps : (s : BotState) (e : BotEvent) → Bounds s → IfSome (after_prepare s e) BoundsBeforeStep
prepare_keeps s event.Prepared b = phase_keeps s phase.Start Answer b
prepare_keeps s event.RunnerFailed b = fail_start_keeps s b
prepare_keeps s e b = tt

start_keeps : (s : BotState) (e : BotEvent) (m : ℕ) → Bounds s → IfSome (after_start s e m) BoundsBeforeStep
start_keeps s event.Started m b = let r : RunBounds s.steps s.run = b.run in run_keeps s (start_run m s.run) phase.Look Answer b (record { pending = r.pending; output = r.output; dropped = omega arith; duration = r.duration })
start_keeps s event.RunnerFailed m b = fail_start_keeps s b
start_keeps s e m b = tt

signalled : (s : BotState) (r : Run) (p : Phase) → Bounds s → RunBounds (s.steps + 1) r → BoundsBeforeStep (enter p (record s { run = r }))
signalled s r p b rb = run_keeps s r p Answer b rb

-- what comes of a bot whose run has just changed
record AlmostRun (s : BotState) : Type 0 where
  steps : s.steps ≤ s.limits.steps
  session : s.session ≤ s.steps
  claim : s.claim ≤ s.steps
  polls : s.polls ≤ s.limits.polls
  tasks : s.tasks ≤ s.limits.tasks - 1
  run : RunBounds (s.steps + 1) s.run

changed_run_keeps : (s : BotState) (r : Run) (p : Phase) (a : Awaited) → AlmostRun s → RunBounds (s.steps + 1) r → BoundsBeforeStep (record s { run = r; phase = p; awaited = a })
changed_run_keeps s r p a b rb = record { steps = b.steps; session = omega arith; claim = omega arith; polls = b.polls; tasks = λ _. b.tasks; run = rb }

AlmostRun-of : (s : BotState) → Bounds s → AlmostRun s
AlmostRun-of s b = record { steps = b.steps; session = b.session; claim = b.claim; polls = b.polls; tasks = b.tasks; run = RunBounds-stays s.steps s.run b.run }

RunBounds-signals : (n : ℕ) (r : Run) (t : Option ℕ) (k h i : Bool) → RunBounds n r → RunBounds n (record r { term = t; killed = k; hard_timeout = h; io_timeout = i })
RunBounds-signals n r t k h i b = record { pending = b.pending; output = b.output; dropped = b.dropped; duration = b.duration }

send_or_sleep_keeps : (s : BotState) (m : ℕ) → AlmostRun s → BoundsBeforeStep (send_or_sleep m s)
send_or_sleep_keeps s m b =
    if_almost (not s.run.abandoned && (nat_lt 0 s.run.pending || has_passed s.run.last_send (s.run.tolerance / 4) m)) (enter phase.Send s) (enter_sleep 1 phase.Look s)
    (changed_run_keeps s s.run phase.Send Answer b b.run) (changed_run_keeps s s.run phase.Look (Slept 1) b b.run)

continue_run_keeps : (s : BotState) (m : ℕ) → AlmostRun s → BoundsBeforeStep (continue_run m s)
continue_run_keeps s m b =
    let w : BoundsBeforeStep (send_or_sleep m s) = send_or_sleep_keeps s m b in
    let term : (h i : Bool) → BoundsBeforeStep (record s { run = record s.run { term = Some m; hard_timeout = h; io_timeout = i }; phase = phase.Signal Term; awaited = Answer }) =
    λ h i. changed_run_keeps s (record s.run { term = Some m; hard_timeout = h; io_timeout = i }) (phase.Signal Term) Answer b (RunBounds-signals (s.steps + 1) s.run (Some m) s.run.killed h i b.run) in
    if_almost (is_some s.run.term) _ _
    (if_almost (not s.run.killed && is_grace_over s.run.grace s.run.term m) (signal_kill s) (send_or_sleep m s)
    (changed_run_keeps s (record s.run { killed = true }) (phase.Signal Kill) Answer b (RunBounds-signals (s.steps + 1) s.run s.run.term true s.run.hard_timeout s.run.io_timeout b.run)) w)
    (if_almost s.run.stop _ _ (term s.run.hard_timeout s.run.io_timeout)
    (if_almost (is_reached s.run.started s.run.execution m) _ _ (term true s.run.io_timeout)
    (if_almost (is_reached s.run.last_output s.run.io m) _ _ (term s.run.hard_timeout true) w)))

end_command_keeps : (s : BotState) (code : ℤ) (m : ℕ) → Bounds s → BoundsBeforeStep (end_command code m s)
end_command_keeps s code m b =
    let r : RunBounds s.steps s.run = b.run in
    run_keeps s (end_run code m s.run) (if s.run.abandoned then phase.CleanUp else phase.Upload) Answer b (record { pending = r.pending; output = r.output; dropped = omega arith; duration = omega arith })

and_right : (a : Bool) (x y : ℕ) → (a && nat_le x y) ≡ true → x ≤ y
and_right true x y h = grind (arith, nat_tests)
and_right false x y h = absurd (cc)

output_keeps : (s : BotState) (size m : ℕ) (c : Bool) → (nat_le 1 size && nat_le size (most_pending - s.run.pending)) ≡ c → Bounds s →
    IfSome (if c then Some (continue_run m (with_run (add_output size m) s)) else None) BoundsBeforeStep
output_keeps s size m false h b = tt
output_keeps s size m true h b =
    continue_run_keeps (with_run (add_output size m) s) m (record { steps = b.steps; session = b.session; claim = b.claim; polls = b.polls; tasks = b.tasks; run = RunBounds-add_output s.steps size m s.run b.run (and_right (nat_le 1 size) size (most_pending - s.run.pending) h) })

look_keeps : (s : BotState) (e : BotEvent) (m : ℕ) → Bounds s → IfSome (after_look s e m) BoundsBeforeStep
look_keeps s (event.Output size) m b = output_keeps s size m (nat_le 1 size && nat_le size (most_pending - s.run.pending)) refl b
look_keeps s event.Quiet m b = continue_run_keeps s m (AlmostRun-of s b)
look_keeps s (event.Ended code) m b = end_command_keeps s code m b
look_keeps s event.RunnerFailed m b = end_command_keeps s (negsuc 0) m b
look_keeps s e m b = tt

signal_keeps : (s : BotState) (e : BotEvent) → Bounds s → IfSome (after_signal s e) BoundsBeforeStep
signal_keeps s event.Signalled b = phase_keeps s phase.Look Answer b
signal_keeps s event.RunnerFailed b = phase_keeps s phase.Look Answer b
signal_keeps s e b = tt

send_keeps : (s : BotState) (e : BotEvent) → Bounds s → IfSome (after_send s e) BoundsBeforeStep
send_keeps s (event.SendOk must_stop) b = run_keeps s (count_sent must_stop s.run) phase.Look Answer b (RunBounds-count_sent s.steps must_stop s.run b.run)
send_keeps s (event.Refused number) b = run_keeps s (apply_refusal (code_numbered number) s.run) phase.Look Answer b (RunBounds-apply_refusal s.steps (code_numbered number) s.run b.run)
send_keeps s e b = tt

upload_keeps : (s : BotState) (e : BotEvent) → Bounds s → IfSome (after_upload s e) BoundsBeforeStep
upload_keeps s event.Uploaded b = phase_keeps s phase.LastSend Answer b
upload_keeps s (event.Refused number) b = if_almost (is_store_full (code_numbered number)) (enter phase.LastSend s) (enter_stop why.Refused s) (phase_keeps s phase.LastSend Answer b) (phase_keeps s (phase.Stop why.Refused) Answer b)
upload_keeps s e b = tt

last_keeps : (s : BotState) (e : BotEvent) → Bounds s → IfSome (after_last_send s e) BoundsBeforeStep
last_keeps s (event.SendOk must_stop) b = phase_keeps s phase.CleanUp Answer b
last_keeps s (event.Refused number) b =
    if_almost (is_store_full (code_numbered number)) _ _ (run_keeps s (drop_output s.run) phase.LastSend Answer b (RunBounds-drop_output s.steps s.run b.run))
    (if_almost (abandons_run (code_numbered number)) _ _ (run_keeps s (abandon_run s.run) phase.CleanUp Answer b (RunBounds-abandon_run s.steps s.run b.run)) (phase_keeps s (phase.Stop why.Refused) Answer b))
last_keeps s e b = tt

stop_tasks : (s : BotState) (n : ℕ) (p : Phase) → is_stop p ≡ true → Bounds s → BoundsBeforeStep (record s { tasks = n; phase = p; awaited = Answer })
stop_tasks s n p is b =
    record { steps = b.steps; session = omega arith; claim = omega arith; polls = b.polls; tasks = λ h. absurd (cc); run = RunBounds-stays s.steps s.run b.run }

unless_last : (s : BotState) (c : Bool) (x y : BotState) → (c ≡ false → BoundsBeforeStep y) → BoundsBeforeStep x → BoundsBeforeStep (if c then x else y)
unless_last s true x y h a = a
unless_last s false x y h a = h refl

Bounds-next_task : (s : BotState) → Bounds s → nat_le s.limits.tasks (s.tasks + 1) ≡ false → Bounds (record s { tasks = s.tasks + 1 })
Bounds-next_task s b h = record { steps = b.steps; session = b.session; claim = b.claim; polls = b.polls; tasks = grind (arith, nat_tests); run = b.run }

end_task_keeps : (s : BotState) → Bounds s → BoundsBeforeStep (end_task s)
end_task_keeps s b =
    if_almost s.run.refused _ _ (stop_tasks s (s.tasks + 1) (phase.Stop why.Refused) refl b)
    (unless_last s (nat_le s.limits.tasks (s.tasks + 1)) _ _
    (λ h. let t : BotState = record s { tasks = s.tasks + 1 } in
    if_almost s.run.abandoned (next_session t) (enter phase.Poll t) (next_session_keeps t (Bounds-next_task s b h)) (phase_keeps t phase.Poll Answer (Bounds-next_task s b h)))
    (stop_tasks s (s.tasks + 1) (phase.Stop why.Tasks) refl b))

clean_keeps : (s : BotState) (e : BotEvent) → Bounds s → IfSome (after_clean_up s e) BoundsBeforeStep
clean_keeps s event.Cleaned b = end_task_keeps s b
clean_keeps s event.RunnerFailed b = end_task_keeps s b
clean_keeps s e b = tt

answer_keeps : (s : BotState) (p : Phase) (e : BotEvent) (m : ℕ) → Bounds s → IfSome (after_answer s p e m) BoundsBeforeStep
answer_keeps s phase.Handshake e m b = handshake_keeps s e b
answer_keeps s phase.Poll e m b = poll_keeps s e b
answer_keeps s phase.Claim e m b = claim_keeps s e b
answer_keeps s phase.Prepare e m b = prepare_keeps s e b
answer_keeps s phase.Start e m b = start_keeps s e m b
answer_keeps s phase.Look e m b = look_keeps s e m b
answer_keeps s (phase.Signal signal) e m b = signal_keeps s e b
answer_keeps s phase.Send e m b = send_keeps s e b
answer_keeps s phase.LastSend e m b = last_keeps s e b
answer_keeps s phase.Upload e m b = upload_keeps s e b
answer_keeps s phase.CleanUp e m b = clean_keeps s e b
answer_keeps s (phase.Stop why) e m b = tt

begin_keeps : (s : BotState) (e : BotEvent) (m : ℕ) → Bounds s → IfSome (after_begin s e m) BoundsBeforeStep
begin_keeps s event.Begin m b = next_session_keeps (record s { first = m }) (record { steps = b.steps; session = b.session; claim = b.claim; polls = b.polls; tasks = b.tasks; run = b.run })
begin_keeps s e m b = tt

wake_keeps : (s : BotState) (e : BotEvent) → Bounds s → IfSome (after_sleep s e) BoundsBeforeStep
wake_keeps s event.Slept b = phase_keeps s s.phase Answer b
wake_keeps s e b = tt

if_some_keeps : (c : Bool) (x y : Option BotState) → IfSome x BoundsBeforeStep → IfSome y BoundsBeforeStep → IfSome (if c then x else y) BoundsBeforeStep
if_some_keeps true x y p q = p
if_some_keeps false x y p q = q

after_event_keeps : (s : BotState) (a : Awaited) (e : BotEvent) (m : ℕ) → Bounds s → IfSome (after_event s a e m) BoundsBeforeStep
after_event_keeps s Begin e m b = begin_keeps s e m b
after_event_keeps s (Slept secs) e m b = wake_keeps s e b
after_event_keeps s Answer e m b = if_some_keeps (sends_request s.phase && is_transient e) (Some (enter_sleep 5 s.phase s)) (after_answer s s.phase e m) (phase_keeps s s.phase (Slept 5) b) (answer_keeps s s.phase e m b)

next_keeps : (s : BotState) (c : Bool) (e : BotEvent) (m : ℕ) → (c ≡ false → Bounds s) → IfSome (if c then None else after_event s s.awaited e m) BoundsBeforeStep
next_keeps s true e m b = tt
next_keeps s false e m b = after_event_keeps s s.awaited e m (b refl)

-- ---- the step is counted

count_poll_keeps : (s : BotState) (c : Bool) → nat_le s.limits.polls s.polls ≡ c → BoundsBeforeStep s → BoundsBeforeStep (if c then enter_stop why.Polls s else record s { polls = s.polls + 1 })
count_poll_keeps s true h b = record { steps = b.steps; session = b.session; claim = b.claim; polls = b.polls; tasks = λ e. absurd (cc); run = b.run }
count_poll_keeps s false h b = record { steps = b.steps; session = b.session; claim = b.claim; polls = grind (arith, nat_tests); tasks = b.tasks; run = b.run }

record_action_keeps : (a : Action) (m : ℕ) (s : BotState) → BoundsBeforeStep s → BoundsBeforeStep (record_action a m s)
record_action_keeps action.Poll m s b =
    count_poll_keeps s (nat_le s.limits.polls s.polls) refl b
record_action_keeps (action.Send start size last) m s b = let r : RunBounds (s.steps + 1) s.run = b.run in
    record { steps = b.steps; session = b.session; claim = b.claim; polls = b.polls; tasks = b.tasks; run = record { pending = r.pending; output = r.output; dropped = r.dropped; duration = r.duration } }
record_action_keeps a m s b = b

count_step_keeps : (s : BotState) (c : Bool) → nat_le s.limits.steps s.steps ≡ c → BoundsBeforeStep s → InBounds (if c then enter_stop why.Steps s else record s { steps = s.steps + 1 })
count_step_keeps s true h b = λ e. absurd (cc)
count_step_keeps s false h b = λ e. record { steps = grind (arith, nat_tests); session = b.session; claim = b.claim; polls = b.polls; tasks = b.tasks e; run = b.run }

issue_action_keeps : (m : ℕ) (s : BotState) → BoundsBeforeStep s → InBounds (issue_action m s)
issue_action_keeps m s b = let t : BotState = record_action (action_of s) m s in count_step_keeps t (nat_le t.limits.steps t.steps) refl (record_action_keeps (action_of s) m s b)

pub stepped_keeps : (s t : BotState) (e : BotEvent) (m : ℕ) → InBounds s → next_state s e m ≡ Some t → InBounds (issue_action m t)
stepped_keeps s t e m b is = issue_action_keeps m t (let P : Option BotState → Type 0 = λ o. IfSome o BoundsBeforeStep in subst P is (next_keeps s (is_stop s.phase) e m b))

some_mapped : {A B : Type 0} (f : A → B) (o : Option A) → is_some o ≡ is_some (option_map f o)
some_mapped f None = refl
some_mapped f (Some x) = refl

pub stepped_takes : (s : BotState) (e : BotEvent) (m n : ℕ) → is_some (next_state s e n) ≡ is_some (stepped s e m)
stepped_takes s e m n = next_takes s e n m ∙ some_mapped (issue_action m) (next_state s e m)

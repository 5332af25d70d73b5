-- A step of the bot: what it does to the count of steps, to the run and to the pending output.
use Rattle.std.proofs.Common.{◌≡◌, ℕ, ◌+◌, ◌-◌, ◌/◌, ◌<◌, Bool, true, false, not, ◌&&◌, ◌||◌, ◌==◌, if◌then◌else◌, nat_le, nat_lt, Option, Some, None, is_some, IfSome, negsuc, ◌⊎◌, inl, inr, refl, ap, subst, arith}
use Rattle.std.proofs.lemmas.Bool.Decides.{nat_tests}
use Rattle.std.specs.Option.{option_map}
use Rattle.refusal_codes.specs.Codes.{code_numbered}
use Rattle.bot_core.specs.declared.run.Run.{Run}
use Rattle.bot_turns.specs.Types.{Signal, Action, BotEvent, BotState, Phase, Awaited, Begin, Answer, Slept}
use Rattle.bot_core.specs.declared.action.StopWhy.TheVariants as why
use Rattle.bot_core.specs.declared.action.Action.TheVariants as action
use Rattle.bot_core.specs.declared.bot_event.BotEvent.TheVariants as event
use Rattle.bot_core.specs.declared.bot_state.Phase.TheVariants as phase
use Rattle.bot_core.specs.RunChanges.{most_pending, drop_output, abandon_run, is_dropped, add_output, has_passed, is_reached, is_grace_over, end_run}
use Rattle.bot_core.specs.Table.{enter, enter_stop, enter_sleep, next_session, with_run, is_transient, needs_new_session, is_claim_over, is_store_full, abandons_run, sends_request, after_handshake, after_poll, after_claim, after_prepare, after_start, signal_term, signal_kill, send_or_sleep, continue_run, after_look, after_signal, after_send, after_upload, after_last_send, end_task, after_clean_up, after_answer, after_begin, after_sleep, after_event, is_stop, next_state, action_of, record_action, issue_action, stepped}
use Rattle.bot_turns.specs.Runs.{takes_events, has_run}

-- the size of an output
abbrev pub output_size : BotEvent → ℕ
output_size (event.Output size) = size
output_size e = 0

abbrev pub is_claim_run : BotEvent → Bool
is_claim_run (event.ClaimRun execution io grace tolerance) = true
is_claim_run e = false

-- the pending output is as it was, or gone, or grew by an output
abbrev pub PendingAfter : ℕ → BotEvent → ℕ → Type 0
PendingAfter before e after = (after ≡ before) ⊎ ((after ≡ 0) ⊎ (after ≡ before + output_size e))

-- a phase that has a run came behind one, or behind the claim of a run
abbrev pub keeps_run : Phase → BotEvent → Phase → Bool
keeps_run p e q = (has_run p || is_claim_run e) || not (has_run q)

-- Behind an event, before the step is counted. `p` was the phase.
abbrev StepsTo : Phase → BotEvent → BotState → BotState → Type 0
StepsTo p e s t =
    (takes_events t.phase t.awaited ≡ true) × (t.steps ≡ s.steps) × (t.limits.steps ≡ s.limits.steps)
    × PendingAfter s.run.pending e t.run.pending × (keeps_run p e t.phase ≡ true)

-- ---- the rows

if_follows : (p : Phase) (e : BotEvent) (s : BotState) (c : Bool) (a b : BotState) → StepsTo p e s a → StepsTo p e s b → StepsTo p e s (if c then a else b)
if_follows p e s true a b f g = f
if_follows p e s false a b f g = g

some_follows : (p : Phase) (e : BotEvent) (s : BotState) (c : Bool) (a b : Option BotState) → IfSome a (StepsTo p e s) → IfSome b (StepsTo p e s) → IfSome (if c then a else b) (StepsTo p e s)
some_follows p e s true a b f g = f
some_follows p e s false a b f g = g

after_handshake_follows : (s : BotState) (e : BotEvent) → IfSome (after_handshake s e) (StepsTo phase.Handshake e s)
after_handshake_follows s event.HandshakeOk = (refl, refl, refl, inl refl, refl)
after_handshake_follows s (event.Refused number) = (refl, refl, refl, inl refl, refl)
after_handshake_follows s e = tt

after_poll_follows : (s : BotState) (e : BotEvent) → IfSome (after_poll s e) (StepsTo phase.Poll e s)
after_poll_follows s (event.PollSleep secs) = (refl, refl, refl, inl refl, refl)
after_poll_follows s event.PollClaim = (refl, refl, refl, inl refl, refl)
after_poll_follows s event.PollTerminate = (refl, refl, refl, inl refl, refl)
after_poll_follows s (event.Refused number) =
    if_follows phase.Poll (event.Refused number) s (needs_new_session (code_numbered number)) (next_session s) (enter_stop why.Refused s) (refl, refl, refl, inl refl, refl) (refl, refl, refl, inl refl, refl)
after_poll_follows s e = tt

after_claim_follows : (s : BotState) (e : BotEvent) → IfSome (after_claim s e) (StepsTo phase.Claim e s)
after_claim_follows s (event.ClaimRun execution io grace tolerance) = (refl, refl, refl, inr (inl refl), refl)
after_claim_follows s event.ClaimSkip = (refl, refl, refl, inl refl, refl)
after_claim_follows s (event.Refused number) =
    if_follows phase.Claim (event.Refused number) s (needs_new_session (code_numbered number)) (next_session s) _ (refl, refl, refl, inl refl, refl)
    (if_follows phase.Claim (event.Refused number) s (is_claim_over (code_numbered number)) (enter phase.Poll s) (enter_stop why.Refused s) (refl, refl, refl, inl refl, refl) (refl, refl, refl, inl refl, refl))
after_claim_follows s e = tt

after_prepare_follows : (s : BotState) (e : BotEvent) → IfSome (after_prepare s e) (StepsTo phase.Prepare e s)
after_prepare_follows s event.Prepared = (refl, refl, refl, inl refl, refl)
after_prepare_follows s event.RunnerFailed = (refl, refl, refl, inl refl, refl)
after_prepare_follows s e = tt

after_start_follows : (s : BotState) (e : BotEvent) (m : ℕ) → IfSome (after_start s e m) (StepsTo phase.Start e s)
after_start_follows s event.Started m = (refl, refl, refl, inl refl, refl)
after_start_follows s event.RunnerFailed m = (refl, refl, refl, inl refl, refl)
after_start_follows s e m = tt

-- a state from which a run goes on
abbrev SameCounts : BotEvent → BotState → BotState → Type 0
SameCounts e s t = (t.steps ≡ s.steps) × (t.limits.steps ≡ s.limits.steps) × PendingAfter s.run.pending e t.run.pending

send_or_sleep_follows : (e : BotEvent) (s t : BotState) (m : ℕ) → SameCounts e s t → StepsTo phase.Look e s (send_or_sleep m t)
send_or_sleep_follows e s t m g =
    if_follows phase.Look e s (not t.run.abandoned && (nat_lt 0 t.run.pending || has_passed t.run.last_send (t.run.tolerance / 4) m)) (enter phase.Send t) (enter_sleep 1 phase.Look t)
    (refl, g.0, g.1, g.2, refl) (refl, g.0, g.1, g.2, refl)

continue_run_follows : (e : BotEvent) (s t : BotState) (m : ℕ) → SameCounts e s t → StepsTo phase.Look e s (continue_run m t)
continue_run_follows e s t m g =
    let k : StepsTo phase.Look e s (send_or_sleep m t) = send_or_sleep_follows e s t m g in
    if_follows phase.Look e s (is_some t.run.term) _ _
    (if_follows phase.Look e s (not t.run.killed && is_grace_over t.run.grace t.run.term m) (signal_kill t) (send_or_sleep m t) (refl, g.0, g.1, g.2, refl) k)
    (if_follows phase.Look e s t.run.stop (signal_term (λ r. r) m t) _ (refl, g.0, g.1, g.2, refl)
    (if_follows phase.Look e s (is_reached t.run.started t.run.execution m) (signal_term (λ r. record r { hard_timeout = true }) m t) _ (refl, g.0, g.1, g.2, refl)
    (if_follows phase.Look e s (is_reached t.run.last_output t.run.io m) (signal_term (λ r. record r { io_timeout = true }) m t) (send_or_sleep m t) (refl, g.0, g.1, g.2, refl) k)))

grows_if : (c : Bool) (before size : ℕ) (a b : Run) → a.pending ≡ before → b.pending ≡ before + size → PendingAfter before (event.Output size) (if c then a else b).pending
grows_if true before size a b f g = inl f
grows_if false before size a b f g = inr (inr g)

end_command_follows : (e : BotEvent) (s : BotState) (c : Bool) (r : Run) → r.pending ≡ s.run.pending → StepsTo phase.Look e s (enter (if c then phase.CleanUp else phase.Upload) (with_run (λ _. r) s))
end_command_follows e s true r f = (refl, refl, refl, inl f, refl)
end_command_follows e s false r f = (refl, refl, refl, inl f, refl)

after_look_follows : (s : BotState) (e : BotEvent) (m : ℕ) → IfSome (after_look s e m) (StepsTo phase.Look e s)
after_look_follows s (event.Output size) m =
    some_follows phase.Look (event.Output size) s (nat_le 1 size && nat_le size (most_pending - s.run.pending)) (Some (continue_run m (with_run (add_output size m) s))) None
    (continue_run_follows (event.Output size) s (with_run (add_output size m) s) m (refl, refl, grows_if (is_dropped size s.run) s.run.pending size _ _ refl refl)) tt
after_look_follows s event.Quiet m = continue_run_follows event.Quiet s s m (refl, refl, inl refl)
after_look_follows s (event.Ended code) m = end_command_follows (event.Ended code) s s.run.abandoned (end_run code m s.run) refl
after_look_follows s event.RunnerFailed m = end_command_follows event.RunnerFailed s s.run.abandoned (end_run (negsuc 0) m s.run) refl
after_look_follows s e m = tt

after_signal_follows : (s : BotState) (signal : Signal) (e : BotEvent) → IfSome (after_signal s e) (StepsTo (phase.Signal signal) e s)
after_signal_follows s signal event.Signalled = (refl, refl, refl, inl refl, refl)
after_signal_follows s signal event.RunnerFailed = (refl, refl, refl, inl refl, refl)
after_signal_follows s signal e = tt

-- a refusal lets all pending output go
refused_pending : (c d : Bool) (a b e : Run) → a.pending ≡ 0 → b.pending ≡ 0 → e.pending ≡ 0 → (if c then a else (if d then b else e)).pending ≡ 0
refused_pending true d a b e f g h = f
refused_pending false true a b e f g h = g
refused_pending false false a b e f g h = h

after_send_follows : (s : BotState) (e : BotEvent) → IfSome (after_send s e) (StepsTo phase.Send e s)
after_send_follows s (event.SendOk must_stop) = (refl, refl, refl, inr (inl refl), refl)
after_send_follows s (event.Refused number) =
    (refl, refl, refl, inr (inl (refused_pending (is_store_full (code_numbered number)) (abandons_run (code_numbered number)) (drop_output s.run) (abandon_run s.run) _ refl refl refl)), refl)
after_send_follows s e = tt

after_upload_follows : (s : BotState) (e : BotEvent) → IfSome (after_upload s e) (StepsTo phase.Upload e s)
after_upload_follows s event.Uploaded = (refl, refl, refl, inl refl, refl)
after_upload_follows s (event.Refused number) =
    if_follows phase.Upload (event.Refused number) s (is_store_full (code_numbered number)) (enter phase.LastSend s) (enter_stop why.Refused s) (refl, refl, refl, inl refl, refl) (refl, refl, refl, inl refl, refl)
after_upload_follows s e = tt

after_last_send_follows : (s : BotState) (e : BotEvent) → IfSome (after_last_send s e) (StepsTo phase.LastSend e s)
after_last_send_follows s (event.SendOk must_stop) = (refl, refl, refl, inl refl, refl)
after_last_send_follows s (event.Refused number) =
    if_follows phase.LastSend (event.Refused number) s (is_store_full (code_numbered number)) (enter phase.LastSend (with_run drop_output s)) _ (refl, refl, refl, inr (inl refl), refl)
    (if_follows phase.LastSend (event.Refused number) s (abandons_run (code_numbered number)) (enter phase.CleanUp (with_run abandon_run s)) (enter_stop why.Refused s) (refl, refl, refl, inr (inl refl), refl) (refl, refl, refl, inl refl, refl))
after_last_send_follows s e = tt

end_task_follows : (e : BotEvent) (s : BotState) → StepsTo phase.CleanUp e s (end_task s)
end_task_follows e s =
    let t : BotState = record s { tasks = s.tasks + 1 } in
    if_follows phase.CleanUp e s t.run.refused (enter_stop why.Refused t) _ (refl, refl, refl, inl refl, refl)
    (if_follows phase.CleanUp e s (nat_le t.limits.tasks t.tasks) (enter_stop why.Tasks t) _ (refl, refl, refl, inl refl, refl)
    (if_follows phase.CleanUp e s t.run.abandoned (next_session t) (enter phase.Poll t) (refl, refl, refl, inl refl, refl) (refl, refl, refl, inl refl, refl)))

after_clean_up_follows : (s : BotState) (e : BotEvent) → IfSome (after_clean_up s e) (StepsTo phase.CleanUp e s)
after_clean_up_follows s event.Cleaned = end_task_follows event.Cleaned s
after_clean_up_follows s event.RunnerFailed = end_task_follows event.RunnerFailed s
after_clean_up_follows s e = tt

after_answer_follows : (s : BotState) (p : Phase) (e : BotEvent) (m : ℕ) → IfSome (after_answer s p e m) (StepsTo p e s)
after_answer_follows s phase.Handshake e m = after_handshake_follows s e
after_answer_follows s phase.Poll e m = after_poll_follows s e
after_answer_follows s phase.Claim e m = after_claim_follows s e
after_answer_follows s phase.Prepare e m = after_prepare_follows s e
after_answer_follows s phase.Start e m = after_start_follows s e m
after_answer_follows s phase.Look e m = after_look_follows s e m
after_answer_follows s (phase.Signal signal) e m = after_signal_follows s signal e
after_answer_follows s phase.Send e m = after_send_follows s e
after_answer_follows s phase.LastSend e m = after_last_send_follows s e
after_answer_follows s phase.Upload e m = after_upload_follows s e
after_answer_follows s phase.CleanUp e m = after_clean_up_follows s e
after_answer_follows s (phase.Stop why) e m = tt

-- ---- all events

or_true : (b : Bool) → (b || true) ≡ true
or_true true = refl
or_true false = refl

or_not : (b c : Bool) → ((b || c) || not b) ≡ true
or_not true c = refl
or_not false c = or_true c

after_begin_follows : (s : BotState) (e : BotEvent) (m : ℕ) → IfSome (after_begin s e m) (StepsTo s.phase e s)
after_begin_follows s event.Begin m = (refl, refl, refl, inl refl, or_true (has_run s.phase || false))
after_begin_follows s e m = tt

after_sleep_follows : (s : BotState) (e : BotEvent) → IfSome (after_sleep s e) (StepsTo s.phase e s)
after_sleep_follows s event.Slept = (refl, refl, refl, inl refl, or_not (has_run s.phase) false)
after_sleep_follows s e = tt

-- a sleep is followed by a request
takes_after_sleep : (p : Phase) (b : Bool) → (sends_request p && b) ≡ true → takes_events p (Slept 5) ≡ true
takes_after_sleep (phase.Stop why) b h = absurd (cc)
takes_after_sleep p b h = refl

asked_follows : (p : Phase) (e : BotEvent) (s : BotState) (c : Bool) (a b : Option BotState) → (c ≡ true → IfSome a (StepsTo p e s)) → IfSome b (StepsTo p e s) → IfSome (if c then a else b) (StepsTo p e s)
asked_follows p e s true a b f g = f refl
asked_follows p e s false a b f g = g

after_event_follows : (s : BotState) (a : Awaited) (e : BotEvent) (m : ℕ) → IfSome (after_event s a e m) (StepsTo s.phase e s)
after_event_follows s Begin e m = after_begin_follows s e m
after_event_follows s (Slept secs) e m = after_sleep_follows s e
after_event_follows s Answer e m =
    asked_follows s.phase e s (sends_request s.phase && is_transient e) (Some (enter_sleep 5 s.phase s)) (after_answer s s.phase e m)
    (λ k. (takes_after_sleep s.phase (is_transient e) k, refl, refl, inl refl, or_not (has_run s.phase) (is_claim_run e))) (after_answer_follows s s.phase e m)

next_state_follows : (s : BotState) (e : BotEvent) (m : ℕ) → IfSome (next_state s e m) (StepsTo s.phase e s)
next_state_follows s e m = some_follows s.phase e s (is_stop s.phase) None (after_event s s.awaited e m) tt (after_event_follows s s.awaited e m)

-- ---- the limits

-- A step: an event can come next, and the step counts or the bot has stopped.
pub record IsCounted (s : BotState) (e : BotEvent) (t : BotState) : Type 0 where
  pub events : takes_events t.phase t.awaited ≡ true
  pub limit : t.limits.steps ≡ s.limits.steps
  pub more : (is_stop t.phase ≡ true) ⊎ ((t.steps ≡ s.steps + 1) × (s.steps < s.limits.steps))
  pub pending : PendingAfter s.run.pending e t.run.pending
  pub run : keeps_run s.phase e t.phase ≡ true

record_action_follows : (p : Phase) (e : BotEvent) (a : Action) (m : ℕ) (s t : BotState) → StepsTo p e s t → StepsTo p e s (record_action a m t)
record_action_follows p e action.Poll m s t f =
    if_follows p e s (nat_le t.limits.polls t.polls) (enter_stop why.Polls t) (record t { polls = t.polls + 1 })
    (refl, f.1, f.2, f.3, or_true (has_run p || is_claim_run e)) f
record_action_follows p e (action.Send start size last) m s t f = f
record_action_follows p e a m s t f = f

count_step_counts : (s u : BotState) (e : BotEvent) (c : Bool) → nat_le u.limits.steps u.steps ≡ c → StepsTo s.phase e s u → IsCounted s e (if c then enter_stop why.Steps u else record u { steps = u.steps + 1 })
count_step_counts s u e true h f =
    record { events = refl; limit = f.2; more = inl refl; pending = f.3; run = or_true (has_run s.phase || is_claim_run e) }
count_step_counts s u e false h f =
    record { events = f.0; limit = f.2; more = inr (ap (λ n. n + 1) f.1, grind (arith, nat_tests, h, f.1, f.2)); pending = f.3; run = f.4 }

issue_action_counts : (m : ℕ) (s : BotState) (e : BotEvent) (t : BotState) → StepsTo s.phase e s t → IsCounted s e (issue_action m t)
issue_action_counts m s e t f =
    let u : BotState = record_action (action_of t) m t in
    count_step_counts s u e (nat_le u.limits.steps u.steps) refl (record_action_follows s.phase e (action_of t) m s t f)

map_counts : (s : BotState) (e : BotEvent) (o : Option BotState) (m : ℕ) → IfSome o (StepsTo s.phase e s) → IfSome (option_map (issue_action m) o) (IsCounted s e)
map_counts s e None m f = tt
map_counts s e (Some t) m f = issue_action_counts m s e t f

pub stepped_counts : (s t : BotState) (e : BotEvent) (m : ℕ) → stepped s e m ≡ Some t → IsCounted s e t
stepped_counts s t e m h = subst (λ x. IfSome x (IsCounted s e)) h (map_counts s e (next_state s e m) m (next_state_follows s e m))

-- The table of a bot: its next state, by its phase and the event.
use Rattle.std.specs.Prelude.{ℕ, ◌+◌, ◌-◌, ◌/◌, ◌==◌, ◌&&◌, ◌||◌, not, nat_le, nat_lt, Bool, true, false, Option, Some, None, is_some, ℤ, negsuc, if◌then◌else◌}
use Rattle.std.specs.Option.{option_map, option_map_or}
use Rattle.bot_core.specs.Types.{RefusalCode, Run, Action, Term, Kill, StopWhy, BotEvent, BotLimits, BotState, Phase, Awaited, Begin, Answer, Slept}
use Rattle.refusal_codes.specs.declared.refusal_code.RefusalCode.TheVariants as code
use Rattle.refusal_codes.specs.Codes.{code_numbered, is_transient_code}
use Rattle.bot_core.specs.declared.action.Action.TheVariants as action
use Rattle.bot_core.specs.declared.action.StopWhy.TheVariants as why
use Rattle.bot_core.specs.declared.bot_event.BotEvent.TheVariants as event
use Rattle.bot_core.specs.declared.bot_state.Phase.TheVariants as phase
use Rattle.bot_core.specs.RunChanges.{most_pending, new_run, start_run, drop_output, abandon_run, count_sent, add_output, has_passed, is_reached, is_grace_over, end_run, end_of}

-- what a bot keeps before its begin
abbrev pub opening : BotLimits → BotState
opening limits =
    record {
      limits = limits;
      first = 0;
      session = 0;
      claim = 0;
      polls = 0;
      tasks = 0;
      steps = 0;
      phase = phase.Handshake;
      awaited = Begin;
      run = new_run 0 0 0 0;
    }

-- ---- the action of a state

-- the action of a phase
abbrev pub phase_action : BotState → Phase → Action
phase_action s phase.Handshake = action.Handshake s.first s.session
phase_action s phase.Poll = action.Poll
phase_action s phase.Claim = action.Claim s.first s.session s.claim
phase_action s phase.Prepare = action.Prepare
phase_action s phase.Start = action.Start
phase_action s phase.Look = action.Look (most_pending - s.run.pending)
phase_action s (phase.Signal signal) = action.Signal signal
phase_action s phase.Send = action.Send s.run.sent s.run.pending None
phase_action s phase.LastSend = action.Send s.run.sent s.run.pending (Some (end_of s.run))
phase_action s phase.Upload = action.Upload
phase_action s phase.CleanUp = action.CleanUp
phase_action s (phase.Stop why) = action.Stop why s.tasks

-- the action of the phase, or the sleep before it
abbrev pub awaited_action : BotState → Awaited → Action
awaited_action s (Slept secs) = action.Sleep secs
awaited_action s Begin = phase_action s s.phase
awaited_action s Answer = phase_action s s.phase

abbrev pub action_of : BotState → Action
action_of s = awaited_action s s.awaited

-- ---- changes of the state

-- the bot does the action of the phase next
abbrev pub enter : Phase → BotState → BotState
enter phase s = record s { phase = phase; awaited = Answer }

abbrev pub enter_stop : StopWhy → BotState → BotState
enter_stop why s = enter (phase.Stop why) s

-- it sleeps, and does the action of the phase then
abbrev pub enter_sleep : ℕ → Phase → BotState → BotState
enter_sleep secs phase s = record s { phase = phase; awaited = Slept secs }

-- a Handshake with the next session
abbrev pub next_session : BotState → BotState
next_session s = enter phase.Handshake (record s { session = s.session + 1; claim = 0 })

-- a Claim with the next id
abbrev pub next_claim : BotState → BotState
next_claim s = enter phase.Claim (record s { claim = s.claim + 1 })

abbrev pub with_run : (Run → Run) → BotState → BotState
with_run change s = record s { run = change s.run }

-- ---- kinds of refusals and of phases

-- the answer is lost, or the pool can't act now
abbrev pub is_transient : BotEvent → Bool
is_transient event.Lost = true
is_transient (event.Refused number) = option_map_or is_transient_code (code_numbered number) false
is_transient event = false

-- the pool doesn't know the bot, or holds it for unfit
abbrev pub needs_new_session : Option RefusalCode → Bool
needs_new_session (Some code.NoBot) = true
needs_new_session (Some code.BotUnfit) = true
needs_new_session other = false

abbrev pub is_claim_over : Option RefusalCode → Bool
is_claim_over (Some code.ClaimOver) = true
is_claim_over other = false

abbrev pub is_store_full : Option RefusalCode → Bool
is_store_full (Some code.StoreFull) = true
is_store_full other = false

-- the pool doesn't take updates of the run: it knows no such task or bot, the run is another bot's or over
abbrev pub abandons_run : Option RefusalCode → Bool
abandons_run (Some code.NoTask) = true
abandons_run (Some code.NoBot) = true
abandons_run (Some code.NotClaimant) = true
abandons_run (Some code.AttemptOver) = true
abandons_run other = false

-- phases whose action sends requests
abbrev pub sends_request : Phase → Bool
sends_request phase.Handshake = true
sends_request phase.Poll = true
sends_request phase.Claim = true
sends_request phase.Prepare = true
sends_request phase.Send = true
sends_request phase.LastSend = true
sends_request phase.Upload = true
sends_request phase = false

-- ---- the rows, by the phase and the event; None: such an event can't come

abbrev pub after_handshake : BotState → BotEvent → Option BotState
after_handshake s event.HandshakeOk = Some (enter phase.Poll s)
after_handshake s (event.Refused number) = Some (enter_stop why.Refused s)
after_handshake s event = None

abbrev pub after_poll : BotState → BotEvent → Option BotState
after_poll s (event.PollSleep secs) = Some (enter_sleep secs phase.Poll s)
after_poll s event.PollClaim = Some (next_claim s)
after_poll s event.PollTerminate = Some (enter_stop why.Terminated s)
after_poll s (event.Refused number) = Some (if needs_new_session (code_numbered number) then next_session s else enter_stop why.Refused s)
after_poll s event = None

abbrev pub after_claim : BotState → BotEvent → Option BotState
after_claim s (event.ClaimRun execution io grace tolerance) =
    Some (enter phase.Prepare (with_run (λ _. new_run execution io grace tolerance) s))
after_claim s event.ClaimSkip = Some (enter phase.Poll s)
after_claim s (event.Refused number) =
    Some (if needs_new_session (code_numbered number) then next_session s
    else if is_claim_over (code_numbered number) then enter phase.Poll s
    else enter_stop why.Refused s)
after_claim s event = None

-- nothing was started: the end is reported at once
abbrev pub fail_start : BotState → BotState
fail_start s = enter phase.LastSend (with_run (λ r. record r { exit_code = negsuc 0; duration_ms = 0 }) s)

abbrev pub after_prepare : BotState → BotEvent → Option BotState
after_prepare s event.Prepared = Some (enter phase.Start s)
after_prepare s event.RunnerFailed = Some (fail_start s)
after_prepare s event = None

abbrev pub after_start : BotState → BotEvent → ℕ → Option BotState
after_start s event.Started m = Some (enter phase.Look (with_run (start_run m) s))
after_start s event.RunnerFailed m = Some (fail_start s)
after_start s event m = None

-- the command has ended
abbrev pub end_command : ℤ → ℕ → BotState → BotState
end_command code m s = enter (if s.run.abandoned then phase.CleanUp else phase.Upload) (with_run (end_run code m) s)

abbrev pub signal_term : (Run → Run) → ℕ → BotState → BotState
signal_term change m s = enter (phase.Signal Term) (with_run (λ r. record (change r) { term = Some m }) s)

abbrev pub signal_kill : BotState → BotState
signal_kill s = enter (phase.Signal Kill) (with_run (λ r. record r { killed = true }) s)

-- an update, where output is pending or the server waits for one; else a sleep before the next Look
abbrev pub send_or_sleep : ℕ → BotState → BotState
send_or_sleep m s =
    if not s.run.abandoned && (nat_lt 0 s.run.pending || has_passed s.run.last_send (s.run.tolerance / 4) m)
    then enter phase.Send s
    else enter_sleep 1 phase.Look s

-- the command runs on: the first that holds
abbrev pub continue_run : ℕ → BotState → BotState
continue_run m s =
    if is_some s.run.term
    then (if not s.run.killed && is_grace_over s.run.grace s.run.term m then signal_kill s else send_or_sleep m s)
    else if s.run.stop then signal_term (λ r. r) m s
    else if is_reached s.run.started s.run.execution m then signal_term (λ r. record r { hard_timeout = true }) m s
    else if is_reached s.run.last_output s.run.io m then signal_term (λ r. record r { io_timeout = true }) m s
    else send_or_sleep m s

abbrev pub after_look : BotState → BotEvent → ℕ → Option BotState
after_look s (event.Output size) m =
    if nat_le 1 size && nat_le size (most_pending - s.run.pending) then Some (continue_run m (with_run (add_output size m) s)) else None
after_look s event.Quiet m = Some (continue_run m s)
after_look s (event.Ended code) m = Some (end_command code m s)
after_look s event.RunnerFailed m = Some (end_command (negsuc 0) m s)
after_look s event m = None

abbrev pub after_signal : BotState → BotEvent → Option BotState
after_signal s event.Signalled = Some (enter phase.Look s)
after_signal s event.RunnerFailed = Some (enter phase.Look s)
after_signal s event = None

-- an update was refused while the command runs: there is no room for its output, or the run is abandoned
abbrev pub apply_refusal : Option RefusalCode → Run → Run
apply_refusal code r =
    if is_store_full code then drop_output r
    else if abandons_run code then abandon_run r
    else record (abandon_run r) { refused = true }

abbrev pub after_send : BotState → BotEvent → Option BotState
after_send s (event.SendOk must_stop) = Some (enter phase.Look (with_run (count_sent must_stop) s))
after_send s (event.Refused number) = Some (enter phase.Look (with_run (apply_refusal (code_numbered number)) s))
after_send s event = None

abbrev pub after_upload : BotState → BotEvent → Option BotState
after_upload s event.Uploaded = Some (enter phase.LastSend s)
after_upload s (event.Refused number) = Some (if is_store_full (code_numbered number) then enter phase.LastSend s else enter_stop why.Refused s)
after_upload s event = None

-- the last update was refused
abbrev pub after_refused_end : BotState → Option RefusalCode → BotState
after_refused_end s code =
    if is_store_full code then enter phase.LastSend (with_run drop_output s)
    else if abandons_run code then enter phase.CleanUp (with_run abandon_run s)
    else enter_stop why.Refused s

abbrev pub after_last_send : BotState → BotEvent → Option BotState
after_last_send s (event.SendOk must_stop) = Some (enter phase.CleanUp s)
after_last_send s (event.Refused number) = Some (after_refused_end s (code_numbered number))
after_last_send s event = None

-- the run is over: the first that holds
abbrev pub after_task : BotState → BotState
after_task s =
    if s.run.refused then enter_stop why.Refused s
    else if nat_le s.limits.tasks s.tasks then enter_stop why.Tasks s
    else if s.run.abandoned then next_session s
    else enter phase.Poll s

-- and counts as a task
abbrev pub end_task : BotState → BotState
end_task s = after_task (record s { tasks = s.tasks + 1 })

abbrev pub after_clean_up : BotState → BotEvent → Option BotState
after_clean_up s event.Cleaned = Some (end_task s)
after_clean_up s event.RunnerFailed = Some (end_task s)
after_clean_up s event = None

abbrev pub after_answer : BotState → Phase → BotEvent → ℕ → Option BotState
after_answer s phase.Handshake event m = after_handshake s event
after_answer s phase.Poll event m = after_poll s event
after_answer s phase.Claim event m = after_claim s event
after_answer s phase.Prepare event m = after_prepare s event
after_answer s phase.Start event m = after_start s event m
after_answer s phase.Look event m = after_look s event m
after_answer s (phase.Signal signal) event m = after_signal s event
after_answer s phase.Send event m = after_send s event
after_answer s phase.LastSend event m = after_last_send s event
after_answer s phase.Upload event m = after_upload s event
after_answer s phase.CleanUp event m = after_clean_up s event
after_answer s (phase.Stop why) event m = None

-- the first session is named by the moment
abbrev pub after_begin : BotState → BotEvent → ℕ → Option BotState
after_begin s event.Begin m = Some (next_session (record s { first = m }))
after_begin s event m = None

abbrev pub after_sleep : BotState → BotEvent → Option BotState
after_sleep s event.Slept = Some (enter s.phase s)
after_sleep s event = None

abbrev pub after_event : BotState → Awaited → BotEvent → ℕ → Option BotState
after_event s Begin event m = after_begin s event m
after_event s (Slept secs) event m = after_sleep s event
after_event s Answer event m =
    if sends_request s.phase && is_transient event then Some (enter_sleep 5 s.phase s) else after_answer s s.phase event m

abbrev pub is_stop : Phase → Bool
is_stop (phase.Stop why) = true
is_stop phase = false

-- the state after the event, before the limits are looked at; None: the event can't come
abbrev pub next_state : BotState → BotEvent → ℕ → Option BotState
next_state s event m = if is_stop s.phase then None else after_event s s.awaited event m

-- ---- the limits

-- a Poll counts, where its limit isn't reached, and an update keeps its moment
abbrev pub record_action : Action → ℕ → BotState → BotState
record_action action.Poll m s = if nat_le s.limits.polls s.polls then enter_stop why.Polls s else record s { polls = s.polls + 1 }
record_action (action.Send start size last) m s = with_run (λ r. record r { last_send = m }) s
record_action action m s = s

-- the action counts, where the limit of steps isn't reached
abbrev pub count_step : BotState → BotState
count_step s = if nat_le s.limits.steps s.steps then enter_stop why.Steps s else record s { steps = s.steps + 1 }

-- the limit of polls is looked at, then that of steps
abbrev pub issue_action : ℕ → BotState → BotState
issue_action m s = count_step (record_action (action_of s) m s)

-- the state after the event; None: the event can't come
abbrev pub stepped : BotState → BotEvent → ℕ → Option BotState
stepped s event m = option_map (issue_action m) (next_state s event m)

-- An event of the bot's action can come.
use Rattle.std.proofs.Common.{◌≡◌, ℕ, ◌-◌, Bool, true, false, ◌&&◌, if◌then◌else◌, nat_le, Option, Some, None, is_some, refl, ap, ◌∙◌}
use Rattle.std.specs.Option.{option_map, option_map_or}
use Rattle.bot_turns.specs.Types.{RefusalCode, Signal, BotEvent, BotState, Phase, Awaited, Begin, Answer, Slept}
use Rattle.refusal_codes.specs.Codes.{is_transient_code}
use Rattle.refusal_codes.proofs.CodeLemmas.{number_is_read}
use Rattle.bot_core.specs.declared.action.Action.TheVariants as action
use Rattle.bot_core.specs.declared.bot_event.BotEvent.TheVariants as event
use Rattle.bot_core.specs.declared.bot_state.Phase.TheVariants as phase
use Rattle.bot_core.specs.RunChanges.{most_pending}
use Rattle.bot_core.specs.Table.{enter_sleep, is_transient, sends_request, after_answer, after_sleep, after_event, is_stop, next_state, phase_action, awaited_action, action_of, issue_action, stepped}
use Rattle.bot_turns.specs.Events.{refusal_event, is_event_of}
use Rattle.bot_turns.specs.Runs.{takes_events}

-- what is transient of the codes is so of the events
pub is_transient_refusal : (code : RefusalCode) → is_transient (refusal_event code) ≡ is_transient_code code
is_transient_refusal code = ap (λ o. option_map_or is_transient_code o false) (number_is_read code)

some_if : (c : Bool) (t : BotState) (o : Option BotState) → (c ≡ false → is_some o ≡ true) → is_some (if c then Some t else o) ≡ true
some_if true t o h = refl
some_if false t o h = h refl

some_where : (c : Bool) (t : BotState) → c ≡ true → is_some (if c then Some t else None) ≡ true
some_where true t h = refl
some_where false t h = absurd (cc)

-- what is behind the answer to the action of a phase
abbrev after_phase : BotState → Phase → BotEvent → ℕ → Option BotState
after_phase s p e m = if is_stop p then None else (if sends_request p && is_transient e then Some (enter_sleep 5 p s) else after_answer s p e m)

handshake_comes : (s : BotState) (e : BotEvent) (m : ℕ) → is_event_of (phase_action s phase.Handshake) e ≡ true → is_some (after_phase s phase.Handshake e m) ≡ true
handshake_comes s event.HandshakeOk m h = refl
handshake_comes s event.Lost m h = refl
handshake_comes s (event.Refused n) m h = some_if (is_transient (event.Refused n)) _ _ (λ _. refl)
handshake_comes s e m h = absurd (cc)

poll_comes : (s : BotState) (e : BotEvent) (m : ℕ) → is_event_of (phase_action s phase.Poll) e ≡ true → is_some (after_phase s phase.Poll e m) ≡ true
poll_comes s (event.PollSleep secs) m h = refl
poll_comes s event.PollClaim m h = refl
poll_comes s event.PollTerminate m h = refl
poll_comes s event.Lost m h = refl
poll_comes s (event.Refused n) m h = some_if (is_transient (event.Refused n)) _ _ (λ _. refl)
poll_comes s e m h = absurd (cc)

claim_comes : (s : BotState) (e : BotEvent) (m : ℕ) → is_event_of (phase_action s phase.Claim) e ≡ true → is_some (after_phase s phase.Claim e m) ≡ true
claim_comes s (event.ClaimRun a i g t) m h = refl
claim_comes s event.ClaimSkip m h = refl
claim_comes s event.Lost m h = refl
claim_comes s (event.Refused n) m h = some_if (is_transient (event.Refused n)) _ _ (λ _. refl)
claim_comes s e m h = absurd (cc)

prepare_comes : (s : BotState) (e : BotEvent) (m : ℕ) → is_event_of (phase_action s phase.Prepare) e ≡ true → is_some (after_phase s phase.Prepare e m) ≡ true
prepare_comes s event.Prepared m h = refl
prepare_comes s event.RunnerFailed m h = refl
prepare_comes s event.Lost m h = refl
prepare_comes s (event.Refused n) m h = some_where (is_transient (event.Refused n)) _ h
prepare_comes s e m h = absurd (cc)

start_comes : (s : BotState) (e : BotEvent) (m : ℕ) → is_event_of (phase_action s phase.Start) e ≡ true → is_some (after_phase s phase.Start e m) ≡ true
start_comes s event.Started m h = refl
start_comes s event.RunnerFailed m h = refl
start_comes s e m h = absurd (cc)

look_comes : (s : BotState) (e : BotEvent) (m : ℕ) → is_event_of (phase_action s phase.Look) e ≡ true → is_some (after_phase s phase.Look e m) ≡ true
look_comes s (event.Output size) m h = some_where (nat_le 1 size && nat_le size (most_pending - s.run.pending)) _ h
look_comes s event.Quiet m h = refl
look_comes s (event.Ended code) m h = refl
look_comes s event.RunnerFailed m h = refl
look_comes s e m h = absurd (cc)

signal_comes : (s : BotState) (g : Signal) (e : BotEvent) (m : ℕ) → is_event_of (phase_action s (phase.Signal g)) e ≡ true → is_some (after_phase s (phase.Signal g) e m) ≡ true
signal_comes s g event.Signalled m h = refl
signal_comes s g event.RunnerFailed m h = refl
signal_comes s g e m h = absurd (cc)

send_comes : (s : BotState) (e : BotEvent) (m : ℕ) → is_event_of (phase_action s phase.Send) e ≡ true → is_some (after_phase s phase.Send e m) ≡ true
send_comes s (event.SendOk b) m h = refl
send_comes s event.Lost m h = refl
send_comes s (event.Refused n) m h = some_if (is_transient (event.Refused n)) _ _ (λ _. refl)
send_comes s e m h = absurd (cc)

last_send_comes : (s : BotState) (e : BotEvent) (m : ℕ) → is_event_of (phase_action s phase.LastSend) e ≡ true → is_some (after_phase s phase.LastSend e m) ≡ true
last_send_comes s (event.SendOk b) m h = refl
last_send_comes s event.Lost m h = refl
last_send_comes s (event.Refused n) m h = some_if (is_transient (event.Refused n)) _ _ (λ _. refl)
last_send_comes s e m h = absurd (cc)

upload_comes : (s : BotState) (e : BotEvent) (m : ℕ) → is_event_of (phase_action s phase.Upload) e ≡ true → is_some (after_phase s phase.Upload e m) ≡ true
upload_comes s event.Uploaded m h = refl
upload_comes s event.Lost m h = refl
upload_comes s (event.Refused n) m h = some_if (is_transient (event.Refused n)) _ _ (λ _. refl)
upload_comes s e m h = absurd (cc)

clean_up_comes : (s : BotState) (e : BotEvent) (m : ℕ) → is_event_of (phase_action s phase.CleanUp) e ≡ true → is_some (after_phase s phase.CleanUp e m) ≡ true
clean_up_comes s event.Cleaned m h = refl
clean_up_comes s event.RunnerFailed m h = refl
clean_up_comes s e m h = absurd (cc)

phase_comes : (s : BotState) (p : Phase) (e : BotEvent) (m : ℕ) → is_event_of (phase_action s p) e ≡ true → is_some (after_phase s p e m) ≡ true
phase_comes s phase.Handshake e m h = handshake_comes s e m h
phase_comes s phase.Poll e m h = poll_comes s e m h
phase_comes s phase.Claim e m h = claim_comes s e m h
phase_comes s phase.Prepare e m h = prepare_comes s e m h
phase_comes s phase.Start e m h = start_comes s e m h
phase_comes s phase.Look e m h = look_comes s e m h
phase_comes s (phase.Signal g) e m h = signal_comes s g e m h
phase_comes s phase.Send e m h = send_comes s e m h
phase_comes s phase.LastSend e m h = last_send_comes s e m h
phase_comes s phase.Upload e m h = upload_comes s e m h
phase_comes s phase.CleanUp e m h = clean_up_comes s e m h
phase_comes s (phase.Stop why) e m h = absurd (cc)

sleep_comes : (s : BotState) (p : Phase) (e : BotEvent) (secs : ℕ) → takes_events p (Slept secs) ≡ true → is_event_of (action.Sleep secs) e ≡ true → is_some (if is_stop p then None else after_sleep s e) ≡ true
sleep_comes s (phase.Stop why) e secs r h = absurd (cc)
sleep_comes s p event.Slept secs r h = refl
sleep_comes s p e secs r h = absurd (cc)

awaited_comes : (s : BotState) (a : Awaited) (e : BotEvent) (m : ℕ) → takes_events s.phase a ≡ true → is_event_of (awaited_action s a) e ≡ true → is_some (if is_stop s.phase then None else after_event s a e m) ≡ true
awaited_comes s Begin e m r h = absurd (cc)
awaited_comes s Answer e m r h = phase_comes s s.phase e m h
awaited_comes s (Slept secs) e m r h = sleep_comes s s.phase e secs r h

some_map : (o : Option BotState) (m : ℕ) → is_some (option_map (issue_action m) o) ≡ is_some o
some_map None m = refl
some_map (Some t) m = refl

pub event_comes : (s : BotState) (e : BotEvent) (m : ℕ) → takes_events s.phase s.awaited ≡ true → is_event_of (action_of s) e ≡ true → is_some (stepped s e m) ≡ true
event_comes s e m r h = some_map (next_state s e m) m ∙ awaited_comes s s.awaited e m r h

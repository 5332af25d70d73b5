-- The events of a bot, by what the calls of an action came to.
use Rattle.std.specs.Prelude.{ℕ, ◌&&◌, nat_le, Bool, true, false, Option, Some, None}
use Rattle.bot_turns.specs.Types.{RefusalCode, Reply, Exchanged, Action, BotEvent}
use Rattle.refusal_codes.specs.Codes.{code_number}
use Rattle.swarm_model.specs.declared.reply.Reply.TheVariants as reply
use Rattle.server_calls.specs.declared.told.Told.TheVariants as told
use Rattle.server_calls.specs.declared.exchanged.Exchanged.TheVariants as exchanged
use Rattle.bot_core.specs.declared.action.Action.TheVariants as action
use Rattle.bot_core.specs.declared.bot_event.BotEvent.TheVariants as event
use Rattle.bot_core.specs.Table.{is_transient}

-- ---- by what an exchange came to

-- the number of the code stands for a refusal
abbrev pub refusal_event : RefusalCode → BotEvent
refusal_event code = event.Refused (code_number code)

-- None: there was no memory
abbrev pub exchange_event : (Reply → BotEvent) → Exchanged → Option BotEvent
exchange_event by_reply (exchanged.Told (told.Good place r bytes)) = Some (by_reply r)
exchange_event by_reply (exchanged.Told (told.No code body)) = Some (refusal_event code)
exchange_event by_reply exchanged.NoReply = Some event.Lost
exchange_event by_reply exchanged.Lost = Some event.Lost
exchange_event by_reply exchanged.Memory = None

-- a reply to another call is as none
abbrev pub handshake_event : Reply → BotEvent
handshake_event (reply.Shaken bot) = event.HandshakeOk
handshake_event r = event.Lost

abbrev pub poll_event : Reply → BotEvent
poll_event (reply.Sleep secs) = event.PollSleep secs
poll_event reply.ClaimHint = event.PollClaim
poll_event reply.Terminate = event.PollTerminate
poll_event r = event.Lost

abbrev pub claim_event : Reply → BotEvent
claim_event (reply.Run task try_no slice tolerance p) =
    event.ClaimRun p.execution_timeout_secs p.io_timeout_secs p.grace_period_secs tolerance
claim_event reply.Skip = event.ClaimSkip
claim_event r = event.Lost

abbrev pub update_event : Reply → BotEvent
update_event (reply.Updated must_stop) = event.SendOk must_stop
update_event r = event.Lost

-- ---- the events that an action can have

abbrev pub is_of_handshake : BotEvent → Bool
is_of_handshake event.HandshakeOk = true
is_of_handshake (event.Refused number) = true
is_of_handshake event.Lost = true
is_of_handshake e = false

abbrev pub is_of_poll : BotEvent → Bool
is_of_poll (event.PollSleep secs) = true
is_of_poll event.PollClaim = true
is_of_poll event.PollTerminate = true
is_of_poll (event.Refused number) = true
is_of_poll event.Lost = true
is_of_poll e = false

abbrev pub is_of_claim : BotEvent → Bool
is_of_claim (event.ClaimRun execution io grace tolerance) = true
is_of_claim event.ClaimSkip = true
is_of_claim (event.Refused number) = true
is_of_claim event.Lost = true
is_of_claim e = false

abbrev pub is_of_prepare : BotEvent → Bool
is_of_prepare event.Prepared = true
is_of_prepare event.RunnerFailed = true
is_of_prepare e = is_transient e

abbrev pub is_of_start : BotEvent → Bool
is_of_start event.Started = true
is_of_start event.RunnerFailed = true
is_of_start e = false

-- an output has at least one byte, and at most as many as there is room
abbrev pub is_of_look : ℕ → BotEvent → Bool
is_of_look room (event.Output size) = nat_le 1 size && nat_le size room
is_of_look room event.Quiet = true
is_of_look room (event.Ended code) = true
is_of_look room event.RunnerFailed = true
is_of_look room e = false

abbrev pub is_of_signal : BotEvent → Bool
is_of_signal event.Signalled = true
is_of_signal event.RunnerFailed = true
is_of_signal e = false

abbrev pub is_of_send : BotEvent → Bool
is_of_send (event.SendOk must_stop) = true
is_of_send (event.Refused number) = true
is_of_send event.Lost = true
is_of_send e = false

abbrev pub is_of_upload : BotEvent → Bool
is_of_upload event.Uploaded = true
is_of_upload (event.Refused number) = true
is_of_upload event.Lost = true
is_of_upload e = false

abbrev pub is_of_clean_up : BotEvent → Bool
is_of_clean_up event.Cleaned = true
is_of_clean_up event.RunnerFailed = true
is_of_clean_up e = false

abbrev pub is_of_sleep : BotEvent → Bool
is_of_sleep event.Slept = true
is_of_sleep e = false

abbrev pub is_event_of : Action → BotEvent → Bool
is_event_of (action.Handshake first session) e = is_of_handshake e
is_event_of action.Poll e = is_of_poll e
is_event_of (action.Claim first session claim) e = is_of_claim e
is_event_of action.Prepare e = is_of_prepare e
is_event_of action.Start e = is_of_start e
is_event_of (action.Look room) e = is_of_look room e
is_event_of (action.Sleep secs) e = is_of_sleep e
is_event_of (action.Signal signal) e = is_of_signal e
is_event_of (action.Send start size last) e = is_of_send e
is_event_of action.Upload e = is_of_upload e
is_event_of action.CleanUp e = is_of_clean_up e
is_event_of (action.Stop why tasks) e = false

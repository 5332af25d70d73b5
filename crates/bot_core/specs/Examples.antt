-- A run that goes past its time, by the table.
use Rattle.std.specs.Prelude.{ℕ, true, false, List, [], ◌∷◌, Some, pos}
use Rattle.bot_core.specs.Types.{Action, Term, Kill, BotEvent, BotLimits}
use Rattle.bot_core.specs.declared.action.Action.TheVariants as action
use Rattle.bot_core.specs.declared.action.StopWhy.TheVariants as why
use Rattle.bot_core.specs.declared.bot_event.BotEvent.TheVariants as event

abbrev pub one_task : BotLimits
one_task = record { tasks = 1; polls = 10; steps = 1000 }

-- it may run for 10 seconds, and has 5 to end after Term
abbrev pub timed_events : List (BotEvent × ℕ)
timed_events =
    (event.Begin, 1000) ∷ (event.HandshakeOk, 1000) ∷ (event.PollClaim, 1000) ∷ (event.ClaimRun 10 0 5 1200, 1000)
    ∷ (event.Prepared, 1000) ∷ (event.Started, 1000)
    ∷ (event.Quiet, 1009) ∷ (event.Slept, 1010) ∷ (event.Quiet, 1010) ∷ (event.Signalled, 1010)
    ∷ (event.Quiet, 1014) ∷ (event.Slept, 1015) ∷ (event.Quiet, 1015) ∷ (event.Signalled, 1015)
    ∷ (event.Ended (pos 137), 1015) ∷ (event.Uploaded, 1015) ∷ (event.Lost, 1015) ∷ (event.Slept, 1020)
    ∷ (event.SendOk false, 1020) ∷ (event.Cleaned, 1020) ∷ []

abbrev pub last_report : Action
last_report =
    action.Send 0 0 (Some (record { exit_code = pos 137; duration_ms = 15000; hard_timeout = true; io_timeout = false; dropped = 0 }))

abbrev pub timed_actions : List Action
timed_actions =
    action.Handshake 1000 1 ∷ action.Poll ∷ action.Claim 1000 1 1 ∷ action.Prepare
    ∷ action.Start ∷ action.Look 16384
    ∷ action.Sleep 1 ∷ action.Look 16384 ∷ action.Signal Term ∷ action.Look 16384
    ∷ action.Sleep 1 ∷ action.Look 16384 ∷ action.Signal Kill ∷ action.Look 16384
    ∷ action.Upload ∷ last_report ∷ action.Sleep 5 ∷ last_report
    ∷ action.CleanUp ∷ action.Stop why.Tasks 1 ∷ []

-- The requests of phases.
use Rattle.std.proofs.Common.{◌≡◌, ℕ, true, List, Some, refl, ap, sym, ◌∙◌}
use Rattle.bot_worlds.specs.Types.{BotDims, BotState, Phase, Awaited, Begin, Answer, Slept}
use Rattle.bot_core.specs.declared.bot_state.Phase.TheVariants as phase
use Rattle.bot_core.specs.Output.{waiting_at}
use Rattle.bot_core.specs.Table.{sends_request, phase_action, awaited_action}
use Rattle.bot_worlds.specs.declared.child_run.ChildRun.{ChildRun}
use Rattle.bot_worlds.specs.declared.sent.Sent.{Sent}
use Rattle.bot_worlds.specs.World.{request_of}
use Rattle.bot_worlds.proofs.Repeating.{asleep_action}

-- a phase with a request sends one
pub request_sends : (s : BotState) (name : List ℕ) (dims : BotDims) (runs : List ChildRun) (pending : List ℕ) (q : Sent) (p : Phase) → request_of name dims runs pending (phase_action s p) ≡ Some q → sends_request p ≡ true
request_sends s name dims runs pending q phase.Handshake h = refl
request_sends s name dims runs pending q phase.Poll h = refl
request_sends s name dims runs pending q phase.Claim h = refl
request_sends s name dims runs pending q phase.Send h = refl
request_sends s name dims runs pending q phase.LastSend h = refl
request_sends s name dims runs pending q (phase.Stop why) h = absurd (cc)
request_sends s name dims runs pending q (phase.Signal signal) h = absurd (cc)
request_sends s name dims runs pending q phase.Look h = absurd (cc)
request_sends s name dims runs pending q phase.Prepare h = absurd (cc)
request_sends s name dims runs pending q phase.Start h = absurd (cc)
request_sends s name dims runs pending q phase.Upload h = absurd (cc)
request_sends s name dims runs pending q phase.CleanUp h = absurd (cc)

-- and cuts nothing of what is pending
pub uncut : (s : BotState) (name : List ℕ) (dims : BotDims) (runs : List ChildRun) (pending : List ℕ) (q : Sent) (a : Awaited) (p : Phase) → request_of name dims runs pending (phase_action s p) ≡ Some q →
    waiting_at (awaited_action (record s { phase = p; awaited = a }) a) pending ≡ pending
uncut s name dims runs pending q (Slept secs) p h = refl
uncut s name dims runs pending q Begin phase.Look h = absurd (cc)
uncut s name dims runs pending q Begin (phase.Stop why) h = refl
uncut s name dims runs pending q Begin (phase.Signal signal) h = refl
uncut s name dims runs pending q Begin p h = refl
uncut s name dims runs pending q Answer phase.Look h = absurd (cc)
uncut s name dims runs pending q Answer (phase.Stop why) h = refl
uncut s name dims runs pending q Answer (phase.Signal signal) h = refl
uncut s name dims runs pending q Answer p h = refl

-- the request of an action is that of the phase
pub phase_request : (s : BotState) (name : List ℕ) (dims : BotDims) (runs : List ChildRun) (pending : List ℕ) (q : Sent) (a : Awaited) (p : Phase) →
    request_of name dims runs pending (awaited_action (record s { phase = p; awaited = a }) a) ≡ Some q → request_of name dims runs pending (phase_action s p) ≡ Some q
phase_request s name dims runs pending q (Slept secs) p h = absurd (cc)
phase_request s name dims runs pending q Begin p h = ap (request_of name dims runs pending) (sym (asleep_action s p p Begin)) ∙ h
phase_request s name dims runs pending q Answer p h = ap (request_of name dims runs pending) (sym (asleep_action s p p Answer)) ∙ h

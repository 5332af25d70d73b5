-- What a turn that prepares a run comes to is an event of Prepare.
use Rattle.std.proofs.Common.{◌≡◌, ℕ, Bool, true, false, if◌then◌else◌, List, Option, Some, None, Result, Ok, Err, IfOk, refl, ap, sym, ◌∙◌}
use Rattle.std.specs.Option.{option_map_or}
use Rattle.bot_turns.specs.Types.{Properties, StartFault, Exchanged, BotEvent, Hands}
use Rattle.sw_base.specs.declared.start_fault.StartFault.TheVariants as start
use Rattle.sw_base.specs.Dialers.{DialerState}
use Rattle.server_calls.specs.declared.told.Told.TheVariants as told
use Rattle.server_calls.specs.declared.exchanged.Exchanged.TheVariants as exchanged
use Rattle.runners.specs.Calls.{RunnerState}
use Rattle.bot_core.specs.declared.bot_event.BotEvent.TheVariants as event
use Rattle.bot_core.specs.Table.{is_transient}
use Rattle.bot_turns.specs.Events.{refusal_event, is_of_prepare}
use Rattle.bot_turns.specs.ServerTurns.{OfRun}
use Rattle.bot_turns.specs.Inputs.{unfetched_event, prepare_event, FetchesInputs, Prepares, IsPrepareTurn}

-- no event, or one of Prepare
abbrev may_be_of_prepare : Option BotEvent → Bool
may_be_of_prepare o = option_map_or is_of_prepare o true

transient_or_failed : (c : Bool) (e : BotEvent) → is_of_prepare e ≡ c → is_of_prepare (if c then e else event.RunnerFailed) ≡ true
transient_or_failed true e h = h
transient_or_failed false e h = refl

unfetched_comes : (x : Exchanged) → may_be_of_prepare (unfetched_event x) ≡ true
unfetched_comes (exchanged.Told (told.Good place r bytes)) = refl
unfetched_comes (exchanged.Told (told.No code body)) = transient_or_failed (is_transient (refusal_event code)) (refusal_event code) refl
unfetched_comes exchanged.NoReply = refl
unfetched_comes exchanged.Lost = refl
unfetched_comes exchanged.Memory = refl

prepared_comes : (answer : Result (Unit {0}) StartFault) → may_be_of_prepare (prepare_event answer) ≡ true
prepared_comes (Ok done) = refl
prepared_comes (Err start.Failed) = refl
prepared_comes (Err start.Memory) = refl

some_comes : (o : Option BotEvent) (e : BotEvent) → o ≡ Some e → may_be_of_prepare o ≡ true → is_of_prepare e ≡ true
some_comes o e f g = sym (ap may_be_of_prepare f) ∙ g

run_comes : (o : Option (List ℕ × Properties)) (inputs : Result (List (List ℕ × List ℕ)) BotEvent) (h : Hands) (e : BotEvent) (a b : DialerState) (r s : RunnerState) (h2 : Hands) → OfRun o (λ run p. FetchesInputs h p inputs a b) → OfRun o (λ run p. Prepares inputs run p h e r s h2) → is_of_prepare e ≡ true
run_comes None inputs h e a b r s h2 f g = absurd f
run_comes (Some run) (Ok inputs) h e a b r s h2 f g = some_comes (prepare_event g.answer) e g.event (prepared_comes g.answer)
run_comes (Some run) (Err u) h e a b r s h2 f g =
    ap is_of_prepare g.0 ∙ some_comes (unfetched_event f.fails.exchanged) u f.fails.comes_to.0 (unfetched_comes f.fails.exchanged)

pub prepare_comes : {E : Type 0} (result : Result BotEvent E) (h : Hands) (a b : DialerState) (r s : RunnerState) (h2 : Hands) → IfOk result (λ e. IsPrepareTurn h e a b r s h2) → IfOk result (λ e. is_of_prepare e ≡ true)
prepare_comes (Ok e) h a b r s h2 f = run_comes h.run f.inputs h e a b r s h2 f.fetches f.prepares
prepare_comes (Err e) h a b r s h2 f = f

-- A request that is sent again is the same.
use Rattle.std.proofs.Common.{◌≡◌, ◌⊎◌, inl, inr, ℕ, ◌+◌, Bool, true, false, ◌&&◌, if◌then◌else◌, nat_le, Option, Some, None, IfSome, refl, sym, ◌∙◌, subst}
use Rattle.std.specs.Option.{option_map}
use Rattle.bot_core.specs.declared.action.StopWhy.TheVariants as why
use Rattle.bot_worlds.specs.Types.{Action, BotEvent, BotState, Phase, Awaited, Begin, Answer, Slept}
use Rattle.bot_core.specs.declared.action.Action.TheVariants as action
use Rattle.bot_core.specs.declared.bot_event.BotEvent.TheVariants as event
use Rattle.bot_core.specs.declared.bot_state.Phase.TheVariants as phase
use Rattle.bot_core.specs.Table.{enter_stop, enter_sleep, is_stop, sends_request, is_transient, after_answer, after_begin, after_sleep, after_event, phase_action, action_of, record_action, count_step, issue_action, stepped}

-- behind a step the bot has the same action before it, or has stopped and sends nothing
abbrev pub IsAgain : Action → BotState → Type 0
IsAgain a t = (phase_action t t.phase ≡ a) ⊎ ((t.awaited ≡ Answer) × (is_stop t.phase ≡ true))

if_again : (a : Action) (b : Bool) (x y : BotState) → IsAgain a x → IsAgain a y → IsAgain a (if b then x else y)
if_again a true x y f g = f
if_again a false x y f g = g

-- counts don't change the action of a phase
counted : (s : BotState) (p : Phase) (polls steps last : ℕ) → phase_action (record s { polls = polls; steps = steps; run = record s.run { last_send = last } }) p ≡ phase_action s p
counted s phase.Handshake polls steps last = refl
counted s phase.Poll polls steps last = refl
counted s phase.Claim polls steps last = refl
counted s phase.Prepare polls steps last = refl
counted s phase.Start polls steps last = refl
counted s phase.Look polls steps last = refl
counted s (phase.Signal signal) polls steps last = refl
counted s phase.Send polls steps last = refl
counted s phase.LastSend polls steps last = refl
counted s phase.Upload polls steps last = refl
counted s phase.CleanUp polls steps last = refl
counted s (phase.Stop why) polls steps last = refl

record_again : (a : Action) (m : ℕ) (t : BotState) (x : Action) → IsAgain a t → IsAgain a (record_action x m t)
record_again a m t action.Poll (inl h) = if_again a (nat_le t.limits.polls t.polls) (enter_stop why.Polls t) (record t { polls = t.polls + 1 }) (inr (refl, refl)) (inl (counted t t.phase (t.polls + 1) t.steps t.run.last_send ∙ h))
record_again a m t action.Poll (inr h) = if_again a (nat_le t.limits.polls t.polls) (enter_stop why.Polls t) (record t { polls = t.polls + 1 }) (inr (refl, refl)) (inr h)
record_again a m t (action.Send start size last) (inl h) = inl (counted t t.phase t.polls t.steps m ∙ h)
record_again a m t (action.Send start size last) (inr h) = inr h
record_again a m t x h = h

count_again : (a : Action) (t : BotState) → IsAgain a t → IsAgain a (count_step t)
count_again a t (inl h) = if_again a (nat_le t.limits.steps t.steps) (enter_stop why.Steps t) (record t { steps = t.steps + 1 }) (inr (refl, refl)) (inl (counted t t.phase t.polls (t.steps + 1) t.run.last_send ∙ h))
count_again a t (inr h) = if_again a (nat_le t.limits.steps t.steps) (enter_stop why.Steps t) (record t { steps = t.steps + 1 }) (inr (refl, refl)) (inr h)

issue_again : (a : Action) (m : ℕ) (t : BotState) → IsAgain a t → IsAgain a (issue_action m t)
issue_again a m t h = count_again a (record_action (action_of t) m t) (record_again a m t (action_of t) h)

issued_again : (a : Action) (m : ℕ) (o : Option BotState) → IfSome o (IsAgain a) → IfSome (option_map (issue_action m) o) (IsAgain a)
issued_again a m None h = tt
issued_again a m (Some t) h = issue_again a m t h

-- ---- losses, and refusals that pass

pub asleep_action : (s : BotState) (p q : Phase) (a : Awaited) → phase_action (record s { phase = q; awaited = a }) p ≡ phase_action s p
asleep_action s phase.Handshake q a = refl
asleep_action s phase.Poll q a = refl
asleep_action s phase.Claim q a = refl
asleep_action s phase.Prepare q a = refl
asleep_action s phase.Start q a = refl
asleep_action s phase.Look q a = refl
asleep_action s (phase.Signal signal) q a = refl
asleep_action s phase.Send q a = refl
asleep_action s phase.LastSend q a = refl
asleep_action s phase.Upload q a = refl
asleep_action s phase.CleanUp q a = refl
asleep_action s (phase.Stop why) q a = refl

not_begun : (s : BotState) (e : BotEvent) (m : ℕ) → is_transient e ≡ true → after_begin s e m ≡ None
not_begun s event.Lost m h = refl
not_begun s (event.Refused number) m h = refl
not_begun s e m h = absurd (cc)

not_woken : (s : BotState) (e : BotEvent) → is_transient e ≡ true → after_sleep s e ≡ None
not_woken s event.Lost h = refl
not_woken s (event.Refused number) h = refl
not_woken s e h = absurd (cc)

lost_again : (s : BotState) (a : Awaited) (e : BotEvent) (m : ℕ) → is_transient e ≡ true → sends_request s.phase ≡ true → IfSome (after_event s a e m) (IsAgain (phase_action s s.phase))
lost_again s Begin e m h k = subst (λ (o : Option BotState). IfSome o (IsAgain (phase_action s s.phase))) (sym (not_begun s e m h)) tt
lost_again s (Slept secs) e m h k = subst (λ (o : Option BotState). IfSome o (IsAgain (phase_action s s.phase))) (sym (not_woken s e h)) tt
lost_again s Answer e m h k = rw (k, h) (inl (asleep_action s s.phase s.phase (Slept 5)))

woken_again : (s : BotState) (a : Awaited) (m : ℕ) → IfSome (after_event s a event.Slept m) (IsAgain (phase_action s s.phase))
woken_again s Begin m = tt
woken_again s (Slept secs) m = inl (asleep_action s s.phase s.phase Answer)
woken_again s Answer m = by_sends (sends_request s.phase)
  where
    none : (p : Phase) → after_answer s p event.Slept m ≡ None
    none phase.Handshake = refl
    none phase.Poll = refl
    none phase.Claim = refl
    none phase.Prepare = refl
    none phase.Start = refl
    none phase.Look = refl
    none (phase.Signal signal) = refl
    none phase.Send = refl
    none phase.LastSend = refl
    none phase.Upload = refl
    none phase.CleanUp = refl
    none (phase.Stop why) = refl

    by_none : (o : Option BotState) → o ≡ None → IfSome o (IsAgain (phase_action s s.phase))
    by_none None h = tt
    by_none (Some t) h = absurd (cc)

    by_sends : (b : Bool) → IfSome (if b && false then Some (enter_sleep 5 s.phase s) else after_answer s s.phase event.Slept m) (IsAgain (phase_action s s.phase))
    by_sends true = by_none (after_answer s s.phase event.Slept m) (none s.phase)
    by_sends false = by_none (after_answer s s.phase event.Slept m) (none s.phase)

next_again : (s : BotState) (e : BotEvent) (m : ℕ) (c : Bool) → IfSome (after_event s s.awaited e m) (IsAgain (phase_action s s.phase)) →
    IfSome (option_map (issue_action m) (if c then None else after_event s s.awaited e m)) (IsAgain (phase_action s s.phase))
next_again s e m true h = tt
next_again s e m false h = issued_again (phase_action s s.phase) m (after_event s s.awaited e m) h

pub transient_again : (s : BotState) (e : BotEvent) (m : ℕ) (t : BotState) → is_transient e ≡ true → sends_request s.phase ≡ true → stepped s e m ≡ Some t → IsAgain (phase_action s s.phase) t
transient_again s e m t h k is =
    subst (λ (o : Option BotState). IfSome o (IsAgain (phase_action s s.phase))) is (next_again s e m (is_stop s.phase) (lost_again s s.awaited e m h k))

pub slept_again : (s : BotState) (m : ℕ) (t : BotState) → stepped s event.Slept m ≡ Some t → IsAgain (phase_action s s.phase) t
slept_again s m t is =
    subst (λ (o : Option BotState). IfSome o (IsAgain (phase_action s s.phase))) is (next_again s event.Slept m (is_stop s.phase) (woken_again s s.awaited m))

-- Turns, one after the other.
use Rattle.std.proofs.Common.{◌≡◌, ℕ, ◌+◌, ◌-◌, ◌≤◌, ◌<◌, Bool, true, false, not, ◌||◌, if◌then◌else◌, length, List, [], ◌∷◌, ◌++◌, Option, Some, is_some, ◌⊎◌, inl, inr, refl, ap, sym, ◌∙◌, subst, arith}
use Rattle.std.specs.Option.{option_map_or}
use Rattle.sw_base.specs.Clock.{HandsIn}
use Rattle.sw_base.specs.Dialers.{DialerState}
use Rattle.runners.specs.Calls.{RunnerState}
use Rattle.bot_turns.specs.Types.{Action, BotEvent, BotLimits, BotState, Phase, Awaited, Begin, Answer, Slept, Hands}
use Rattle.bot_core.specs.declared.bot_event.BotEvent.TheVariants as event
use Rattle.bot_core.specs.declared.bot_state.Phase.TheVariants as phase
use Rattle.bot_core.specs.RunChanges.{most_pending}
use Rattle.bot_core.specs.States.{states_after}
use Rattle.bot_core.specs.Table.{opening, phase_action, awaited_action, action_of, stepped, is_stop}
use Rattle.bot_turns.specs.Events.{is_event_of}
use Rattle.bot_turns.specs.Turns.{BotWorld, bot_world, IsTurnOf, CanAct}
use Rattle.bot_turns.specs.Runs.{states_of, TellsMoment, TakesTurn, TakesTurns, HasTaken, HandsFit, is_stop_action, takes_events, has_run}
use Rattle.bot_turns.proofs.StepLemmas.{output_size, is_claim_run, PendingAfter, IsCounted, stepped_counts}
use Rattle.bot_turns.proofs.EventLemmas.{event_comes}
use Rattle.bot_turns.proofs.TurnHands.{HandsAfter, LeavesRoom, hands_after}

-- ---- the clock

pub tells_moment : (h : Hands) (d : DialerState) (r : RunnerState) (ahead ahead2 : ℕ → Option (List ℕ)) (waited waited2 : Option ℕ) (m : ℕ) → HandsIn ahead ahead2 (m ∷ []) → waited2 ≡ waited → TellsMoment (bot_world h d r ahead waited) m (bot_world h d r ahead2 waited2)
tells_moment h d r ahead ahead2 waited waited2 m f g = record { told = f; same = ap (λ x. bot_world h d r ahead2 x) g }

-- ---- the hands are ready for each action

phase_room : (s : BotState) (p : Phase) → LeavesRoom (phase_action s p) s.run.pending
phase_room s phase.Look = refl
phase_room s phase.Handshake = tt
phase_room s phase.Poll = tt
phase_room s phase.Claim = tt
phase_room s phase.Prepare = tt
phase_room s phase.Start = tt
phase_room s (phase.Signal signal) = tt
phase_room s phase.Send = tt
phase_room s phase.LastSend = tt
phase_room s phase.Upload = tt
phase_room s phase.CleanUp = tt
phase_room s (phase.Stop why) = tt

awaited_room : (s : BotState) (a : Awaited) → LeavesRoom (awaited_action s a) s.run.pending
awaited_room s Begin = phase_room s s.phase
awaited_room s Answer = phase_room s s.phase
awaited_room s (Slept secs) = tt

phase_ready : (s : BotState) (p : Phase) (h : Hands) → (has_run p ≡ true → is_some h.run ≡ true) → s.run.pending ≤ length h.pending.items → s.run.pending ≤ most_pending → is_stop_action (phase_action s p) ≡ false → CanAct (phase_action s p) h
phase_ready s phase.Handshake h f i j k = tt
phase_ready s phase.Poll h f i j k = tt
phase_ready s phase.Claim h f i j k = tt
phase_ready s phase.Prepare h f i j k = f refl
phase_ready s phase.Start h f i j k = f refl
phase_ready s phase.Look h f i j k = omega (arith)
phase_ready s (phase.Signal signal) h f i j k = tt
phase_ready s phase.Send h f i j k = (f refl, i)
phase_ready s phase.LastSend h f i j k = (f refl, i)
phase_ready s phase.Upload h f i j k = f refl
phase_ready s phase.CleanUp h f i j k = f refl
phase_ready s (phase.Stop why) h f i j k = absurd (cc)

awaited_ready : (s : BotState) (a : Awaited) (h : Hands) → HandsFit s h → is_stop_action (awaited_action s a) ≡ false → CanAct (awaited_action s a) h
awaited_ready s Begin h r k = phase_ready s s.phase h r.run r.pending r.room k
awaited_ready s Answer h r k = phase_ready s s.phase h r.run r.pending r.room k
awaited_ready s (Slept secs) h r k = tt

can_act : (s : BotState) (h : Hands) → HandsFit s h → is_stop_action (action_of s) ≡ false → CanAct (action_of s) h
can_act s h r k = awaited_ready s s.awaited h r k

-- ---- and stay ready

grown_by : (before after : ℕ) (e : BotEvent) → PendingAfter before e after → after ≤ before + output_size e
grown_by before after e g = elim g [ inl h ↦ omega (arith, h) | inr h ↦ elim h [ inl k ↦ omega (arith, k) | inr k ↦ omega (arith, k) ] ]

had_run : (b c d : Bool) → ((b || c) || not d) ≡ true → d ≡ true → (b ≡ true) ⊎ (c ≡ true)
had_run true c d h k = inl refl
had_run false true d h k = inr refl
had_run false false true h k = absurd (cc)
had_run false false false h k = absurd (cc)

ready_next : (s t : BotState) (e : BotEvent) (m : ℕ) (w v b : BotWorld) → HandsFit s w.hands → IsTurnOf (action_of s) e w v → is_event_of (action_of s) e ≡ true → TellsMoment v m b → stepped s e m ≡ Some t → HandsFit t b.hands
ready_next s t e m w v b r f i g h =
    let k : IsCounted s e t = stepped_counts s t e m h in
    let a : HandsAfter s.run.pending e w.hands v.hands = hands_after (action_of s) e w v s.run.pending f i (awaited_room s s.awaited) r.pending r.room in
    let n : t.run.pending ≤ s.run.pending + output_size e = grown_by s.run.pending t.run.pending e k.pending in
    let bytes : length b.hands.pending.items ≡ length v.hands.pending.items = ap (λ x. length x.hands.pending.items) g.same in
    record {
      events = k.events;
      run = λ q. ap (λ x. is_some x.hands.run) g.same
          ∙ elim (had_run (has_run s.phase) (is_claim_run e) (has_run t.phase) k.run q) [ inl c ↦ a.run (r.run c) | inr c ↦ a.claimed c ];
      pending = omega (arith, n, bytes, a.bytes);
      room = omega (arith, n, a.room);
    }

begun_run : (d : Bool) → ((false || false) || not d) ≡ true → d ≡ true → ⊥
begun_run true h k = absurd (cc)
begun_run false h k = absurd (cc)

pub ready_first : (limits : BotLimits) (s : BotState) (m : ℕ) (h : Hands) → stepped (opening limits) event.Begin m ≡ Some s → HandsFit s h
ready_first limits s m h f =
    let k : IsCounted (opening limits) event.Begin s = stepped_counts (opening limits) s event.Begin m f in
    let n : s.run.pending ≤ 0 = grown_by 0 s.run.pending event.Begin k.pending in
    record { events = k.events; run = λ q. absurd (begun_run (has_run s.phase) k.run q); pending = omega (arith, n); room = omega (arith, n) }

-- ---- turns

turns_next : (es : List (BotEvent × ℕ)) (e : BotEvent) (m : ℕ) (s t u : BotState) (w v b : BotWorld) →
    TakesTurns es s w t v → TakesTurn t v e m u b → TakesTurns (es ++ (e, m) ∷ []) s w u b
turns_next [] e m s t u w v b f g =
    record { next = u; mid = b; turn = subst (λ x. TakesTurn x w e m u b) f.0 (subst (λ y. TakesTurn t y e m u b) f.1 g); rest = (refl, refl) }
turns_next (first ∷ es) e m s t u w v b f g =
    record { next = f.next; mid = f.mid; turn = f.turn; rest = turns_next es e m f.next t u f.mid v b f.rest g }

pub taken_next : (limits : BotLimits) (w : BotWorld) (es : List (BotEvent × ℕ)) (e : BotEvent) (m : ℕ) (s t : BotState) (v b : BotWorld) →
    HasTaken limits w es s v → TakesTurn s v e m t b → HasTaken limits w (es ++ (e, m) ∷ []) t b
taken_next limits w es e m s t v b f g =
    record { first = f.first; begun = f.begun; start = f.start; tells = f.tells; begins = f.begins; turns = turns_next es e m f.start s t f.begun v b f.turns g }

pub taken_first : (limits : BotLimits) (w v : BotWorld) (s : BotState) (m : ℕ) → TellsMoment w m v → stepped (opening limits) event.Begin m ≡ Some s → HasTaken limits w [] s v
taken_first limits w v s m f g = record { first = m; begun = v; start = s; tells = f; begins = g; turns = (refl, refl) }

-- ---- the run ends

-- how many steps are left at most
abbrev pub steps_left : BotState → ℕ
steps_left s = if is_stop_action (action_of s) then 0 else s.limits.steps - s.steps + 1

stopped_acts : (s : BotState) (p : Phase) (a : Awaited) → takes_events p a ≡ true → is_stop p ≡ true → s.phase ≡ p → is_stop_action (awaited_action s a) ≡ true
stopped_acts s (phase.Stop why) Answer r h e = subst (λ q. is_stop_action (phase_action s q) ≡ true) (sym e) refl
stopped_acts s (phase.Stop why) Begin r h e = absurd (cc)
stopped_acts s (phase.Stop why) (Slept secs) r h e = absurd (cc)
stopped_acts s p a r h e = absurd (cc)

fewer_if : (b c : Bool) (x y z w : ℕ) → b ≡ false → (c ≡ true) ⊎ ((w ≡ y + 1) × (y < x) × (z ≡ x)) → (if c then 0 else z - w + 1) < (if b then 0 else x - y + 1)
fewer_if true c x y z w h k = absurd (cc)
fewer_if false true x y z w h k = omega arith
fewer_if false false x y z w h (inl k) = absurd (cc)
fewer_if false false x y z w h (inr k) = omega (arith, k.0, k.1, k.2)

more_steps : (s t : BotState) (e : BotEvent) → IsCounted s e t → (is_stop_action (action_of t) ≡ true) ⊎ ((t.steps ≡ s.steps + 1) × (s.steps < s.limits.steps) × (t.limits.steps ≡ s.limits.steps))
more_steps s t e k = elim k.more [ inl h ↦ inl (stopped_acts t t.phase t.awaited k.events h refl) | inr h ↦ inr (h.0, h.1, k.limit) ]

pub fewer_steps_left : (s t : BotState) (e : BotEvent) (m : ℕ) → stepped s e m ≡ Some t → is_stop_action (action_of s) ≡ false → steps_left t < steps_left s
fewer_steps_left s t e m h n =
    fewer_if (is_stop_action (action_of s)) (is_stop_action (action_of t)) s.limits.steps s.steps t.limits.steps t.steps n (more_steps s t e (stepped_counts s t e m h))

-- ---- one turn

pub can_act_on : (s : BotState) (h : Hands) (a : Action) → HandsFit s h → a ≡ action_of s → is_stop_action a ≡ false → CanAct a h
can_act_on s h a r f g = subst (λ x. CanAct x h) (sym f) (can_act s h r (subst (λ x. is_stop_action x ≡ false) f g))

pub event_comes_on : (s : BotState) (h : Hands) (a : Action) (e : BotEvent) (m : ℕ) → HandsFit s h → a ≡ action_of s → is_event_of a e ≡ true → is_some (stepped s e m) ≡ true
event_comes_on s h a e m r f g = event_comes s e m r.events (subst (λ x. is_event_of x e ≡ true) f g)

pub takes_turn : (s t : BotState) (a : Action) (e : BotEvent) (m : ℕ) (w : BotWorld) (h : Hands) (d : DialerState) (r : RunnerState) (ahead ahead2 : ℕ → Option (List ℕ)) (waited waited2 : Option ℕ) →
    a ≡ action_of s → IsTurnOf a e w (bot_world h d r ahead waited) → HandsIn ahead ahead2 (m ∷ []) → waited2 ≡ waited → stepped s e m ≡ Some t → TakesTurn s w e m t (bot_world h d r ahead2 waited2)
takes_turn s t a e m w h d r ahead ahead2 waited waited2 f g i j k =
    record { acted = bot_world h d r ahead waited; turn = subst (λ x. IsTurnOf x e w (bot_world h d r ahead waited)) f g; tells = tells_moment h d r ahead ahead2 waited waited2 m i j; steps = k }

pub ready_after : (s t : BotState) (a : Action) (e : BotEvent) (m : ℕ) (w b : BotWorld) → HandsFit s w.hands → a ≡ action_of s → is_event_of a e ≡ true → TakesTurn s w e m t b → HandsFit t b.hands
ready_after s t a e m w b r f g h = ready_next s t e m w h.acted b r h.turn (subst (λ x. is_event_of x e ≡ true) f g) h.tells h.steps

-- ---- the law

pub turns_follow : (es : List (BotEvent × ℕ)) (s t : BotState) (a b : BotWorld) (f : TakesTurns es s a t b) → states_of es s a t b f ≡ states_after s es
turns_follow [] s t a b f = refl
turns_follow (e ∷ es) s t a b f =
    subst (λ o. f.next ∷ states_of es f.next f.mid t b f.rest ≡ option_map_or (λ u. u ∷ states_after u es) o []) (sym f.turn.steps)
    (ap (λ l. f.next ∷ l) (turns_follow es f.next t f.mid b f.rest))

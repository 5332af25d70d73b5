-- The signals of a run are in order.
use Rattle.std.proofs.Common.{◌≡◌, ℕ, Bool, true, false, List, [], ◌∷◌, if◌then◌else◌, Option, Some, None, IfSome, refl, sym, ◌∙◌, subst}
use Rattle.std.specs.Option.{option_map, option_map_or}
use Rattle.bot_core.specs.Types.{Term, Kill, BotEvent, BotLimits, BotState, Phase, Awaited, Begin, Answer, Slept}
use Rattle.bot_core.specs.declared.bot_state.Phase.TheVariants as phase
use Rattle.bot_core.specs.Table.{opening, is_stop, after_event, issue_action, stepped, phase_action, awaited_action, action_of}
use Rattle.bot_core.specs.States.{steps_of}
use Rattle.bot_core.specs.Signals.{Signals, no_signals, signals_at_event, with_action, signals_after, AreInOrder}
use Rattle.bot_core.proofs.RowParts.{Quiet, logged, RunAgrees, new_agrees}
use Rattle.bot_core.proofs.Rows.{Row, stepped_row}

-- ---- the signal of an action

phase_logged : (t : BotState) (p : Phase) (m : ℕ) (g : Signals) → with_action (phase_action t p) m g ≡ logged p Answer m g
phase_logged t (phase.Signal Term) m g = refl
phase_logged t (phase.Signal Kill) m g = refl
phase_logged t p m g = refl

begin_logged : (p : Phase) (m : ℕ) (g : Signals) → logged p Answer m g ≡ logged p Begin m g
begin_logged (phase.Signal Term) m g = refl
begin_logged (phase.Signal Kill) m g = refl
begin_logged p m g = refl

sleep_logged : (p : Phase) (secs m : ℕ) (g : Signals) → g ≡ logged p (Slept secs) m g
sleep_logged (phase.Signal Term) secs m g = refl
sleep_logged (phase.Signal Kill) secs m g = refl
sleep_logged p secs m g = refl

action_logged : (t : BotState) (a : Awaited) (m : ℕ) (g : Signals) → with_action (awaited_action t a) m g ≡ logged t.phase a m g
action_logged t Begin m g = phase_logged t t.phase m g ∙ begin_logged t.phase m g
action_logged t Answer m g = phase_logged t t.phase m g
action_logged t (Slept secs) m g = sleep_logged t.phase secs m g

-- ---- what holds of a bot and the signals of its run

record Stands (s : BotState) (g : Signals) : Type 0 where
  order : AreInOrder g
  quiet : Quiet s.phase s.awaited
  agrees : is_stop s.phase ≡ false → RunAgrees s.run g

not_stopped : (c : Bool) (o : Option BotState) (m : ℕ) (t : BotState) → option_map (issue_action m) (if c then None else o) ≡ Some t → c ≡ false
not_stopped true o m t h = absurd (cc)
not_stopped false o m t h = refl

next_stands : (s t : BotState) (e : BotEvent) (m : ℕ) (g : Signals) → stepped s e m ≡ Some t → Row s s.phase s.awaited e m t → Stands s g →
    Stands t (with_action (action_of t) m (signals_at_event e g))
next_stands s t e m g is row stands =
    let run : RunAgrees s.run g = stands.agrees (not_stopped (is_stop s.phase) (after_event s s.awaited e m) m t is) in
    let same : logged t.phase t.awaited m (signals_at_event e g) ≡ with_action (action_of t) m (signals_at_event e g) = sym (action_logged t t.awaited m (signals_at_event e g)) in
    record {
      order = subst (λ (x : Signals). AreInOrder x) same (row.order stands.quiet g run);
      quiet = row.quiet stands.quiet;
      agrees = λ h. subst (λ (x : Signals). RunAgrees t.run x) same (row.agrees stands.quiet g run h);
    }

in_order_after : (s : BotState) (e : BotEvent) (m : ℕ) (es : List (BotEvent × ℕ)) (g : Signals) (o : Option BotState) → stepped s e m ≡ o → IfSome o (Row s s.phase s.awaited e m) → Stands s g →
    ((t : BotState) (h : Signals) → Stands t h → AreInOrder (signals_after h (steps_of t es))) →
    AreInOrder (signals_after g (option_map_or (λ t. record { before = s; event = e; moment = m; after = t } ∷ steps_of t es) o []))
in_order_after s e m es g None is row stands all = stands.order
in_order_after s e m es g (Some t) is row stands all =
    all t (with_action (action_of t) m (signals_at_event e g)) (next_stands s t e m g is row stands)

in_order : (es : List (BotEvent × ℕ)) (s : BotState) (g : Signals) → Stands s g → AreInOrder (signals_after g (steps_of s es))
in_order [] s g stands = stands.order
in_order (e ∷ es) s g stands = in_order_after s e.0 e.1 es g (stepped s e.0 e.1) refl (stepped_row s e.0 e.1) stands (in_order es)

pub all_in_order : (limits : BotLimits) (events : List (BotEvent × ℕ)) → AreInOrder (signals_after no_signals (steps_of (opening limits) events))
all_in_order limits events =
    in_order events (opening limits) no_signals (record { order = (new_agrees 0).order; quiet = λ h. refl; agrees = λ h. new_agrees 0 })

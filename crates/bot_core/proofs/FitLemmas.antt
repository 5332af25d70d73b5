-- The numbers of an update are within what a server reads.
use Rattle.std.proofs.Common.{◌≡◌, ℕ, ◌+◌, ◌*◌, ◌^◌, ◌≤◌, ◌<◌, Bool, true, false, if◌then◌else◌, nat_le, List, [], ◌∷◌, Option, Some, None, IfSome, refl, ap, sym, ◌∙◌, subst, arith}
use Rattle.std.proofs.lemmas.List.Elements.{All-nil, All-cons}
use Rattle.std.specs.Prelude.{All}
use Rattle.std.specs.Option.{option_map, option_map_or}
use Rattle.bot_core.specs.Types.{Action, BotEvent, BotLimits, BotState, Phase, Awaited, Begin, Answer, Slept}
use Rattle.bot_core.specs.declared.action.Action.TheVariants as action
use Rattle.bot_core.specs.declared.action.StopWhy.TheVariants as why
use Rattle.bot_core.specs.declared.bot_state.Phase.TheVariants as phase
use Rattle.bot_core.specs.Bounds.{RunBounds, Bounds, InBounds}
use Rattle.bot_core.specs.Table.{opening, enter_stop, is_stop, next_state, record_action, issue_action, phase_action, awaited_action, action_of}
use Rattle.bot_core.specs.States.{states_after}
use Rattle.bot_core.specs.Histories.{History, claimed, heard, done}
use Rattle.bot_core.specs.RunLaws.{IsFittingUpdate}
use Rattle.bot_core.proofs.StateBounds.{stepped_keeps}
use Rattle.bot_core.proofs.Rows as rows
use Rattle.bot_core.proofs.HistoryRows.{Row, next_row}
use Rattle.bot_core.proofs.HistoryLemmas.{Stands, stands_next, stands_first}

-- ---- the limits stay

if_limits : (c : Bool) (x y : BotState) (l : BotLimits) → x.limits ≡ l → y.limits ≡ l → (if c then x else y).limits ≡ l
if_limits true x y l a b = a
if_limits false x y l a b = b

record_limits : (x : Action) (m : ℕ) (t : BotState) → (record_action x m t).limits ≡ t.limits
record_limits action.Poll m t = if_limits (nat_le t.limits.polls t.polls) (enter_stop why.Polls t) (record t { polls = t.polls + 1 }) t.limits refl refl
record_limits x m t = refl

issue_limits : (m : ℕ) (t : BotState) → (issue_action m t).limits ≡ t.limits
issue_limits m t =
    let u : BotState = record_action (action_of t) m t in
    if_limits (nat_le u.limits.steps u.steps) (enter_stop why.Steps u) (record u { steps = u.steps + 1 }) t.limits (record_limits (action_of t) m t) (record_limits (action_of t) m t)

-- ---- an update

fits_phase : (s : BotState) (p : Phase) → (is_stop p ≡ false → Bounds s) → s.limits.steps < 2 ^ 32 → IsFittingUpdate (phase_action s p)
fits_phase s phase.Send b few =
    let r : RunBounds s.steps s.run = (b refl).run in record { piece = r.pending; output = r.output; dropped = tt; duration = tt }
fits_phase s phase.LastSend b few =
    let r : RunBounds s.steps s.run = (b refl).run in
    let n : s.steps ≤ s.limits.steps = (b refl).steps in record { piece = r.pending; output = r.output; dropped = omega (arith, r.dropped, n, few); duration = r.duration }
fits_phase s p b few = tt

fits_awaited : (s : BotState) (a : Awaited) → InBounds s → s.limits.steps < 2 ^ 32 → IsFittingUpdate (awaited_action s a)
fits_awaited s Begin b few = fits_phase s s.phase b few
fits_awaited s Answer b few = fits_phase s s.phase b few
fits_awaited s (Slept secs) b few = tt

-- ---- over all steps

record Bounded (limits : BotLimits) (s : BotState) (h : History) : Type 0 where
  same : s.limits ≡ limits
  bounds : InBounds s
  stands : Stands s h

abbrev FitsAt : BotState → Type 0
FitsAt s = IsFittingUpdate (action_of s)

fits_after : (limits : BotLimits) (s : BotState) (e : BotEvent) (m : ℕ) (h : History) (es : List (BotEvent × ℕ)) (o : Option BotState) → limits.steps < 2 ^ 32 → next_state s e m ≡ o →
    IfSome o (Row s (action_of s) e m (heard (action_of s) e m h)) → IfSome (option_map (issue_action m) o) (rows.Row s s.phase s.awaited e m) → Bounded limits s h →
    ((t : BotState) (k : History) → Bounded limits t k → All FitsAt (states_after t es)) →
    All FitsAt (option_map_or (λ t. t ∷ states_after t es) (option_map (issue_action m) o) [])
fits_after limits s e m h es None few is row old b all = All-nil FitsAt
fits_after limits s e m h es (Some t) few is row old b all =
    let u : BotState = issue_action m t in
    let same : u.limits ≡ limits = issue_limits m t ∙ row.limits ∙ b.same in
    let inside : InBounds u = stepped_keeps s t e m b.bounds is in
    All-cons FitsAt u (states_after u es) (fits_awaited u u.awaited inside (subst (λ (l : BotLimits). l.steps < 2 ^ 32) (sym same) few))
    (all u (done (action_of u) m (heard (action_of s) e m h)) (record { same = same; bounds = inside; stands = stands_next s t e m h row old b.stands }))

all_from : (limits : BotLimits) → limits.steps < 2 ^ 32 → (es : List (BotEvent × ℕ)) (s : BotState) (h : History) → Bounded limits s h → All FitsAt (states_after s es)
all_from limits few [] s h b = All-nil FitsAt
all_from limits few (e ∷ es) s h b =
    fits_after limits s e.0 e.1 h es (next_state s e.0 e.1) few refl (next_row s e.0 e.1 h b.stands.quiet b.stands.agrees) (rows.stepped_row s e.0 e.1) b (all_from limits few es)

opening_bounds : (limits : BotLimits) → InBounds (opening limits)
opening_bounds limits i = record { steps = omega arith; session = omega arith; claim = omega arith; polls = omega arith; tasks = omega arith; run = record { pending = omega arith; output = omega arith; dropped = omega arith; duration = omega arith } }

pub all_fit : (limits : BotLimits) (events : List (BotEvent × ℕ)) → limits.steps < 2 ^ 32 → All (λ s. IsFittingUpdate (action_of s)) (states_after (opening limits) events)
all_fit limits events few = all_from limits few events (opening limits) (claimed 0 0 0) (record { same = refl; bounds = opening_bounds limits; stands = stands_first limits })

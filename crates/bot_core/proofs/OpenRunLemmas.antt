-- A bot asks for no work while a run is open.
use Rattle.std.proofs.Common.{◌≡◌, ℕ, Bool, true, false, List, [], ◌∷◌, ◌++◌, if◌then◌else◌, Option, Some, None, IfSome, refl, sym, ◌∙◌}
use Rattle.std.proofs.lemmas.List.Elements.{All-nil, All-cons}
use Rattle.std.specs.Prelude.{All}
use Rattle.std.specs.Option.{option_map_or}
use Rattle.bot_core.specs.Types.{Action, BotEvent, BotLimits, BotState, Phase, Awaited, Begin, Answer, Slept}
use Rattle.bot_core.specs.declared.bot_state.Phase.TheVariants as phase
use Rattle.bot_core.specs.Table.{opening, stepped, phase_action, awaited_action, action_of}
use Rattle.bot_core.specs.States.{steps_of}
use Rattle.bot_core.specs.OpenRuns.{is_claim_run, is_clean_up, asks_for_work, is_open_after, open_actions}
use Rattle.bot_core.proofs.RowParts.{asks, cleans}
use Rattle.bot_core.proofs.Rows.{Row, stepped_row}

-- ---- actions and phases

phase_cleans : (t : BotState) (p : Phase) → is_clean_up (phase_action t p) ≡ cleans p Answer
phase_cleans t phase.CleanUp = refl
phase_cleans t p = refl

begin_cleans : (p : Phase) → cleans p Answer ≡ cleans p Begin
begin_cleans phase.CleanUp = refl
begin_cleans p = refl

sleep_cleans : (p : Phase) (secs : ℕ) → false ≡ cleans p (Slept secs)
sleep_cleans phase.CleanUp secs = refl
sleep_cleans p secs = refl

action_cleans : (t : BotState) (a : Awaited) → is_clean_up (awaited_action t a) ≡ cleans t.phase a
action_cleans t Begin = phase_cleans t t.phase ∙ begin_cleans t.phase
action_cleans t Answer = phase_cleans t t.phase
action_cleans t (Slept secs) = sleep_cleans t.phase secs

phase_asks : (t : BotState) (p : Phase) → asks p Answer ≡ false → asks_for_work (phase_action t p) ≡ false
phase_asks t phase.Handshake h = absurd (cc)
phase_asks t phase.Poll h = absurd (cc)
phase_asks t phase.Claim h = absurd (cc)
phase_asks t p h = refl

begin_asks : (p : Phase) → asks p Begin ≡ true
begin_asks phase.Handshake = refl
begin_asks p = refl

action_asks : (t : BotState) (a : Awaited) → asks t.phase a ≡ false → asks_for_work (awaited_action t a) ≡ false
action_asks t Begin h = absurd (let k : asks t.phase Begin ≡ true = begin_asks t.phase in cc)
action_asks t Answer h = phase_asks t t.phase h
action_asks t (Slept secs) h = refl

-- ---- the runs

abbrev IsInside : Bool → BotState → Type 0
IsInside was_open s = was_open ≡ true → asks s.phase s.awaited ≡ false

abbrev AsksNoWork : Action → Type 0
AsksNoWork a = asks_for_work a ≡ false

inside_after : (s t : BotState) (e : BotEvent) (m : ℕ) (was_open claimed cleaned : Bool) → is_claim_run e ≡ claimed → is_clean_up (action_of s) ≡ cleaned → Row s s.phase s.awaited e m t → IsInside was_open s →
    IsInside (if claimed then true else if cleaned then false else was_open) t
inside_after s t e m was_open true cleaned h k row inside = λ o. row.opened h
inside_after s t e m was_open false true h k row inside = λ o. absurd (cc)
inside_after s t e m was_open false false h k row inside = λ o. row.stays (inside o) (sym (action_cleans s s.awaited) ∙ k)

with_open : (t : BotState) (c : Bool) (rest : List Action) → IsInside c t → All AsksNoWork rest → All AsksNoWork ((if c then action_of t ∷ [] else []) ++ rest)
with_open t true rest inside all = All-cons AsksNoWork (action_of t) rest (action_asks t t.awaited (inside refl)) all
with_open t false rest inside all = all

asks_none_after : (s : BotState) (e : BotEvent) (m : ℕ) (es : List (BotEvent × ℕ)) (was_open : Bool) (o : Option BotState) → IfSome o (Row s s.phase s.awaited e m) → IsInside was_open s →
    ((t : BotState) (c : Bool) → IsInside c t → All AsksNoWork (open_actions c (steps_of t es))) →
    All AsksNoWork (open_actions was_open (option_map_or (λ t. record { before = s; event = e; moment = m; after = t } ∷ steps_of t es) o []))
asks_none_after s e m es was_open None row inside all = All-nil AsksNoWork
asks_none_after s e m es was_open (Some t) row inside all =
    let now : Bool = is_open_after was_open (record { before = s; event = e; moment = m; after = t }) in
    let k : IsInside now t = inside_after s t e m was_open (is_claim_run e) (is_clean_up (action_of s)) refl refl row inside in
    with_open t now (open_actions now (steps_of t es)) k (all t now k)

asks_none : (es : List (BotEvent × ℕ)) (s : BotState) (was_open : Bool) → IsInside was_open s → All AsksNoWork (open_actions was_open (steps_of s es))
asks_none [] s was_open inside = All-nil AsksNoWork
asks_none (e ∷ es) s was_open inside = asks_none_after s e.0 e.1 es was_open (stepped s e.0 e.1) (stepped_row s e.0 e.1) inside (asks_none es)

pub asks_none_while_open : (limits : BotLimits) (events : List (BotEvent × ℕ)) → All (λ a. asks_for_work a ≡ false) (open_actions false (steps_of (opening limits) events))
asks_none_while_open limits events = asks_none events (opening limits) false (λ h. absurd (cc))

-- A request is sent again as it was.
use Rattle.std.proofs.Common.{◌≡◌, ℕ, ◌+◌, ◌≤◌, Bool, true, false, ◌&&◌, if◌then◌else◌, nat_le, Option, Some, None, ◌⊎◌, inl, inr, refl, ap, sym, ◌∙◌, subst, arith}
use Rattle.std.proofs.lemmas.Bool.Decides.{nat_tests}
use Rattle.std.specs.Option.{option_map}
use Rattle.bot_core.specs.Types.{Action, BotEvent, BotState, Phase, Awaited, Begin, Answer, Slept}
use Rattle.bot_core.specs.declared.action.Action.TheVariants as action
use Rattle.bot_core.specs.declared.action.StopWhy.TheVariants as why
use Rattle.bot_core.specs.declared.bot_event.BotEvent.TheVariants as event
use Rattle.bot_core.specs.declared.bot_state.Phase.TheVariants as phase
use Rattle.bot_core.specs.Table.{enter, enter_stop, enter_sleep, is_stop, sends_request, is_transient, after_begin, after_answer, after_event, next_state, phase_action, awaited_action, action_of, record_action, count_step, issue_action, stepped}
use Rattle.bot_core.specs.Repeats.{is_request, StopsAtLimit, IsRepeated}

if_true : (c : Bool) (x y : Option BotState) → c ≡ true → (if c then x else y) ≡ x
if_true true x y h = refl
if_true false x y h = absurd (cc)

if_false : (c : Bool) (x y : Option BotState) → c ≡ false → (if c then x else y) ≡ y
if_false true x y h = absurd (cc)
if_false false x y h = refl

-- ---- phases

request_phase : (s : BotState) (p : Phase) → is_request (phase_action s p) ≡ true → (is_stop p ≡ false) × (sends_request p ≡ true)
request_phase s phase.Handshake h = (refl, refl)
request_phase s phase.Poll h = (refl, refl)
request_phase s phase.Claim h = (refl, refl)
request_phase s phase.Prepare h = (refl, refl)
request_phase s phase.Send h = (refl, refl)
request_phase s phase.LastSend h = (refl, refl)
request_phase s phase.Upload h = (refl, refl)
request_phase s p h = absurd (cc)

both_true : (a b : Bool) → a ≡ true → b ≡ true → (a && b) ≡ true
both_true true true h k = refl
both_true true false h k = absurd (cc)
both_true false b h k = absurd (cc)

begin_takes_none : (s : BotState) (e : BotEvent) (m : ℕ) → is_transient e ≡ true → after_begin s e m ≡ None
begin_takes_none s event.Begin m h = absurd (cc)
begin_takes_none s e m h = refl

step_of : (s t v : BotState) (e : BotEvent) (m : ℕ) → next_state s e m ≡ Some v → stepped s e m ≡ Some t → issue_action m v ≡ t
step_of s t v e m h k = let i : Some (issue_action m v) ≡ Some t = sym (ap (λ (o : Option BotState). option_map (issue_action m) o) h) ∙ k in cc

-- a bot at a phase, whose action is answered
abbrev at : BotState → Phase → BotState
at s p = record s { phase = p; awaited = Answer }

-- ---- the second step

below : (x y : ℕ) (c : Bool) → nat_le x y ≡ c → c ≡ true → x ≤ y
below x y c h k = grind (arith, nat_tests)

-- an action that is counted, or the limit of steps
counted : (s x : BotState) (a : Action) (c : Bool) → nat_le x.limits.steps x.steps ≡ c → x.limits.steps ≡ s.limits.steps → x.steps ≡ s.steps + 1 → x.tasks ≡ s.tasks →
    action_of (record x { steps = x.steps + 1 }) ≡ a → (action_of (if c then enter_stop why.Steps x else record x { steps = x.steps + 1 }) ≡ a) ⊎ StopsAtLimit s (action_of (if c then enter_stop why.Steps x else record x { steps = x.steps + 1 }))
counted s x a true h l n k is = inr (inr (ap (λ i. action.Stop why.Steps i) k, omega (arith, below x.limits.steps x.steps true h refl, l, n)))
counted s x a false h l n k is = inl is

-- the bot as it wakes
abbrev woken : BotState → BotState
woken s = record s { steps = s.steps + 1 }

polled : (s : BotState) (n : ℕ) (c : Bool) → nat_le s.limits.polls s.polls ≡ c →
    let x : BotState = if c then enter_stop why.Polls (at (woken s) phase.Poll) else record (at (woken s) phase.Poll) { polls = s.polls + 1 } in
    (action_of (count_step x) ≡ action.Poll) ⊎ StopsAtLimit s (action_of (count_step x))
polled s n true h = polls_over (nat_le s.limits.steps (s.steps + 1)) refl
  where
    polls_over : (d : Bool) → nat_le s.limits.steps (s.steps + 1) ≡ d →
        let x : BotState = enter_stop why.Polls (at (woken s) phase.Poll) in
        let y : BotState = if d then enter_stop why.Steps x else record x { steps = x.steps + 1 } in
        (action_of y ≡ action.Poll) ⊎ StopsAtLimit s (action_of y)
    polls_over true k = inr (inr (refl, below s.limits.steps (s.steps + 1) true k refl))
    polls_over false k = inr (inl (refl, below s.limits.polls s.polls true h refl))
polled s n false h = counted s (record (at (woken s) phase.Poll) { polls = s.polls + 1 }) action.Poll (nat_le s.limits.steps (s.steps + 1)) refl refl refl refl refl

again_at : (s : BotState) (p : Phase) (n : ℕ) → sends_request p ≡ true →
    (action_of (issue_action n (at (woken s) p)) ≡ phase_action s p) ⊎ StopsAtLimit s (action_of (issue_action n (at (woken s) p)))
again_at s phase.Handshake n h = counted s (at (woken s) phase.Handshake) (phase_action s phase.Handshake) (nat_le s.limits.steps (s.steps + 1)) refl refl refl refl refl
again_at s phase.Poll n h = polled s n (nat_le s.limits.polls s.polls) refl
again_at s phase.Claim n h = counted s (at (woken s) phase.Claim) (phase_action s phase.Claim) (nat_le s.limits.steps (s.steps + 1)) refl refl refl refl refl
again_at s phase.Prepare n h = counted s (at (woken s) phase.Prepare) (phase_action s phase.Prepare) (nat_le s.limits.steps (s.steps + 1)) refl refl refl refl refl
again_at s phase.Send n h = counted s (record_action (phase_action s phase.Send) n (at (woken s) phase.Send)) (phase_action s phase.Send) (nat_le s.limits.steps (s.steps + 1)) refl refl refl refl refl
again_at s phase.LastSend n h = counted s (record_action (phase_action s phase.LastSend) n (at (woken s) phase.LastSend)) (phase_action s phase.LastSend) (nat_le s.limits.steps (s.steps + 1)) refl refl refl refl refl
again_at s phase.Upload n h = counted s (at (woken s) phase.Upload) (phase_action s phase.Upload) (nat_le s.limits.steps (s.steps + 1)) refl refl refl refl refl
again_at s p n h = absurd (cc)

-- ---- both steps

second : (s u : BotState) (p : Phase) (n : ℕ) → is_stop p ≡ false → sends_request p ≡ true →
    stepped (record (enter_sleep 5 p s) { steps = s.steps + 1 }) event.Slept n ≡ Some u → (action_of u ≡ phase_action s p) ⊎ StopsAtLimit s (action_of u)
second s u p n a b y =
    let w : BotState = record (enter_sleep 5 p s) { steps = s.steps + 1 } in
    let i : next_state w event.Slept n ≡ Some (at (woken s) p) = if_false (is_stop p) None (Some (enter p w)) a in
    let k : issue_action n (at (woken s) p) ≡ u = step_of w u (at (woken s) p) event.Slept n i y in
    subst (λ (x : BotState). (action_of x ≡ phase_action s p) ⊎ StopsAtLimit s (action_of x)) k (again_at s p n b)

slept : (s t u : BotState) (p : Phase) (n : ℕ) (c : Bool) → (if c then enter_stop why.Steps (enter_sleep 5 p s) else record (enter_sleep 5 p s) { steps = s.steps + 1 }) ≡ t →
    is_stop p ≡ false → sends_request p ≡ true → stepped t event.Slept n ≡ Some u → (action_of t ≡ action.Sleep 5) × ((action_of u ≡ phase_action s p) ⊎ StopsAtLimit s (action_of u))
slept s t u p n true is a b y =
    let k : stepped (enter_stop why.Steps (enter_sleep 5 p s)) event.Slept n ≡ Some u = subst (λ (x : BotState). stepped x event.Slept n ≡ Some u) (sym is) y in absurd (cc)
slept s t u p n false is a b y =
    (subst (λ (x : BotState). action_of x ≡ action.Sleep 5) is refl, second s u p n a b (subst (λ (x : BotState). stepped x event.Slept n ≡ Some u) (sym is) y))

repeated_at : (s t u : BotState) (a : Awaited) (p : Phase) (e : BotEvent) (m n : ℕ) → is_request (awaited_action (record s { phase = p; awaited = a }) a) ≡ true → is_transient e ≡ true →
    stepped (record s { phase = p; awaited = a }) e m ≡ Some t → stepped t event.Slept n ≡ Some u → IsRepeated (record s { phase = p; awaited = a }) t u
repeated_at s t u (Slept secs) p e m n r h x y = absurd (cc)
repeated_at s t u Begin p e m n r h x y =
    let q : (is_stop p ≡ false) × (sends_request p ≡ true) = request_phase (record s { phase = p; awaited = Begin }) p r in
    let b : BotState = record s { phase = p; awaited = Begin } in
    let i : next_state b e m ≡ None = if_false (is_stop p) None (after_begin b e m) q.0 ∙ begin_takes_none b e m h in
    let k : None ≡ Some t = sym (ap (λ (o : Option BotState). option_map (issue_action m) o) i) ∙ x in absurd (cc)
repeated_at s t u Answer p e m n r h x y =
    let b : BotState = at s p in
    let q : (is_stop p ≡ false) × (sends_request p ≡ true) = request_phase b p r in
    let i : next_state b e m ≡ Some (enter_sleep 5 p b) =
    if_false (is_stop p) None (after_event b Answer e m) q.0 ∙ if_true (sends_request p && is_transient e) (Some (enter_sleep 5 p b)) (after_answer b p e m) (both_true (sends_request p) (is_transient e) q.1 h) in
    let k : issue_action m (enter_sleep 5 p b) ≡ t = step_of b t (enter_sleep 5 p b) e m i x in
    let z : (action_of t ≡ action.Sleep 5) × ((action_of u ≡ phase_action b p) ⊎ StopsAtLimit b (action_of u)) = slept b t u p n (nat_le s.limits.steps s.steps) k q.0 q.1 y in
    record { sleeps = z.0; again = z.1 }

pub repeated : (s t u : BotState) (e : BotEvent) (m n : ℕ) → is_request (action_of s) ≡ true → is_transient e ≡ true →
    stepped s e m ≡ Some t → stepped t event.Slept n ≡ Some u → IsRepeated s t u
repeated s t u e m n r h x y = repeated_at s t u s.awaited s.phase e m n r h x y

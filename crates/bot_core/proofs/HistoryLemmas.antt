-- What holds as a bot chooses its actions, by what is known of its run.
use Rattle.std.proofs.Common.{◌≡◌, ◌⊎◌, ℕ, ◌+◌, ◌≤◌, Bool, true, false, not, ◌&&◌, ◌==◌, if◌then◌else◌, nat_le, List, [], ◌∷◌, Option, Some, None, IfSome, inl, inr, refl, ap, sym, ◌∙◌, subst, arith}
use Rattle.std.proofs.lemmas.Bool.Decides.{nat_tests}
use Rattle.std.proofs.lemmas.List.Elements.{All-nil, All-cons, All-weaker}
use Rattle.std.specs.Prelude.{All, IsSomeAnd, ◌↔◌}
use Rattle.std.specs.Option.{option_map, option_map_or}
use Rattle.bot_core.specs.Types.{Run, Action, End, Term, Kill, BotEvent, BotLimits, BotState, Phase, Awaited, Begin, Answer, Slept}
use Rattle.bot_core.specs.declared.action.Action.TheVariants as action
use Rattle.bot_core.specs.declared.action.StopWhy.TheVariants as why
use Rattle.bot_core.specs.declared.bot_state.Phase.TheVariants as phase
use Rattle.bot_core.specs.RunChanges.{is_reached, end_of}
use Rattle.bot_core.specs.Table.{opening, enter_stop, is_stop, next_state, record_action, count_step, issue_action, stepped, phase_action, awaited_action, action_of}
use Rattle.bot_core.specs.States.{Step, steps_of}
use Rattle.bot_core.specs.Histories.{TermSent, History, claimed, heard, done, Choice, choices, choices_of}
use Rattle.bot_core.specs.RunLaws.{finds_running, StopsAtSteps, is_look, StopsRun, reports_or_signals, ReportsRun, HasReached, IsForTime, IsForSilence, TellsWhy}
use Rattle.bot_core.proofs.RowParts.{Quiet}
use Rattle.bot_core.proofs.Rows as rows
use Rattle.bot_core.proofs.HistoryRows.{for_time, for_silence, View, Agrees, logged, Stays, Row, next_row}

-- ---- the action is counted

abbrev is_poll : Action → Bool
is_poll action.Poll = true
is_poll a = false

abbrev run_done : Action → ℕ → Run → Run
run_done (action.Send start size last) m r = record r { last_send = m }
run_done a m r = r

moved_phase : (t : BotState) (p : Phase) (polls steps last : ℕ) → phase_action (record t { polls = polls; steps = steps; run = record t.run { last_send = last } }) p ≡ phase_action t p
moved_phase t phase.Handshake polls steps last = refl
moved_phase t p polls steps last = refl

moved_action : (t : BotState) (a : Awaited) (polls steps last : ℕ) → awaited_action (record t { polls = polls; steps = steps; run = record t.run { last_send = last } }) a ≡ awaited_action t a
moved_action t Begin polls steps last = moved_phase t t.phase polls steps last
moved_action t Answer polls steps last = moved_phase t t.phase polls steps last
moved_action t (Slept secs) polls steps last = refl

-- the action stays, or the bot stops at a limit
data Issued (t u : BotState) (x : Action) (m : ℕ) : Type 0 where
  goes_on : action_of u ≡ action_of t → u.phase ≡ t.phase → u.run ≡ run_done x m t.run → Issued t u x m
  at_steps : action_of u ≡ action.Stop why.Steps t.tasks → t.limits.steps ≤ t.steps → is_stop u.phase ≡ true → Issued t u x m
  at_polls : is_poll x ≡ true → is_stop u.phase ≡ true → Issued t u x m

counted : (t : BotState) (x : Action) (m polls last : ℕ) (c : Bool) → nat_le t.limits.steps t.steps ≡ c → record t.run { last_send = last } ≡ run_done x m t.run →
    let y : BotState = record t { polls = polls; run = record t.run { last_send = last } } in Issued t (if c then enter_stop why.Steps y else record y { steps = y.steps + 1 }) x m
counted t x m polls last true h k = at_steps refl (grind (arith, nat_tests)) refl
counted t x m polls last false h k = goes_on (moved_action t t.awaited polls (t.steps + 1) last) refl k

stop_counted : (t : BotState) (m : ℕ) (d : Bool) → let y : BotState = enter_stop why.Polls t in Issued t (if d then enter_stop why.Steps y else record y { steps = y.steps + 1 }) action.Poll m
stop_counted t m true = at_polls refl refl
stop_counted t m false = at_polls refl refl

polled : (t : BotState) (m : ℕ) (c : Bool) → Issued t (count_step (if c then enter_stop why.Polls t else record t { polls = t.polls + 1 })) action.Poll m
polled t m true = stop_counted t m (nat_le t.limits.steps t.steps)
polled t m false = counted t action.Poll m (t.polls + 1) t.run.last_send (nat_le t.limits.steps t.steps) refl refl

issued : (t : BotState) (x : Action) (m : ℕ) → Issued t (count_step (record_action x m t)) x m
issued t action.Poll m = polled t m (nat_le t.limits.polls t.polls)
issued t (action.Send start size last) m = counted t (action.Send start size last) m t.polls m (nat_le t.limits.steps t.steps) refl refl
issued t x m = counted t x m t.polls t.run.last_send (nat_le t.limits.steps t.steps) refl refl

agrees_done : (x : Action) (m : ℕ) (r : Run) (h : History) → Agrees r (logged x m h) → Agrees (run_done x m r) (done x m h)
agrees_done (action.Send start size last) m r h g = ap (λ (v : View). record v { last_send = m }) g
agrees_done (action.Signal Term) m r h g = g
agrees_done (action.Signal Kill) m r h g = g
agrees_done x m r h g = g

-- ---- a report

-- the last update tells the run
sent_phase : (t : BotState) (p : Phase) (start size : ℕ) (end : End) → phase_action t p ≡ action.Send start size (Some end) → (end ≡ end_of t.run) × (is_stop p ≡ false)
sent_phase t phase.LastSend start size end h = (cc, refl)
sent_phase t p start size end h = absurd (cc)

sent : (t : BotState) (a : Awaited) (start size : ℕ) (end : End) → awaited_action t a ≡ action.Send start size (Some end) → (end ≡ end_of t.run) × (is_stop t.phase ≡ false)
sent t Begin start size end h = sent_phase t t.phase start size end h
sent t Answer start size end h = sent_phase t t.phase start size end h
sent t (Slept secs) start size end h = absurd (cc)

both_parts : (a b : Bool) → (not a && b) ≡ true → (a ≡ false) × (b ≡ true)
both_parts true b h = absurd (cc)
both_parts false b h = (refl, h)

both : (a b : Bool) → a ≡ false → b ≡ true → (not a && b) ≡ true
both true b h k = absurd (cc)
both false b h k = k

reached_told : (since limit m : ℕ) → is_reached since limit m ≡ true → HasReached since limit m
reached_told since limit m h = let k : ((limit == 0) ≡ false) × (nat_le (since + limit) m ≡ true) = both_parts (limit == 0) (nat_le (since + limit) m) h in
    let a : (limit == 0) ≡ false = k.0 in let b : nat_le (since + limit) m ≡ true = k.1 in (grind (arith, nat_tests), grind (arith, nat_tests))

told_reached : (since limit m : ℕ) → HasReached since limit m → is_reached since limit m ≡ true
told_reached since limit m h =
    let a : 1 ≤ limit = h.0 in let b : since + limit ≤ m = h.1 in both (limit == 0) (nat_le (since + limit) m) (grind (arith, nat_tests)) (grind (arith, nat_tests))

not_reached : (b : Bool) (A : Type 0) → (b ≡ true → A) → (A → ⊥) → b ≡ false
not_reached true A f h = absurd (h (f refl))
not_reached false A f h = refl

time_told : (execution : ℕ) (o : Option TermSent) → (for_time execution o ≡ true) ↔ IsSomeAnd o (λ t. (t.asked ≡ false) × HasReached t.started execution t.moment)
time_told execution None = (λ k. absurd (cc), λ k. absurd k)
time_told execution (Some t) = (
  λ k. let p : (t.asked ≡ false) × (is_reached t.started execution t.moment ≡ true) = both_parts t.asked (is_reached t.started execution t.moment) k in (p.0, reached_told t.started execution t.moment p.1),
  λ k. both t.asked (is_reached t.started execution t.moment) k.0 (told_reached t.started execution t.moment k.1),
)

silence_told : (execution io : ℕ) (o : Option TermSent) →
    (for_silence execution io o ≡ true) ↔ IsSomeAnd o (λ t. (t.asked ≡ false) × (HasReached t.started execution t.moment → ⊥) × HasReached t.last_output io t.moment)
silence_told execution io None = (λ k. absurd (cc), λ k. absurd k)
silence_told execution io (Some t) = (
  λ k.
      let x : Bool = is_reached t.started execution t.moment in let y : Bool = is_reached t.last_output io t.moment in
      let p : (t.asked ≡ false) × ((not x && y) ≡ true) = both_parts t.asked (not x && y) k in
      let q : (x ≡ false) × (y ≡ true) = both_parts x y p.1 in
      (p.0, λ i. let z : x ≡ true = told_reached t.started execution t.moment i in let w : x ≡ false = q.0 in cc, reached_told t.last_output io t.moment q.1),
  λ k.
      let x : Bool = is_reached t.started execution t.moment in let y : Bool = is_reached t.last_output io t.moment in
      both t.asked (not x && y) k.0 (both x y (not_reached x (HasReached t.started execution t.moment) (reached_told t.started execution t.moment) k.1) (told_reached t.last_output io t.moment k.2)),
)

unlogged : (x : Action) (start size m : ℕ) (end : End) (h : History) → x ≡ action.Send start size (Some end) → logged x m h ≡ h
unlogged (action.Signal Term) start size m end h k = absurd (cc)
unlogged (action.Signal Kill) start size m end h k = refl
unlogged x start size m end h k = refl

tells_why : (t : BotState) (h : History) (start size m : ℕ) (end : End) → (is_stop t.phase ≡ false → Agrees t.run (logged (action_of t) m h)) → action_of t ≡ action.Send start size (Some end) → TellsWhy h end
tells_why t h start size m end g k =
    let e : (end ≡ end_of t.run) × (is_stop t.phase ≡ false) = sent t t.awaited start size end k in
    let a : Agrees t.run h = subst (λ (x : History). Agrees t.run x) (unlogged (action_of t) start size m end h k) (g e.1) in
    let hard : end.hard_timeout ≡ for_time h.execution h.term = ap End.hard_timeout e.0 ∙ ap View.hard a in
    let io : end.io_timeout ≡ for_silence h.execution h.io h.term = ap End.io_timeout e.0 ∙ ap View.silent a in
    record {
      hard = subst (λ (b : Bool). (b ≡ true) ↔ IsForTime h) (sym hard) (time_told h.execution h.term);
      io = subst (λ (b : Bool). (b ≡ true) ↔ IsForSilence h) (sym io) (silence_told h.execution h.io h.term);
    }

-- ---- what holds of a choice

record Lawful (c : Choice) : Type 0 where
  stops : StopsRun c
  reports : ReportsRun c
  tells : (start size : ℕ) (end : End) → action_of c.step.after ≡ action.Send start size (Some end) → TellsWhy c.history end

look_polls : (a : Action) → is_look a ≡ true → is_poll a ≡ true → ⊥
look_polls action.Poll h k = cc
look_polls a h k = cc

report_polls : (a : Action) → reports_or_signals a ≡ true → is_poll a ≡ true → ⊥
report_polls action.Poll h k = cc
report_polls a h k = cc

term_polls : (a : Action) → a ≡ action.Signal Term → is_poll a ≡ true → ⊥
term_polls a h k = let i : is_poll (action.Signal Term) ≡ true = subst (λ x. is_poll x ≡ true) h k in cc

-- an action is chosen, or the bot stops at the limit of steps
chosen : (P : Action → Type 0) (s t u : BotState) (e : BotEvent) (m : ℕ) → Issued t u (action_of t) m → ((a : Action) → P a → is_poll a ≡ true → ⊥) → P (action_of t) × Stays s t →
    P (action_of u) ⊎ StopsAtSteps (record { before = s; event = e; moment = m; after = u })
chosen P s t u e m (goes_on a b c) f g = inl (subst P (sym a) g.0)
chosen P s t u e m (at_steps a b c) f g =
    let k : Stays s t = g.1 in inr (record { stops = a ∙ ap (λ n. action.Stop why.Steps n) k.tasks; reached = omega (arith, b, ap (λ l. l.steps) k.limits, k.steps) })
chosen P s t u e m (at_polls a b) f g = absurd (f (action_of t) g.0 a)

lawful : (s t : BotState) (e : BotEvent) (m : ℕ) (h : History) → Row s (action_of s) e m h t → Lawful (record { history = h; step = record { before = s; event = e; moment = m; after = issue_action m t } })
lawful s t e m h row =
    let u : BotState = issue_action m t in
    let i : Issued t u (action_of t) m = issued t (action_of t) m in
    record {
      stops = record {
        looks = λ a. chosen (λ x. is_look x ≡ true) s t u e m i look_polls (row.looks a);
        terminates = λ a b c. chosen (λ x. x ≡ action.Signal Term) s t u e m i term_polls (row.terminates a b c);
      };
      reports = λ a b c. chosen (λ x. reports_or_signals x ≡ true) s t u e m i report_polls (row.reports a b c);
      tells = λ start size end k. told_by i start size end k;
    }
  where
    told_by : Issued t (issue_action m t) (action_of t) m → (start size : ℕ) (end : End) → action_of (issue_action m t) ≡ action.Send start size (Some end) → TellsWhy h end
    told_by (goes_on a b c) start size end k = tells_why t h start size m end row.kept (sym a ∙ k)
    told_by (at_steps a b c) start size end k = absurd (let z : action.Stop why.Steps t.tasks ≡ action.Send start size (Some end) = sym a ∙ k in cc)
    told_by (at_polls a b) start size end k =
        absurd (let z : is_stop (issue_action m t).phase ≡ false = (sent (issue_action m t) (issue_action m t).awaited start size end k).1 in let w : is_stop (issue_action m t).phase ≡ true = b in cc)

-- ---- over all steps

pub record Stands (s : BotState) (h : History) : Type 0 where
  pub quiet : Quiet s.phase s.awaited
  pub agrees : is_stop s.phase ≡ false → Agrees s.run h

agrees_next : (t u : BotState) (m : ℕ) (h : History) → Issued t u (action_of t) m → (is_stop t.phase ≡ false → Agrees t.run (logged (action_of t) m h)) → is_stop u.phase ≡ false → Agrees u.run (done (action_of u) m h)
agrees_next t u m h (goes_on a b c) g n =
    let k : Agrees (run_done (action_of t) m t.run) (done (action_of t) m h) = agrees_done (action_of t) m t.run h (g (ap is_stop (sym b) ∙ n)) in
    subst (λ (r : Run). Agrees r (done (action_of u) m h)) (sym c) (subst (λ (x : Action). Agrees (run_done (action_of t) m t.run) (done x m h)) (sym a) k)
agrees_next t u m h (at_steps a b c) g n = absurd (cc)
agrees_next t u m h (at_polls a b) g n = absurd (cc)

pub stands_next : (s t : BotState) (e : BotEvent) (m : ℕ) (h : History) → Row s (action_of s) e m (heard (action_of s) e m h) t → rows.Row s s.phase s.awaited e m (issue_action m t) → Stands s h →
    Stands (issue_action m t) (done (action_of (issue_action m t)) m (heard (action_of s) e m h))
stands_next s t e m h row old stands =
    record { quiet = old.quiet stands.quiet; agrees = agrees_next t (issue_action m t) m (heard (action_of s) e m h) (issued t (action_of t) m) row.kept }

pub stands_first : (limits : BotLimits) → Stands (opening limits) (claimed 0 0 0)
stands_first limits = record { quiet = λ h. refl; agrees = λ h. refl }

-- the choices behind a step, where the next state is this one
lawful_after : (s : BotState) (e : BotEvent) (m : ℕ) (h : History) (es : List (BotEvent × ℕ)) (o : Option BotState) →
    let now : History = heard (action_of s) e m h in
    IfSome o (Row s (action_of s) e m now) → IfSome (option_map (issue_action m) o) (rows.Row s s.phase s.awaited e m) → Stands s h →
    ((t : BotState) (k : History) → Stands t k → All Lawful (choices k (steps_of t es))) →
    All Lawful (choices h (option_map_or (λ t. record { before = s; event = e; moment = m; after = t } ∷ steps_of t es) (option_map (issue_action m) o) []))
lawful_after s e m h es None row old stands all = All-nil Lawful
lawful_after s e m h es (Some t) row old stands all =
    let now : History = heard (action_of s) e m h in
    let u : BotState = issue_action m t in
    All-cons Lawful (record { history = now; step = record { before = s; event = e; moment = m; after = u } }) (choices (done (action_of u) m now) (steps_of u es))
    (lawful s t e m now row)
    (all u (done (action_of u) m now) (stands_next s t e m h row old stands))

all_lawful : (es : List (BotEvent × ℕ)) (s : BotState) (h : History) → Stands s h → All Lawful (choices h (steps_of s es))
all_lawful [] s h stands = All-nil Lawful
all_lawful (e ∷ es) s h stands = lawful_after s e.0 e.1 h es (next_state s e.0 e.1) (next_row s e.0 e.1 h stands.quiet stands.agrees) (rows.stepped_row s e.0 e.1) stands (all_lawful es)

lawful_from_begin : (limits : BotLimits) (events : List (BotEvent × ℕ)) → All Lawful (choices_of limits events)
lawful_from_begin limits events = all_lawful events (opening limits) (claimed 0 0 0) (stands_first limits)

pub all_stop : (limits : BotLimits) (events : List (BotEvent × ℕ)) → All StopsRun (choices_of limits events)
all_stop limits events = All-weaker Lawful StopsRun (λ c l. l.stops) (choices_of limits events) (lawful_from_begin limits events)

pub all_report : (limits : BotLimits) (events : List (BotEvent × ℕ)) → All ReportsRun (choices_of limits events)
all_report limits events = All-weaker Lawful ReportsRun (λ c l. l.reports) (choices_of limits events) (lawful_from_begin limits events)

pub all_tell : (limits : BotLimits) (events : List (BotEvent × ℕ)) →
    All (λ c. (start size : ℕ) (end : End) → action_of c.step.after ≡ action.Send start size (Some end) → TellsWhy c.history end) (choices_of limits events)
all_tell limits events =
    All-weaker Lawful (λ c. (start size : ℕ) (end : End) → action_of c.step.after ≡ action.Send start size (Some end) → TellsWhy c.history end) (λ c l. l.tells) (choices_of limits events) (lawful_from_begin limits events)

-- A step of the bot keeps what stands between the two ends.
use Rattle.std.proofs.Common.{◌≡◌, ◌⊎◌, inl, inr, ℕ, ◌+◌, ◌<◌, Bool, true, false, if◌then◌else◌, List, [], ◌∷◌, ◌++◌, length, Option, Some, None, IfSome, refl, ap, sym, ◌∙◌, subst, arith, length-append}
use Rattle.std.specs.Prelude.{slice_get}
use Rattle.std.specs.Option.{option_map}
use Rattle.bot_core.specs.declared.action.Action.TheVariants as action
use Rattle.bot_worlds.specs.Types.{BotEvent, BotState, Phase, Chunk, Last}
use Rattle.bot_core.specs.declared.bot_event.BotEvent.TheVariants as event
use Rattle.bot_core.specs.declared.bot_state.Phase.TheVariants as phase
use Rattle.bot_core.specs.Bounds.{InBounds}
use Rattle.bot_core.specs.Output.{output_start, waiting_at, waiting_after, wrote_after, HasBytes}
use Rattle.bot_core.specs.Table.{stepped, next_state, issue_action, is_stop, is_transient, sends_request, phase_action, action_of}
use Rattle.bot_core.proofs.StateBounds.{stepped_keeps}
use Rattle.pool_laws.proofs.Lists.{Among, among_left, among_either}
use Rattle.bot_worlds.specs.declared.child_run.ChildRun.{ChildRun}
use Rattle.bot_worlds.specs.declared.sent.Sent.{Sent}
use Rattle.bot_worlds.specs.Phases.{claims, is_live, is_over}
use Rattle.bot_worlds.specs.World.{WorldState, request_of, runs_after, sent_after, pending_after, fed_world}
use Rattle.bot_worlds.specs.Invariant.{BotLog, log_of, IsReportedTo, HasNewest, wrote_of, IsBot, IsAsking, IsReport, CarriesSome, Stands}
use Rattle.bot_worlds.proofs.Walks.{is_run, is_sent, is_begin, Walk, Walks, step_walks, output_live}
use Rattle.bot_worlds.proofs.Walks.Walk.{plain, next_id, next_name, told, begun, sent}
use Rattle.bot_worlds.proofs.Repeating.{IsAgain, transient_again}
use Rattle.bot_worlds.proofs.Requests.{request_sends, uncut}
use Rattle.bot_worlds.proofs.Grown.{among_one, slice_left, steps_then}
use Rattle.bot_worlds.proofs.Parts.{IsTold, numbered_after, newest_after, runs_are_after, carried_after, started_early}
use Rattle.bot_worlds.proofs.Sending.{report_carries, IsAt, asks_after}

-- ---- bounds

pub bounds_at : (s t : BotState) (e : BotEvent) (m : ℕ) → InBounds s → stepped s e m ≡ Some t → InBounds t
bounds_at s t e m b h = by_next (next_state s e m) refl h
  where
    by_next : (o : Option BotState) → next_state s e m ≡ o → option_map (issue_action m) o ≡ Some t → InBounds t
    by_next None i k = absurd (cc)
    by_next (Some u) i k = (let z : issue_action m u ≡ t = cc (k) in subst InBounds z (stepped_keeps s u e m b i))

same_limit : (s : BotState) (p : Phase) (e : BotEvent) (x : ℕ × ℕ × ℕ) (c n : ℕ) (q : Phase) → Walk s p e x c n q → x.2 ≡ s.limits.steps
same_limit s p e x c n q (plain a b v k l o i j m) = ap (λ (y : ℕ × ℕ × ℕ). y.2) i
same_limit s p e x c n q (next_id a b k l o i m) = ap (λ (y : ℕ × ℕ × ℕ). y.2) i.0
same_limit s p e x c n q (next_name a b k l o i j m) = ap (λ (y : ℕ × ℕ × ℕ). y.2) i
same_limit s p e x c n q (told a b k l v i j m) = ap (λ (y : ℕ × ℕ × ℕ). y.2) i
same_limit s p e x c n q (begun a b k l o r i j m) = ap (λ (y : ℕ × ℕ × ℕ). y.2) i
same_limit s p e x c n q (sent a b d k l o i j m) = ap (λ (y : ℕ × ℕ × ℕ). y.2) i

pub claims_on : (p : Phase) → claims p ≡ true → is_stop p ≡ false
claims_on phase.Claim h = refl
claims_on p h = absurd (cc)

-- ---- the bot takes an event

-- the newest run's output, behind an event
wrote_after_is : (o : Option ChildRun) (e : BotEvent) (bytes : List ℕ) (runs : List ChildRun) → (is_run e ≡ true → (run : ChildRun) × (o ≡ Some run) × (run.wrote ≡ [])) → ((size : ℕ) → e ≡ event.Output size → runs ≡ [] → ⊥) →
    wrote_of (runs_after o e bytes runs) ≡ wrote_after e bytes (wrote_of runs)
wrote_after_is (Some r) (event.ClaimRun x i g d) bytes runs f k = (let h = f refl in let same : h.0 ≡ r = (let z = h.1 in cc) in ap (λ (y : ChildRun). y.wrote) (sym same) ∙ h.2)
wrote_after_is None (event.ClaimRun x i g d) bytes runs f k = absurd (let h = f refl in let z = h.1 in cc)
wrote_after_is o event.Started bytes [] f k = refl
wrote_after_is o event.Started bytes (run ∷ runs) f k = refl
wrote_after_is o (event.Output size) bytes [] f k = absurd (k size refl refl)
wrote_after_is o (event.Output size) bytes (run ∷ runs) f k = refl
wrote_after_is o e bytes runs f k = refl

live_not_over : (p : Phase) → is_live p ≡ true → is_over p ≡ true → ⊥
live_not_over phase.Look h k = cc
live_not_over (phase.Signal signal) h k = cc
live_not_over phase.Send h k = cc
live_not_over phase.Upload h k = cc
live_not_over p h k = cc

has_run : (lg : BotLog) (s : BotState) (runs : List ChildRun) → HasNewest lg s runs → is_live s.phase ≡ true → runs ≡ [] → ⊥
has_run lg s [] h v k = live_not_over s.phase v h.1
has_run lg s (run ∷ runs) h v k = cc

module _ (old : WorldState) (e : BotEvent) (m : ℕ) (bytes : List ℕ) (o : Option ChildRun) (again : Option ℕ) (t : BotState) (s : Stands old) (nb : is_begin e ≡ false) (is : stepped old.bot e m ≡ Some t) (has : HasBytes e bytes)
    (is_told : is_run e ≡ true → IsTold (log_of old) old.bot o)
    (reported : is_sent e ≡ true → old.bot.phase ≡ phase.Send → (run : ChildRun) (rest : List ChildRun) → old.runs ≡ run ∷ rest → IsReportedTo (log_of old) run.task run.try_no (old.bot.run.sent + old.bot.run.pending))
    (at : IfSome again (IsAt t old.name old.dims (runs_after o e bytes old.runs) (pending_after old e bytes) old.sent)) where
  abbrev runs2 : List ChildRun
  runs2 = runs_after o e bytes old.runs

  abbrev pending2 : List ℕ
  pending2 = pending_after old e bytes

  abbrev asks : Option Sent
  asks = request_of old.name old.dims runs2 pending2 (action_of t)

  walk : Walks old.bot old.bot.phase e t
  walk = step_walks old.bot e m t nb is

  live : (size : ℕ) → e ≡ event.Output size → is_live old.bot.phase ≡ true
  live size h = output_live old.bot size m t (subst (λ (x : BotEvent). stepped old.bot x m ≡ Some t) h is)

  fresh : is_run e ≡ true → (run : ChildRun) × (o ≡ Some run) × (run.wrote ≡ [])
  fresh a = let f = is_told a in (f.run, f.is, f.empty)

  wrote2 : wrote_of runs2 ≡ wrote_after e bytes (wrote_of old.runs)
  wrote2 = wrote_after_is o e bytes old.runs fresh (λ size h k. has_run (log_of old) old.bot old.runs s.newest (live size h) k)

  bot2 : IsBot t pending2 (wrote_of runs2)
  bot2 = record {
    limits = s.bot.limits;
    events = s.bot.events ++ (record { event = e; moment = m; bytes = bytes }) ∷ [];
    steps = steps_then s.bot.events (output_start s.bot.limits) (record { bot = old.bot; waiting = old.pending; wrote = wrote_of old.runs }) (record { bot = t; waiting = pending2; wrote = wrote_of runs2 }) (record { event = e; moment = m; bytes = bytes })
        s.bot.steps (record { has_bytes = has; stepped = is; waiting = refl; wrote = wrote2 });
  }

  newest2 : HasNewest (log_of old) t runs2
  newest2 = newest_after (log_of old) old.bot t e o bytes is_told old.runs reported s.newest walk

  -- more was sent, at the end
  more_sent : (q : Option Sent) (a : Option ℕ) (x : Sent) → Among x old.sent → Among x (sent_after q a old.sent)
  more_sent None a x h = h
  more_sent (Some q) None x h = among_left x old.sent (q ∷ []) h
  more_sent (Some q) (Some i) x h = h

  same_place : (q : Option Sent) (a : Option ℕ) (i : ℕ) → i < length old.sent → slice_get (sent_after q a old.sent) i ≡ slice_get old.sent i
  same_place None a i h = refl
  same_place (Some q) None i h = slice_left old.sent (q ∷ []) i h
  same_place (Some q) (Some j) i h = refl

  grown : (q : Option Sent) (a : Option ℕ) (i : ℕ) → i < length old.sent → i < length (sent_after q a old.sent)
  grown None a i h = h
  grown (Some q) None i h = let n = length-append old.sent (q ∷ []) in omega (arith, n, h)
  grown (Some q) (Some j) i h = h

  carried : (x : Sent) → Among x old.sent → (k n : ℕ) (chunk : Option Chunk) (last : Option Last) → IsReport old k n chunk last x → CarriesSome (log_of old) (is_over t.phase) runs2 k n chunk last
  carried x a k n chunk last u = carried_after (log_of old) old.bot t e o bytes is_told old.runs k n chunk last live walk (s.sent x a k n chunk last u)

  by_sent : (q : Option Sent) → asks ≡ q → (a : Option ℕ) (x : Sent) → Among x (sent_after q a old.sent) → (k n : ℕ) (chunk : Option Chunk) (last : Option Last) → IsReport old k n chunk last x →
      CarriesSome (log_of old) (is_over t.phase) runs2 k n chunk last
  by_sent None h a x m k n chunk last u = carried x m k n chunk last u
  by_sent (Some q) h (Some i) x m k n chunk last u = carried x m k n chunk last u
  by_sent (Some q) h None x m k n chunk last u = by_either (among_either x old.sent (q ∷ []) m)
    where
      by_either : Among x old.sent ⊎ Among x (q ∷ []) → CarriesSome (log_of old) (is_over t.phase) runs2 k n chunk last
      by_either (inl b) = carried x b k n chunk last u
      by_either (inr b) = report_carries (log_of old) old.dims t pending2 runs2 x k n chunk last bot2 newest2 (h ∙ ap (λ (y : Sent). Some y) (sym (among_one x q b))) u

  pub fed_keeps : Stands (fed_world old e bytes o again t)
  fed_keeps = record {
    base = s.base;
    legal = s.legal;
    stranger = s.stranger;
    bot = bot2;
    limit = let l : t.limits.steps ≡ old.bot.limits.steps = same_limit old.bot old.bot.phase e (t.first, t.session, t.limits.steps) t.claim t.run.sent t.phase walk in let n = s.limit in omega (arith, l, n);
    bounds = bounds_at old.bot t e m s.bounds is;
    numbered = numbered_after (log_of old) old.bot t e o bytes is_told old.runs s.numbered walk;
    newest = newest2;
    runs = runs_are_after (log_of old) old.bot t e o bytes is_told old.runs (λ h. started_early old.bot old.bot.phase e (t.first, t.session, t.limits.steps) t.claim t.run.sent t.phase walk h) live s.newest s.runs;
    asking = asks_after t old.name old.dims runs2 pending2 old.sent again at;
    sent = λ x a k n chunk last u. by_sent asks refl again x a k n chunk last u;
    got = λ g a k h. s.got g a k (sym (same_place asks again g.sent (s.bounded g a)) ∙ h);
    bounded = λ g a. grown asks again g.sent (s.bounded g a);
    log = λ k n chunk last r. let z = s.log k n chunk last r in (z.0, more_sent asks again z.0 z.1, z.2);
  }

-- ---- the request is sent again

-- the present request stays in its place where its phase's action is the same
again_at : (old : WorldState) (t : BotState) (e : BotEvent) (o : Option ChildRun) (place : ℕ) → IsAsking old place → IsAgain (phase_action old.bot old.bot.phase) t → runs_after o e [] old.runs ≡ old.runs → waiting_after e [] old.pending ≡ old.pending →
    IsAt t old.name old.dims (runs_after o e [] old.runs) (pending_after old e []) old.sent place
again_at old t e o place a (inr h) r w = inr h
again_at old t e o place a (inl h) r w =
    let cut : waiting_at (action_of old.bot) old.pending ≡ old.pending = uncut old.bot old.name old.dims old.runs old.pending a.0 old.bot.awaited old.bot.phase a.2 in
    let wait : pending_after old e [] ≡ old.pending = ap (λ (x : List ℕ). waiting_after e [] x) cut ∙ w in
    inl (
      a.0,
      a.1,
      subst (λ (x : List ℕ). request_of old.name old.dims (runs_after o e [] old.runs) x (phase_action t t.phase) ≡ Some a.0) (sym wait)
          (subst (λ (x : List ChildRun). request_of old.name old.dims x old.pending (phase_action t t.phase) ≡ Some a.0) (sym r) (ap (request_of old.name old.dims old.runs old.pending) h ∙ a.2)),
    )

sends_at : (old : WorldState) (place : ℕ) → IsAsking old place → sends_request old.bot.phase ≡ true
sends_at old place a = request_sends old.bot old.name old.dims old.runs old.pending a.0 old.bot.phase a.2

pub again_kept : (old : WorldState) (t : BotState) (e : BotEvent) (o : Option ChildRun) (asking : Option ℕ) → IfSome asking (IsAsking old) → ((place : ℕ) → IsAsking old place → IsAgain (phase_action old.bot old.bot.phase) t) → runs_after o e [] old.runs ≡ old.runs → waiting_after e [] old.pending ≡ old.pending →
    IfSome asking (IsAt t old.name old.dims (runs_after o e [] old.runs) (pending_after old e []) old.sent)
again_kept old t e o None a h r w = tt
again_kept old t e o (Some place) a h r w = again_at old t e o place a (h place a) r w

-- an answer that passes
pub transient_kept : (old : WorldState) (t : BotState) (e : BotEvent) (m : ℕ) (o : Option ChildRun) (b : Bool) → is_transient e ≡ b → stepped old.bot e m ≡ Some t → IfSome old.asking (IsAsking old) →
    IfSome (if b then old.asking else None) (IsAt t old.name old.dims (runs_after o e [] old.runs) (pending_after old e []) old.sent)
transient_kept old t e m o false k is a = tt
transient_kept old t e m o true k is a = again_kept old t e o old.asking a (λ place h. transient_again old.bot e m t k (sends_at old place h) is) (same_runs e k) (same_waiting e k)
  where
    same_runs : (y : BotEvent) → is_transient y ≡ true → runs_after o y [] old.runs ≡ old.runs
    same_runs event.Lost h = refl
    same_runs (event.Refused number) h = refl
    same_runs y h = absurd (cc)

    same_waiting : (y : BotEvent) → is_transient y ≡ true → waiting_after y [] old.pending ≡ old.pending
    same_waiting event.Lost h = refl
    same_waiting (event.Refused number) h = refl
    same_waiting y h = absurd (cc)

-- ---- a claim that is answered

pub walk_claims : (s : BotState) (p : Phase) (e : BotEvent) (x : ℕ × ℕ × ℕ) (c n : ℕ) (q : Phase) → Walk s p e x c n q → is_run e ≡ true → claims p ≡ true
walk_claims s p e x c n q (plain a b v k l o i j m) h = absurd (cc)
walk_claims s p e x c n q (next_id a b k l o i m) h = absurd (cc)
walk_claims s p e x c n q (next_name a b k l o i j m) h = absurd (cc)
walk_claims s p e x c n q (told a b k l v i j m) h = k
walk_claims s p e x c n q (begun a b k l o r i j m) h = absurd (cc)
walk_claims s p e x c n q (sent a b d k l o i j m) h = absurd (cc)

pub claim_phase : (s : BotState) (p : Phase) → claims p ≡ true → phase_action s p ≡ action.Claim s.first s.session s.claim
claim_phase s phase.Claim h = refl
claim_phase s p h = absurd (cc)

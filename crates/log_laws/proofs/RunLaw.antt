-- The log tells each run of a bot that the base has not.
use Rattle.std.proofs.Common.{◌≡◌, ◌≢◌, ◌⊎◌, inl, inr, ℕ, ◌+◌, ◌<◌, ◌≤◌, ◌==◌, ◌&&◌, not, List, [], ◌∷◌, ◌++◌, length, map, Bool, true, false, Option, Some, None, option_map, IfSome, IsSomeAnd, is_some, is_none, refl, ap, sym, ◌∙◌, subst, eqb-true, arith, append_assoc}
use Rattle.std.specs.Prelude.{if◌then◌else◌}
use Rattle.std.specs.Bool.{MatchBool}
use Rattle.std.specs.List.{Contains}
use Rattle.std.specs.Option.{option_map_or, option_and_then}
use Rattle.std.proofs.lemmas.Bool.{and_parts, cond_both, eq-eqb, ne_eqb, eqb-false}
use Rattle.std.proofs.lemmas.List.{append-nil}
use Rattle.std.proofs.lemmas.List.Elements.{All-contains, Contains-push_cases}
use Rattle.std.proofs.lemmas.Option.{same_Some}
use Rattle.dimensions.specs.Choosing.{when, ◌or_else◌}
use Rattle.log_laws.specs.Types.{Attempt, Chunk, Last, Retried, TaskRow, BotRow, PoolState, Entry, EntryKind}
use Rattle.swarm_model.specs.declared.entry.Outcome.{Outcome}
use Rattle.swarm_model.specs.declared.entry.Outcome.TheVariants as outcome
use Rattle.swarm_model.specs.declared.entry.EntryKind.TheVariants as kind
use Rattle.swarm_model.specs.Answers.{chunk_rule}
use Rattle.swarm_model.specs.BaseRules.{IsKeptAttempt, IsKeptTask, AreBaseRows}
use Rattle.swarm_model.specs.Effects.{no_of_task, no_of_bot, after, task_after, added_tasks, fresh_chunk, attempt_of, with_chunk, with_last_report, started_run, expired_slice, retried_from, next_try, is_first_run, is_idempotent, lost_run, lost_run_at, canceled, kill_marked, run_of_bot, if_some}
use Rattle.swarm_model.specs.Entries.{asks, is_deadline, update_of}
use Rattle.swarm_model.specs.Finding.{bot_of}
use Rattle.swarm_model.specs.History.{replay, IsCaused, MayFollow, IsDue, IsAnswered}
use Rattle.swarm_model.specs.Numbers.{AreNumbered}
use Rattle.swarm_model.specs.Output.{AreInRow}
use Rattle.swarm_model.specs.Soundness.{IsSound, IsSoundOutput, IsSoundRetried, IsRightTry, fits_state}
use Rattle.pool_laws.proofs.EntryPreconditions.{finds}
use Rattle.pool_laws.proofs.Lists.{Among, here, later, each, all, each_append, each_map, number_within}
use Rattle.pool_laws.proofs.Numbers.{task_no}
use Rattle.pool_laws.proofs.Outputs.{fresh_next}
use Rattle.pool_laws.proofs.Preconditions.{Finds, FindsClaim, FindsUpdate, waits, runs}
use Rattle.pool_laws.proofs.Rows.{task_is, one_task, find_task, find_bot, row_is, claim_waits, claim_gets, claim_not_kept, lost_is, update_task, reported_task, no_fewer}
use Rattle.pool_laws.proofs.Sound.{sound_after, sound_replay}
use Rattle.log_laws.specs.Runs.{HasEntry, IsRunOf, TellsRun, AttemptsAreTold}
use Rattle.log_laws.proofs.Entries.{has_cases}
use Rattle.log_laws.proofs.GoingRuns.{going_row}
use Rattle.log_laws.proofs.Own.{IsOwnReport, own_entry}
use Rattle.log_laws.proofs.Telling.{old_chunk}
use Rattle.log_laws.proofs.ToldRuns.{about, TellsSome, TellsOf, of_kept, of_killed, updated, begun}

-- ---- the runs of a bot

-- the run where it is the bot's
abbrev own_run : ℕ → Option Attempt → Option Attempt
own_run b o = option_and_then (λ (a : Attempt). when (a.bot == b) a) o

abbrev lost_in : Option Retried → Option Attempt
lost_in r = option_map (λ (lost : Retried). lost.attempt) r

-- the run of a bot at a task
abbrev run_by : ℕ → TaskRow → Option Attempt
run_by b x = own_run b x.attempt or_else own_run b (lost_in x.retried)

own_is : (b : ℕ) (a : Attempt) → a.bot ≡ b → own_run b (Some a) ≡ Some a
own_is b a e = ap (λ (c : Bool). when c a) (eq-eqb a.bot b e)

own_none : (b : ℕ) (a : Attempt) → a.bot ≢ b → own_run b (Some a) ≡ None
own_none b a e = ap (λ (c : Bool). when c a) (ne_eqb a.bot b e)

or_none : {A : Type 0} (o : Option A) → (o or_else None) ≡ o
or_none None = refl
or_none (Some x) = refl

-- of two runs of a task, each is its bot's
run_is : (att : Option Attempt) (ret : Option Retried) (run : Attempt) → IfSome att (IsRightTry ret) → (att ≡ Some run) ⊎ (lost_in ret ≡ Some run) → (own_run run.bot att or_else own_run run.bot (lost_in ret)) ≡ Some run
run_is att ret run tries (inl e) =
    ap (λ (o : Option Attempt). own_run run.bot o or_else own_run run.bot (lost_in ret)) e ∙ ap (λ (o : Option Attempt). o or_else own_run run.bot (lost_in ret)) (own_is run.bot run refl)
run_is None ret run tries (inr e) = ap (λ (o : Option Attempt). own_run run.bot o) e ∙ own_is run.bot run refl
run_is (Some y) None run tries (inr e) = absurd (cc (e))
run_is (Some y) (Some lost) run tries (inr e) =
    let same : lost.attempt ≡ run = same_Some _ _ e in
    let apart : y.bot ≢ run.bot = λ s. tries.1 (s ∙ ap (λ (a : Attempt). a.bot) (sym same)) in
    ap (λ (o : Option Attempt). o or_else own_run run.bot (Some lost.attempt)) (own_none run.bot y apart) ∙ ap (λ (a : Attempt). own_run run.bot (Some a)) same ∙ own_is run.bot run refl

-- the lost run of a task that is tried again was its only one
again_is : (b m slice : ℕ) (att : Option Attempt) (ret : Option Retried) → is_first_run att ≡ true → IfSome att (IsRightTry ret) → own_run b (lost_in (option_map (retried_from m slice) att)) ≡ (own_run b att or_else own_run b (lost_in ret))
again_is b m slice None ret first tries = absurd (cc (first))
again_is b m slice (Some y) None first tries = sym (or_none (own_run b (Some y)))
again_is b m slice (Some y) (Some lost) first tries =
    absurd (let one = eqb-true y.try_no 1 (and_parts (y.try_no == 1) (not y.kill) first).0 in let two = tries.0 in omega (arith, one, two))

-- what a report makes of its run
abbrev reported_attempt : Option Chunk → Option Chunk → Option Last → Attempt → Attempt
reported_attempt fresh chunk last a = if_some (with_last_report chunk) last (if_some with_chunk fresh a)

reported_bot : (fresh chunk : Option Chunk) (last : Option Last) (a : Attempt) → (reported_attempt fresh chunk last a).bot ≡ a.bot
reported_bot None chunk None a = refl
reported_bot None chunk (Some l) a = refl
reported_bot (Some c) chunk None a = refl
reported_bot (Some c) chunk (Some l) a = refl

-- and so of the bot's run at the task
reported_is : (b m : ℕ) (fresh chunk : Option Chunk) (last : Option Last) (x : TaskRow) (a : Attempt) → x.attempt ≡ Some a →
    run_by b (reported_task m fresh chunk last x) ≡ (own_run b (Some (reported_attempt fresh chunk last a)) or_else own_run b (lost_in x.retried))
reported_is b m None chunk None x a has = ap (λ (o : Option Attempt). own_run b o or_else own_run b (lost_in x.retried)) has
reported_is b m None chunk (Some l) x a has = ap (λ (o : Option Attempt). own_run b (option_map (with_last_report chunk l) o) or_else own_run b (lost_in x.retried)) has
reported_is b m (Some c) chunk None x a has = ap (λ (o : Option Attempt). own_run b (option_map (with_chunk c) o) or_else own_run b (lost_in x.retried)) has
reported_is b m (Some c) chunk (Some l) x a has = ap (λ (o : Option Attempt). own_run b (option_map (with_last_report chunk l) (option_map (with_chunk c) o)) or_else own_run b (lost_in x.retried)) has

-- ---- chunks

row_end : (from to : ℕ) (chunks : List Chunk) → AreInRow from chunks to → from ≤ to
row_end from to [] h = omega (arith, h)
row_end from to (c ∷ chunks) h = let k = row_end (from + c.size) to chunks h.1 in omega (arith, k)

chunk_within : (from to : ℕ) (chunks : List Chunk) (c : Chunk) → AreInRow from chunks to → Among c chunks → c.start + c.size ≤ to
chunk_within from to [] c h a = elim a [ ]
chunk_within from to (c ∷ chunks) d h here = let k = row_end (from + d.size) to chunks h.1 in let e = h.0 in omega (arith, k, e)
chunk_within from to (x ∷ chunks) c h (later a) = chunk_within (from + x.size) to chunks c h.1 a

chunk_inside : (from to : ℕ) (chunks : List Chunk) (c : Chunk) → AreInRow from chunks to → Contains chunks c → c.start + c.size ≤ to
chunk_inside from to chunks c h m = All-contains (λ (d : Chunk). d.start + d.size ≤ to) chunks c (all (λ (d : Chunk). d.start + d.size ≤ to) chunks (λ d a. chunk_within from to chunks d h a)) m

-- ---- one entry more

-- a report that may follow is of the try of the run that it finds
update_try : (s : PoolState) (e : Entry) (b t n : ℕ) (chunk : Option Chunk) (last : Option Last) → MayFollow s e → e.kind ≡ kind.Update b t n chunk last → (f : FindsUpdate s b t chunk last) → f.attempt.try_no ≡ n
update_try s e b t n chunk last follows is f =
    by_bot (bot_of s b) (subst (λ (k : EntryKind). MatchBool (is_deadline k) (IsDue s e) (IsSomeAnd (asks s k) (IsAnswered s e))) is follows.has_cause)
  where
    by_report : (bot : BotRow) → IsOwnReport s (update_of t n chunk last bot).request b t n chunk last → f.attempt.try_no ≡ n
    by_report bot g =
        (let whole = going_row s t g.asked_try g.row g.shown g.goes_on in
        let same : f.task ≡ g.row = same_Some _ _ (sym f.there ∙ whole.there) in
        let run : f.attempt ≡ g.attempt = same_Some _ _ (sym f.attempted ∙ ap (λ (x : TaskRow). x.attempt) same ∙ g.attempted) in
        ap (λ (a : Attempt). a.try_no) run ∙ g.is_try)

    by_bot : (r : Option BotRow) → IsSomeAnd (option_map (update_of t n chunk last) r) (IsAnswered s e) → f.attempt.try_no ≡ n
    by_bot None h = absurd h
    by_bot (Some bot) h =
        by_report bot (own_entry s (update_of t n chunk last bot).who e.moment e.pass (update_of t n chunk last bot).request e (kind.Update b t n chunk last) h.gives is)

abbrev bot_in : Option (ℕ × ℕ) → ℕ
bot_in p = option_map_or (λ (q : ℕ × ℕ). q.0) p 0

abbrev task_in : Option (ℕ × ℕ) → ℕ
task_in p = option_map_or (λ (q : ℕ × ℕ). q.1) p 0

module _ (b : ℕ) (s : PoolState) (o : IsSound s) (log : List Entry) (e : Entry) (follows : MayFollow s e) (x : TaskRow) (a : Among x s.tasks) (h : TellsOf log b x.no (run_by b x)) where
  abbrev P : TaskRow → Type 0
  P y = TellsOf (log ++ e ∷ []) b x.no (run_by b y)

  kept : (about e.kind ≡ Some (b, x.no) → ⊥) → P x
  kept other = of_kept log e b x.no (run_by b x) other h

  -- an entry of no run
  unmoved : about e.kind ≡ None → P x
  unmoved none = kept (λ k. absurd (cc (none, k)))

  -- of another task
  elsewhere : (b2 t : ℕ) → about e.kind ≡ Some (b2, t) → (x.no == t) ≡ false → P x
  elsewhere b2 t is n = kept (λ k. eqb-false x.no t n (sym (ap task_in (sym is ∙ k))))

  -- of another bot
  by_other : (b2 t : ℕ) → about e.kind ≡ Some (b2, t) → b2 ≢ b → P x
  by_other b2 t is apart = kept (λ k. apart (ap bot_in (sym is ∙ k)))

  -- a run that is lost is told as before, whether it is tried again or not
  lost_told : (m : ℕ) → about e.kind ≡ None → P (lost_run s.settings.retries m x)
  lost_told m none =
      lost_is P s.settings.retries m x (λ again.
      let first = (and_parts (is_first_run x.attempt) (is_idempotent x) (and_parts (s.settings.retries == 1) _ again).1).0 in
      subst (TellsOf (log ++ e ∷ []) b x.no) (sym (again_is b m x.slice x.attempt x.retried first (task_is s o x a).tries)) (unmoved none)) (λ died. unmoved none)

  -- the task waits, so it has no run
  no_attempt : waits x ≡ true → x.attempt ≡ None
  no_attempt w = by_attempt x.attempt refl (task_is s o x a).state
    where
      by_attempt : (r : Option Attempt) → x.attempt ≡ r → fits_state x ≡ true → r ≡ None
      by_attempt None i g = refl
      by_attempt (Some y) i g =
          absurd (let z : (is_none x.attempt && is_none x.ended) ≡ true = subst (λ (c : Bool). (if c then is_none x.attempt && is_none x.ended else if runs x then is_some x.attempt && (is_none (option_and_then (λ (a : Attempt). a.last) x.attempt) && is_none x.ended) else is_some x.ended) ≡ true) w g in
          let k = (and_parts (is_none x.attempt) (is_none x.ended) z).0 in cc (k, i))

  -- a claim of the task
  claim_told : (m b2 t : ℕ) (id : List ℕ) → e.kind ≡ kind.Claim b2 t id → FindsClaim s b2 t id → (x.no == t) ≡ true → P (started_run m b2 id x)
  claim_told m b2 t id is f at = by_bot (b2 == b) refl
    where
      number : x.no ≡ t
      number = eqb-true x.no t at

      none : x.attempt ≡ None
      none = no_attempt (row_is s o t waits (claim_waits s b2 t id f) x a at)

      new : Attempt
      new = record { try_no = next_try x; bot = b2; claim = id; begun = m; kill = false; chunks = []; length = 0; last = None; last_chunk = None }

      own : f.task ≡ x
      own = one_task s o f.task x (claim_gets s b2 t id f).among a (f.task_named ∙ sym number)

      by_lost : (r : Option Retried) → option_map_or (λ (other : ℕ). other == b2) (option_map (λ (lost : Retried). lost.attempt.bot) r) false ≡ false → own_run b2 (lost_in r) ≡ None
      by_lost None k = refl
      by_lost (Some lost) k = ap (λ (c : Bool). when c lost.attempt) k

      before : b2 ≡ b → run_by b x ≡ None
      before same = ap (λ (o : Option Attempt). own_run b o or_else own_run b (lost_in x.retried)) none ∙ subst (λ (n : ℕ). own_run n (lost_in x.retried) ≡ None) same (by_lost x.retried (claim_not_kept s b2 t id f x own))

      now : e.kind ≡ kind.Claim b2 x.no id
      now = is ∙ ap (λ (n : ℕ). kind.Claim b2 n id) (sym number)

      by_bot : (c : Bool) → (b2 == b) ≡ c → P (started_run m b2 id x)
      by_bot true k =
          (let same : b2 ≡ b = eqb-true b2 b k in
          subst (TellsOf (log ++ e ∷ []) b x.no) (sym (ap (λ (o : Option Attempt). o or_else own_run b (lost_in x.retried)) (own_is b new same)))
          (begun log e b x.no new (now ∙ ap (λ (n : ℕ). kind.Claim n x.no id) same) refl refl (subst (TellsOf log b x.no) (before same) h)))
      by_bot false k =
          (let apart : b2 ≢ b = eqb-false b2 b k in
          subst (TellsOf (log ++ e ∷ []) b x.no) (ap (λ (o : Option Attempt). own_run b o or_else own_run b (lost_in x.retried)) none ∙ sym (ap (λ (o : Option Attempt). o or_else own_run b (lost_in x.retried)) (own_none b new apart)))
          (by_other b2 t (ap about is) apart))

  -- a report of its run
  report_told : (m b2 t n : ℕ) (chunk : Option Chunk) (last : Option Last) → e.kind ≡ kind.Update b2 t n chunk last → FindsUpdate s b2 t chunk last → (x.no == t) ≡ true → P (reported_task m (fresh_chunk (attempt_of s t) chunk) chunk last x)
  report_told m b2 t n chunk last is f at =
      subst (λ (r : Option Attempt). P (reported_task m (fresh_chunk r chunk) chunk last x)) (sym there) (by_bot (b2 == b) refl)
    where
      number : x.no ≡ t
      number = eqb-true x.no t at

      its : f.task ≡ x
      its = one_task s o f.task x f.among a (f.named ∙ sym number)

      has : x.attempt ≡ Some f.attempt
      has = ap (λ (y : TaskRow). y.attempt) (sym its) ∙ f.attempted

      there : attempt_of s t ≡ Some f.attempt
      there = ap (option_and_then (λ (y : TaskRow). y.attempt)) (find_task s o x t a number) ∙ has

      sound : IsSoundOutput f.attempt
      sound = subst (λ (r : Option Attempt). IfSome r IsSoundOutput) has (task_is s o x a).output

      tried : n ≡ f.attempt.try_no
      tried = sym (update_try s e b2 t n chunk last follows is f)

      -- a chunk that doesn't go on from the output was kept
      stale : (c : Chunk) → fresh_chunk (Some f.attempt) chunk ≡ None → chunk ≡ Some c → c.start + c.size ≤ f.attempt.length
      stale c none k =
          chunk_inside 0 f.attempt.length f.attempt.chunks c sound.in_row (old_chunk f.attempt c
          (subst (λ (r : Option Chunk). option_and_then (chunk_rule f.attempt) r ≡ None) k f.in_turn) (ap is_some (subst (λ (r : Option Chunk). fresh_chunk (Some f.attempt) r ≡ None) k none)))

      fresh_is : (c : Chunk) → fresh_chunk (Some f.attempt) chunk ≡ Some c → (chunk ≡ Some c) × (c.start ≡ f.attempt.length)
      fresh_is c k = fresh_next f.attempt chunk c k

      pushed : (c : Chunk) → fresh_chunk (Some f.attempt) chunk ≡ Some c → (z : Chunk) → Contains f.attempt.chunks z ⊎ (c ≡ z) → Contains f.attempt.chunks z ⊎ (chunk ≡ Some z)
      pushed c k z (inl y) = inl y
      pushed c k z (inr y) = inr ((fresh_is c k).0 ∙ ap (λ (w : Chunk). Some w) y)

      reaches : (c : Chunk) → fresh_chunk (Some f.attempt) chunk ≡ Some c → (z : Chunk) → chunk ≡ Some z → z.start + z.size ≤ f.attempt.length + c.size
      reaches c k z y =
          (let g = fresh_is c k in
          let same : c ≡ z = same_Some _ _ (sym g.0 ∙ y) in
          subst (λ (w : Chunk). w.start + w.size ≤ f.attempt.length + c.size) same (let v = g.1 in omega (arith, v)))

      -- the run of the bot that reports
      own_told : e.kind ≡ kind.Update b x.no n chunk last → TellsSome log b x.no f.attempt → (r : Option Chunk) → fresh_chunk (Some f.attempt) chunk ≡ r → (l : Option Last) → last ≡ l → TellsSome (log ++ e ∷ []) b x.no (reported_attempt r chunk l f.attempt)
      own_told kind_is told None k None j =
          updated log e b x.no n chunk last f.attempt f.attempt.chunks f.attempt.length f.attempt.last f.attempt.last_chunk kind_is tried (λ c y. inl y) (inl (refl, refl)) (omega arith) (λ c y. stale c k y) told
      own_told kind_is told None k (Some l) j =
          updated log e b x.no n chunk last f.attempt f.attempt.chunks f.attempt.length (Some l) chunk kind_is tried (λ c y. inl y) (inr (sym j, refl)) (omega arith) (λ c y. stale c k y) told
      own_told kind_is told (Some c) k None j =
          updated log e b x.no n chunk last f.attempt (f.attempt.chunks ++ c ∷ []) (f.attempt.length + c.size) f.attempt.last f.attempt.last_chunk kind_is tried
          (λ z y. pushed c k z (Contains-push_cases f.attempt.chunks c z y)) (inl (refl, refl)) (omega arith) (λ z y. reaches c k z y) told
      own_told kind_is told (Some c) k (Some l) j =
          updated log e b x.no n chunk last f.attempt (f.attempt.chunks ++ c ∷ []) (f.attempt.length + c.size) (Some l) chunk kind_is tried
          (λ z y. pushed c k z (Contains-push_cases f.attempt.chunks c z y)) (inr (sym j, refl)) (omega arith) (λ z y. reaches c k z y) told

      fresh : Option Chunk
      fresh = fresh_chunk (Some f.attempt) chunk

      now : Attempt
      now = reported_attempt fresh chunk last f.attempt

      by_bot : (c : Bool) → (b2 == b) ≡ c → P (reported_task m fresh chunk last x)
      by_bot true k =
          (let same : b2 ≡ b = eqb-true b2 b k in
          let was : run_by b x ≡ Some f.attempt = ap (λ (o : Option Attempt). own_run b o or_else own_run b (lost_in x.retried)) has ∙ ap (λ (o : Option Attempt). o or_else own_run b (lost_in x.retried)) (own_is b f.attempt (f.by_bot ∙ same)) in
          let is_now : run_by b (reported_task m fresh chunk last x) ≡ Some now = reported_is b m fresh chunk last x f.attempt has
          ∙ ap (λ (o : Option Attempt). o or_else own_run b (lost_in x.retried)) (own_is b now (reported_bot fresh chunk last f.attempt ∙ f.by_bot ∙ same)) in
          subst (TellsOf (log ++ e ∷ []) b x.no) (sym is_now)
          (own_told (is ∙ ap (λ (z : ℕ). kind.Update b2 z n chunk last) (sym number) ∙ ap (λ (z : ℕ). kind.Update z x.no n chunk last) same) (subst (TellsOf log b x.no) was h) fresh refl last refl))
      by_bot false k =
          (let apart : b2 ≢ b = eqb-false b2 b k in
          let was : run_by b x ≡ own_run b (lost_in x.retried) = ap (λ (o : Option Attempt). own_run b o or_else own_run b (lost_in x.retried)) has
          ∙ ap (λ (o : Option Attempt). o or_else own_run b (lost_in x.retried)) (own_none b f.attempt (λ q. apart (sym f.by_bot ∙ q))) in
          let is_now : run_by b (reported_task m fresh chunk last x) ≡ own_run b (lost_in x.retried) = reported_is b m fresh chunk last x f.attempt has
          ∙ ap (λ (o : Option Attempt). o or_else own_run b (lost_in x.retried)) (own_none b now (λ q. apart (sym f.by_bot ∙ sym (reported_bot fresh chunk last f.attempt) ∙ q))) in
          subst (TellsOf (log ++ e ∷ []) b x.no) (was ∙ sym is_now) (by_other b2 t (ap about is) apart))

  row_told : (m : ℕ) (k : EntryKind) → e.kind ≡ k → Finds s k → P (task_after s m k x)
  row_told m (kind.Slice t to) is f = cond_both (x.no == t) (expired_slice m to x) x P (λ n. by_outcome to) (λ n. unmoved (ap about is))
    where
      by_outcome : (to : Outcome) → P (expired_slice m to x)
      by_outcome (outcome.Slice place) = unmoved (ap about is)
      by_outcome (outcome.Ended state) = unmoved (ap about is)
  row_told m (kind.Silence t) is f = cond_both (x.no == t) (lost_run s.settings.retries m x) x P (λ n. lost_told m (ap about is)) (λ n. unmoved (ap about is))
  row_told m (kind.Cancel t) is f = cond_both (x.no == t) (canceled m x) x P (λ n. unmoved (ap about is)) (λ n. unmoved (ap about is))
  row_told m (kind.Kill t) is f =
      cond_both (x.no == t) (kill_marked x) x P (λ n. of_killed (log ++ e ∷ []) b x.no x.attempt (own_run b (lost_in x.retried)) (unmoved (ap about is))) (λ n. unmoved (ap about is))
  row_told m (kind.Handshake b2 id session dims q) is f = by_run (run_of_bot s b2)
    where
      by_run : (r : Option ℕ) → P (if_some (lost_run_at s.settings.retries m) r x)
      by_run None = unmoved (ap about is)
      by_run (Some t) = cond_both (x.no == t) (lost_run s.settings.retries m x) x P (λ n. lost_told m (ap about is)) (λ n. unmoved (ap about is))
  row_told m (kind.Claim b2 t id) is f =
      cond_both (x.no == t) (started_run m b2 id x) x P (λ n. claim_told m b2 t id is f n) (λ n. elsewhere b2 t (ap about is) n)
  row_told m (kind.Update b2 t n chunk last) is f =
      subst P (sym (update_task s m b2 t n chunk last x))
      (cond_both (x.no == t) (reported_task m (fresh_chunk (attempt_of s t) chunk) chunk last x) x P (λ at. report_told m b2 t n chunk last is f at) (λ at. elsewhere b2 t (ap about is) at))
  row_told m (kind.Dead b2) is f = unmoved (ap about is)
  row_told m (kind.Blob n k) is f = unmoved (ap about is)
  row_told m (kind.New t who request state slice from) is f = unmoved (ap about is)
  row_told m (kind.Poll b2 dims q hint) is f = unmoved (ap about is)
  row_told m (kind.Contact b2) is f = unmoved (ap about is)
  row_told m (kind.Event b2 k text) is f = unmoved (ap about is)
  row_told m (kind.Terminate b2) is f = unmoved (ap about is)
  row_told m (kind.Put digest size) is f = unmoved (ap about is)

-- ---- all entries

-- a claim or an update is of a task that is there
abbrev IsOfTask : ℕ → EntryKind → Type 0
IsOfTask tasks k = IfSome (about k) (λ (p : ℕ × ℕ). p.1 ≤ tasks)

about_task : (s : PoolState) → IsSound s → (k : EntryKind) → Finds s k → IsOfTask (length s.tasks) k
about_task s o (kind.Claim b t id) f =
    let w = claim_waits s b t id f in
    subst (λ (n : ℕ). n ≤ length s.tasks) w.named (let z = (number_within no_of_task 1 s.tasks o.tasks_numbered w.task w.among).1 in omega (arith, z))
about_task s o (kind.Update b t n chunk last) f =
    subst (λ (n : ℕ). n ≤ length s.tasks) f.named (let z = (number_within no_of_task 1 s.tasks o.tasks_numbered f.task f.among).1 in omega (arith, z))
about_task s o k f = tt

more_tasks : (p : Option (ℕ × ℕ)) (n m : ℕ) → n ≤ m → IfSome p (λ (q : ℕ × ℕ). q.1 ≤ n) → IfSome p (λ (q : ℕ × ℕ). q.1 ≤ m)
more_tasks None n m l h = tt
more_tasks (Some p) n m l h = omega (arith, l, h)

module _ (b : ℕ) where
  -- the log tells the bot's runs, and speaks of no task that is not there
  record Tells (s : PoolState) (log : List Entry) : Type 0 where
    rows : (x : TaskRow) → Among x s.tasks → TellsOf log b x.no (run_by b x)
    low : (k : EntryKind) → HasEntry log k → IsOfTask (length s.tasks) k

  -- a task that is added was not spoken of
  added_told : (s : PoolState) (log : List Entry) (e : Entry) → Tells s log → (m : ℕ) (k : EntryKind) → e.kind ≡ k → Finds s k → (x : TaskRow) → Among x (added_tasks m k) → TellsOf (log ++ e ∷ []) b x.no (run_by b x)
  added_told s log e h m (kind.New t who request state slice from) is f x here = record {
    no_claim = λ id k. by_claim id (has_cases log e (kind.Claim b t id) k);
    no_update = λ n chunk last k. by_update n chunk last (has_cases log e (kind.Update b t n chunk last) k);
  }
    where
      next : t ≡ length s.tasks + 1
      next = f.next

      by_claim : (id : List ℕ) → HasEntry log (kind.Claim b t id) ⊎ (e.kind ≡ kind.Claim b t id) → ⊥
      by_claim id (inl k) = (let low : t ≤ length s.tasks = h.low (kind.Claim b t id) k in absurd (omega (arith, low, next)))
      by_claim id (inr k) = absurd (cc (is, k))

      by_update : (n : ℕ) (chunk : Option Chunk) (last : Option Last) → HasEntry log (kind.Update b t n chunk last) ⊎ (e.kind ≡ kind.Update b t n chunk last) → ⊥
      by_update n chunk last (inl k) = (let low : t ≤ length s.tasks = h.low (kind.Update b t n chunk last) k in absurd (omega (arith, low, next)))
      by_update n chunk last (inr k) = absurd (cc (is, k))
  added_told s log e h m (kind.New t who request state slice from) is f x (later a) = elim a [ ]
  added_told s log e h m k is f x a = elim a [ ]

  told_after : (s : PoolState) (log : List Entry) (e : Entry) → IsSound s → MayFollow s e → Tells s log → Tells (after s e) (log ++ e ∷ [])
  told_after s log e o follows h = record {
    rows = each_append (λ (y : TaskRow). TellsOf (log ++ e ∷ []) b y.no (run_by b y)) (map (task_after s e.moment e.kind) s.tasks) (added_tasks e.moment e.kind)
        (each_map (λ (y : TaskRow). TellsOf (log ++ e ∷ []) b y.no (run_by b y)) (task_after s e.moment e.kind) s.tasks
        (λ x a. subst (λ (n : ℕ). TellsOf (log ++ e ∷ []) b n (run_by b (task_after s e.moment e.kind x))) (sym (task_no s e.moment e.kind o f x a)) (row_told b s o log e follows x a (h.rows x a) e.moment e.kind refl f)))
        (added_told s log e h e.moment e.kind refl f);
    low = λ k y. by_entry k (has_cases log e k y);
  }
    where
      f : Finds s e.kind
      f = finds s e follows

      more : length s.tasks ≤ length (after s e).tasks
      more = no_fewer (task_after s e.moment e.kind) s.tasks (added_tasks e.moment e.kind)

      by_entry : (k : EntryKind) → HasEntry log k ⊎ (e.kind ≡ k) → IsOfTask (length (after s e).tasks) k
      by_entry k (inl y) = more_tasks (about k) (length s.tasks) (length (after s e).tasks) more (h.low k y)
      by_entry k (inr y) = more_tasks (about k) (length s.tasks) (length (after s e).tasks) more (subst (IsOfTask (length s.tasks)) y (about_task s o e.kind f))

  told_through : (s : PoolState) (log rest : List Entry) → IsSound s → IsCaused s rest → Tells s log → Tells (replay s rest) (log ++ rest)
  told_through s log [] o c h = subst (λ (l : List Entry). Tells s l) (sym (append-nil log)) h
  told_through s log (e ∷ rest) o c h =
      subst (λ (l : List Entry). Tells (replay (after s e) rest) l) (append_assoc log (e ∷ []) rest) (told_through (after s e) (log ++ e ∷ []) rest (sound_after s e o c.0) c.1 (told_after s log e o c.0 h))

-- ---- the base

-- a number of the rows is that of one
record IsNumbered {X : Type 0} (number_of : X → ℕ) (xs : List X) (k : ℕ) : Type 0 where
  row : X
  among : Among row xs
  named : number_of row ≡ k

number_there : {X : Type 0} (number_of : X → ℕ) (n : ℕ) (xs : List X) → AreNumbered number_of n xs → (k : ℕ) → n ≤ k → k < n + length xs → IsNumbered number_of xs k
number_there number_of n [] c k low high = absurd (omega (arith, low, high))
number_there number_of n (x ∷ xs) c k low high = by_test (k == n) refl (λ apart. number_there number_of (n + 1) xs c.1 k (omega (arith, low, apart)) (omega (arith, high)))
  where
    by_test : (t : Bool) → (k == n) ≡ t → (k ≢ n → IsNumbered number_of xs k) → IsNumbered number_of (x ∷ xs) k
    by_test true t rest = record { row = x; among = here; named = c.0 ∙ sym (eqb-true k n t) }
    by_test false t rest = (let r = rest (eqb-false k n t) in record { row = r.row; among = later r.among; named = r.named })

-- no run of the base is of a bot that it has not
base_run : (base : PoolState) (b : ℕ) → IsSound base → bot_of base b ≡ None → (att : Option Attempt) → IfSome att (IsKeptAttempt base.last (length base.bots)) → own_run b att ≡ None
base_run base b o none None h = refl
base_run base b o none (Some run) h =
    own_none b run (λ same.
    let low = h.bot_from in
    let high = h.bot_to in
    let r = number_there no_of_bot 1 base.bots o.bots_numbered run.bot (omega (arith, low)) (omega (arith, high)) in
    let there = find_bot base o r.row b r.among (r.named ∙ same) in
    absurd (cc (none, there)))

kept_lost : (now bots : ℕ) (ret : Option Retried) → IfSome ret (λ lost. IsKeptAttempt now bots lost.attempt) → IfSome (lost_in ret) (IsKeptAttempt now bots)
kept_lost now bots None h = tt
kept_lost now bots (Some lost) h = h

base_told : (base : PoolState) (b : ℕ) → IsSound base → AreBaseRows base → bot_of base b ≡ None → Tells b base []
base_told base b o rows none = record {
  rows = λ x a. subst (TellsOf [] b x.no) (sym (no_run x (each (IsKeptTask base.settings base.last (length base.bots)) base.tasks rows.tasks x a)))
      (record { no_claim = λ id k. absurd (nothing (kind.Claim b x.no id) k); no_update = λ n chunk last k. absurd (nothing (kind.Update b x.no n chunk last) k) });
  low = λ k y. absurd (nothing k y);
}
  where
    nothing : (k : EntryKind) → HasEntry [] k → ⊥
    nothing k y = (let low = y.among.1 in omega (arith, low))

    no_run : (x : TaskRow) → IsKeptTask base.settings base.last (length base.bots) x → run_by b x ≡ None
    no_run x h =
        ap (λ (r : Option Attempt). r or_else own_run b (lost_in x.retried)) (base_run base b o none x.attempt h.attempt)
        ∙ base_run base b o none (lost_in x.retried) (kept_lost base.last (length base.bots) x.retried h.retried)

-- ---- the law

-- the output of each run is in a row
output_is : (s : PoolState) (x : TaskRow) (run : Attempt) → IfSome x.attempt IsSoundOutput → IfSome x.retried (IsSoundRetried s x.request.task_slices) → IsRunOf x run → IsSoundOutput run
output_is s x run own lost (inl e) = subst (λ (r : Option Attempt). IfSome r IsSoundOutput) e own
output_is s x run own lost (inr e) = subst (λ (r : Option Attempt). IfSome r IsSoundOutput) e (by_lost x.retried lost)
  where
    by_lost : (r : Option Retried) → IfSome r (IsSoundRetried s x.request.task_slices) → IfSome (lost_in r) IsSoundOutput
    by_lost None h = tt
    by_lost (Some l) h = h.output

pub attempts_told : AttemptsAreTold
attempts_told base log task run o rows c among is new =
    All-contains P (replay base log).tasks task (all P (replay base log).tasks (λ x a. told x a)) among run is new
  where
    P : TaskRow → Type 0
    P x = (run : Attempt) → IsRunOf x run → bot_of base run.bot ≡ None → TellsRun log x.no run

    sound : IsSound (replay base log)
    sound = sound_replay base log o c

    told : (x : TaskRow) → Among x (replay base log).tasks → P x
    told x a r of_task none =
        (let t = told_through r.bot base [] log o c (base_told base r.bot o rows none) in
        let row = task_is (replay base log) sound x a in
        let g : TellsSome log r.bot x.no r = subst (TellsOf log r.bot x.no) (run_is x.attempt x.retried r row.tries of_task) (t.rows x a) in
        record {
          claimed = g.claimed;
          only = g.only;
          chunks = g.chunks;
          last = g.last;
          tried = g.tried;
          reached = g.reached r.try_no;
          in_row = (output_is (replay base log) x r row.output row.retried of_task).in_row;
        })

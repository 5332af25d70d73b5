-- The try of a run, by the claims of its task.
use Rattle.std.proofs.Common.{◌≡◌, ◌≢◌, ◌⊎◌, inl, inr, ℕ, zero, suc, ◌+◌, ◌&&◌, not, true, is_some, if◌then◌else◌, List, [], ◌∷◌, ◌++◌, length, Option, Some, None, IfSome, refl, ap, sym, ◌∙◌, subst}
use Rattle.std.specs.Prelude.{slice_get}
use Rattle.std.specs.List.{cons_option}
use Rattle.std.specs.Option.{option_map, option_map_or, option_to_list}
use Rattle.std.proofs.lemmas.Bool.{and_parts, cond_both, eq-eqb}
use Rattle.std.proofs.lemmas.Option.{same_Some}
use Rattle.bot_worlds.specs.Types.{Properties, Attempt, BotRow, Entry, EntryKind, PoolState, TaskRow}
use Rattle.task_props.specs.declared.slice.Slice.{Slice}
use Rattle.swarm_model.specs.declared.answer.Decision.{Decision}
use Rattle.swarm_model.specs.declared.entry.EntryKind.TheVariants as kind
use Rattle.swarm_model.specs.declared.reply.Reply.TheVariants as reply
use Rattle.swarm_model.specs.declared.request.Request.TheVariants as ask
use Rattle.swarm_model.specs.declared.retried.Retried.{Retried}
use Rattle.swarm_model.specs.declared.rule.Rule.TheVariants as rule
use Rattle.swarm_model.specs.declared.task_state.TaskState.{TaskState}
use Rattle.swarm_model.specs.declared.task_state.TaskState.TheVariants.{Pending}
use Rattle.swarm_model.specs.Answers.{answer, as_claimed, busy, claim, claim_again, claimed, claims, entry_at, or_refuse, run_again, run_from, run_on, unfit_of, unfit_refusal}
use Rattle.swarm_model.specs.Before.{HasRightRunsSince}
use Rattle.swarm_model.specs.Claims.{bots_in, bots_of, claimants}
use Rattle.swarm_model.specs.Effects.{next_try}
use Rattle.swarm_model.specs.Finding.{is_called, is_final, is_state}
use Rattle.swarm_model.specs.History.{IsCaused}
use Rattle.swarm_model.specs.Slices.{current_slice, first, is_kept_from, takes_slice}
use Rattle.swarm_model.specs.Soundness.{IsRightTry, IsSound, IsSoundRetried}
use Rattle.swarm_model.specs.Verdicts.{claimant}
use Rattle.pool_laws.proofs.Answering.{by_map}
use Rattle.pool_laws.proofs.BaseClaims.{runs_from}
use Rattle.pool_laws.proofs.Finals.{caused_first}
use Rattle.pool_laws.proofs.Lists.{Among, each, find_is}
use Rattle.pool_laws.proofs.Preconditions.{FindsClaim, waits}
use Rattle.pool_laws.proofs.Rows.{claim_gets, fits_in, task_is}
use Rattle.pool_laws.proofs.Sound.{sound_replay}
use Rattle.log_laws.specs.Replies.{HasRun, Adds, IsToldRun}
use Rattle.log_laws.specs.Runs.{IsRunOf}
use Rattle.log_laws.proofs.NameLaw.{names_tell}
use Rattle.log_laws.proofs.Telling.{runs_told}
use Rattle.bot_worlds.specs.Invariant.{BotLog, IsNumber, IsTryOf, claimed_by, rows_by}
use Rattle.bot_worlds.proofs.Grown.{slice_last}
use Rattle.bot_worlds.proofs.Logs.{among_of, claimed_longer, number_longer, try_longer}

-- ---- the place of a run among the runs of its task

abbrev IsFirst : Option Retried → Type 0
IsFirst o = IfSome o (λ lost. lost.attempt.try_no ≡ 1)

first_of : (s : PoolState) (slices : List Slice) (o : Option Retried) → IfSome o (IsSoundRetried s slices) → IsFirst o
first_of s slices None h = tt
first_of s slices (Some lost) h = h.first

-- the run is the one behind, or the one that was lost before
abbrev IsIn : Option Retried → Option Attempt → Attempt → Type 0
IsIn o r a = (r ≡ Some a) ⊎ (option_map (λ (lost : Retried). lost.attempt) o ≡ Some a)

abbrev HasPlace : List ℕ → Attempt → Type 0
HasPlace bots a = (k : ℕ) × (a.try_no ≡ k + 1) × (slice_get bots k ≡ Some a.bot)

place_of : (o : Option Retried) (r : Option Attempt) (a : Attempt) → IfSome r (IsRightTry o) → IsFirst o → IsIn o r a → HasPlace (bots_in o r) a
place_of None None a h f (inl e) = absurd (cc (e))
place_of None None a h f (inr e) = absurd (cc (e))
place_of None (Some x) a h f (inl e) = subst (HasPlace (x.bot ∷ [])) (same_Some x a e) (0, h, refl)
place_of None (Some x) a h f (inr e) = absurd (cc (e))
place_of (Some lost) None a h f (inl e) = absurd (cc (e))
place_of (Some lost) None a h f (inr e) = subst (HasPlace (lost.attempt.bot ∷ [])) (same_Some lost.attempt a e) (0, f, refl)
place_of (Some lost) (Some x) a h f (inl e) = subst (HasPlace (lost.attempt.bot ∷ x.bot ∷ [])) (same_Some x a e) (1, h.0, refl)
place_of (Some lost) (Some x) a h f (inr e) = subst (HasPlace (lost.attempt.bot ∷ x.bot ∷ [])) (same_Some lost.attempt a e) (0, f, refl)

-- no other place has the bot
abbrev IsPlaceOf : List ℕ → Attempt → Type 0
IsPlaceOf bots a = (k : ℕ) → slice_get bots k ≡ Some a.bot → a.try_no ≡ k + 1

only_place : (x : Attempt) → x.try_no ≡ 1 → IsPlaceOf (x.bot ∷ []) x
only_place x h zero e = h
only_place x h (suc k) e = absurd (cc (e))

first_place : (x y : Attempt) → y.bot ≢ x.bot → x.try_no ≡ 1 → IsPlaceOf (x.bot ∷ y.bot ∷ []) x
first_place x y apart h zero e = h
first_place x y apart h (suc zero) e = absurd (apart (same_Some y.bot x.bot e))
first_place x y apart h (suc (suc k)) e = absurd (cc (e))

second_place : (x y : Attempt) → y.bot ≢ x.bot → y.try_no ≡ 2 → IsPlaceOf (x.bot ∷ y.bot ∷ []) y
second_place x y apart h zero e = absurd (apart (sym (same_Some x.bot y.bot e)))
second_place x y apart h (suc zero) e = h
second_place x y apart h (suc (suc k)) e = absurd (cc (e))

places : (o : Option Retried) (r : Option Attempt) (a : Attempt) → IfSome r (IsRightTry o) → IsFirst o → IsIn o r a → IsPlaceOf (bots_in o r) a
places None None a h f (inl e) = absurd (cc (e))
places None None a h f (inr e) = absurd (cc (e))
places None (Some x) a h f (inl e) = subst (IsPlaceOf (x.bot ∷ [])) (same_Some x a e) (only_place x h)
places None (Some x) a h f (inr e) = absurd (cc (e))
places (Some lost) None a h f (inl e) = absurd (cc (e))
places (Some lost) None a h f (inr e) = subst (IsPlaceOf (lost.attempt.bot ∷ [])) (same_Some lost.attempt a e) (only_place lost.attempt f)
places (Some lost) (Some x) a h f (inl e) = subst (IsPlaceOf (lost.attempt.bot ∷ x.bot ∷ [])) (same_Some x a e) (second_place lost.attempt x h.1 h.0)
places (Some lost) (Some x) a h f (inr e) = subst (IsPlaceOf (lost.attempt.bot ∷ x.bot ∷ [])) (same_Some lost.attempt a e) (first_place lost.attempt x h.1 f)

module _ (l : BotLog) (o : IsSound l.start.rows) (c : IsCaused l.start.rows l.log) (task : TaskRow) (a : Among task (rows_by l).tasks) where
  right_runs : HasRightRunsSince l.start.rows (rows_by l) l.log task
  right_runs = each (HasRightRunsSince l.start.rows (rows_by l) l.log) (rows_by l).tasks (runs_from l.start.rows l.log o c) task a

  -- a run that the rows have was claimed as the one of its try
  pub run_try : (run : Attempt) → IsRunOf task run → IsTryOf l task.no run.try_no run.bot
  run_try run is =
      let r = right_runs in
      let z = place_of task.retried task.attempt run r.tries (first_of (rows_by l) task.request.task_slices task.retried r.retried) is in
      record { before = z.0; count = z.1; is = ap (λ (xs : List ℕ). slice_get xs z.0) r.bots ∙ z.2 }

  -- and as no other
  pub one_try : (run : Attempt) (n : ℕ) → IsRunOf task run → IsTryOf l task.no n run.bot → n ≡ run.try_no
  one_try run n is h =
      let r = right_runs in
      h.count ∙ sym (places task.retried task.attempt run r.tries (first_of (rows_by l) task.request.task_slices task.retried r.retried) is h.before (ap (λ (xs : List ℕ). slice_get xs h.before) (sym r.bots) ∙ h.is))

-- ---- a claim that is answered with a run

record IsRunReply (number tried t n : ℕ) : Type 0 where
  task : number ≡ t
  is_try : tried ≡ n

run_reply : (tried : ℕ) (task : TaskRow) (o : Option Slice) (t n slice tolerance : ℕ) (p : Properties) → option_map_or (run_from tried task) o reply.Skip ≡ reply.Run t n slice tolerance p → IsRunReply task.no tried t n
run_reply tried task None t n slice tolerance p h = absurd (cc (h))
run_reply tried task (Some x) t n slice tolerance p h = record { task = cc (h); is_try = cc (h) }

-- a claim that is added is of a task whose next run has the try
module _ (s : PoolState) (id : List ℕ) (bot : BotRow) (there : Among bot s.bots) (t n : ℕ) where
  abbrev Begins : Decision → Type 0
  Begins d =
      (slice tolerance : ℕ) (p : Properties) → d.reply ≡ reply.Run t n slice tolerance p → (b u : ℕ) (claim : List ℕ) → d.entry ≡ Some (kind.Claim b u claim)
      → (f : FindsClaim s bot.no t id) × (next_try f.task ≡ n)

  again_begins : (task : TaskRow) → Begins (run_again bot task)
  again_begins task = cond_both (is_final task.state) _ _ Begins (λ over slice tolerance p h. absurd (cc (h))) (λ going slice tolerance p h b u claim g. absurd (cc (g)))

  claim_begins : Begins (claim s id bot)
  claim_begins =
      by_map Begins (claim_again bot id) (claimed s bot.no id) _ (λ task e. again_begins (as_claimed bot.no id task)) (λ fresh.
      by_map Begins unfit_refusal (unfit_of bot) _ (λ why e slice tolerance p h. absurd (cc (h))) (λ fit.
      by_map Begins busy (run_on s bot) _ (λ task e slice tolerance p h. absurd (cc (h))) (λ idle.
      by_map Begins (claims bot id) (first s bot.no bot.dims) _ (λ task gets slice tolerance p h b u claim g.
      let r = run_reply (next_try task) task (current_slice task) t n slice tolerance p h in
      (record { bot = bot; among = there; named = refl; fresh = fresh; fit = fit; idle = idle; task = task; gets = gets; task_named = r.task }, r.is_try))
      (λ e slice tolerance p h. absurd (cc (h))))))

-- a task that waits has no run, and its next one comes behind
waits_idle : (state : TaskState) (attempt : Option Attempt) (ended : Option ℕ) → fits_in state attempt ended ≡ true → is_state state Pending ≡ true → attempt ≡ None
waits_idle Pending None ended h w = refl
waits_idle Pending (Some a) ended h w = absurd (cc (h))
waits_idle state attempt ended h w = absurd (cc (w))

next_place : (o : Option Retried) (r : Option Attempt) → r ≡ None → (if is_some o then 2 else 1) ≡ length (bots_in o r) + 1
next_place None None e = refl
next_place (Some lost) None e = refl
next_place o (Some a) e = absurd (cc (e))

-- an entry that adds a claim
claims_one : (t b : ℕ) (id : List ℕ) (e : Entry) → e.kind ≡ kind.Claim b t id → claimants t (e ∷ []) ≡ b ∷ []
claims_one t b id e is = ap (λ (k : EntryKind). cons_option (claimant t k) []) is ∙ rw (eq-eqb t t refl) refl

module _ (l : BotLog) (o : IsSound l.start.rows) (who id : List ℕ) (m pass t n slice tolerance : ℕ) (p : Properties) (own : Option Entry) (c : IsCaused l.start.rows (l.log ++ option_to_list own))
    (told : (answer (rows_by l) who m pass (ask.Claim l.name id)).reply ≡ reply.Run t n slice tolerance p) (adds : (answer (rows_by l) who m pass (ask.Claim l.name id)).entry ≡ own) where
  abbrev after_log : BotLog
  after_log = record l { log = l.log ++ option_to_list own }

  first_caused : IsCaused l.start.rows l.log
  first_caused = caused_first l.start.rows l.log (option_to_list own) c

  sound : IsSound (rows_by l)
  sound = sound_replay l.start.rows l.log o first_caused

  run_told : IsToldRun (rows_by l) (answer (rows_by l) who m pass (ask.Claim l.name id)).entry l.name id t n
  run_told = runs_told (rows_by l) who l.name id m pass t n slice tolerance p told

  -- the bot that claims
  number : IsNumber after_log run_told.bot.no
  number =
      number_longer l (option_to_list own) o c run_told.bot.no l.name
      ((names_tell (rows_by l) run_told.bot.no l.name sound).0 (ap (λ (r : Option BotRow). option_map (λ (bot : BotRow). bot.no) r) run_told.named))

  by_run : (run : Attempt) → HasRun (rows_by l) run_told.bot.no t n run → IsTryOf after_log t n run_told.bot.no
  by_run run h =
      try_longer l (option_to_list own) t n run_told.bot.no
      (subst (λ k. IsTryOf l k n run_told.bot.no) h.number
      (subst (λ k. IsTryOf l h.task.no k run_told.bot.no) h.is_try
      (subst (λ k. IsTryOf l h.task.no run.try_no k) h.by
      (run_try l o first_caused h.task (among_of (rows_by l).tasks h.task h.among) run (inl h.attempt)))))

  by_entry : (e : Entry) → own ≡ Some e → e.kind ≡ kind.Claim run_told.bot.no t id → IsTryOf after_log t n run_told.bot.no
  by_entry e is k =
      let there = (find_is (is_called l.name) (rows_by l).bots run_told.bot run_told.named).among in
      let decided : (claim (rows_by l) id run_told.bot).reply ≡ reply.Run t n slice tolerance p =
      subst (λ (r : Option BotRow). (or_refuse r rule.NoBot (claim (rows_by l) id)).reply ≡ reply.Run t n slice tolerance p) run_told.named told in
      let entered : option_map (entry_at m pass) (claim (rows_by l) id run_told.bot).entry ≡ Some e =
      subst (λ (r : Option BotRow). option_map (entry_at m pass) (or_refuse r rule.NoBot (claim (rows_by l) id)).entry ≡ own) run_told.named adds ∙ is in
      let begun = claim_begins (rows_by l) id run_told.bot there t n slice tolerance p decided run_told.bot.no t id (by_kind (claim (rows_by l) id run_told.bot).entry entered) in
      let f = begun.0 in
      let g = claim_gets (rows_by l) run_told.bot.no t id f in
      let waiting : waits f.task ≡ true = (and_parts (waits f.task) (takes_slice f.bot.dims (current_slice f.task) && not (is_kept_from f.bot.no f.task)) g.passes).0 in
      let idle : f.task.attempt ≡ None = waits_idle f.task.state f.task.attempt f.task.ended (task_is (rows_by l) sound f.task g.among).state waiting in
      let runs : claimed_by l t ≡ bots_of f.task = subst (λ k. claimed_by l k ≡ bots_of f.task) f.task_named (right_runs l o first_caused f.task g.among).bots in
      record {
        before = length (claimed_by l t);
        count = sym begun.1 ∙ next_place f.task.retried f.task.attempt idle ∙ ap (λ (xs : List ℕ). length xs + 1) (sym runs);
        is = ap (λ (x : Option Entry). slice_get (claimed_by (record l { log = l.log ++ option_to_list x }) t) (length (claimed_by l t))) is
            ∙ ap (λ (xs : List ℕ). slice_get xs (length (claimed_by l t))) (claimed_longer l (e ∷ []) t ∙ ap (λ (xs : List ℕ). claimed_by l t ++ xs) (claims_one t run_told.bot.no id e k))
            ∙ slice_last (claimed_by l t) run_told.bot.no;
      }
    where
      by_kind : (x : Option EntryKind) → option_map (entry_at m pass) x ≡ Some e → x ≡ Some (kind.Claim run_told.bot.no t id)
      by_kind None h = absurd (cc (h))
      by_kind (Some y) h = (let same : entry_at m pass y ≡ e = same_Some _ _ h in ap (λ (z : EntryKind). Some z) (ap (λ (z : Entry). z.kind) same ∙ k))

  -- the run that is told is of its try
  pub told_try : (b : ℕ) × IsNumber after_log b × IsTryOf after_log t n b
  told_try = (run_told.bot.no, number, by_told run_told.by)
    where
      by_own : (x : Option Entry) → own ≡ x → Adds x (kind.Claim run_told.bot.no t id) → IsTryOf after_log t n run_told.bot.no
      by_own None is h = absurd h
      by_own (Some e) is h = by_entry e is h

      by_told : ((run : Attempt) × HasRun (rows_by l) run_told.bot.no t n run × (run.claim ≡ id)) ⊎ Adds (answer (rows_by l) who m pass (ask.Claim l.name id)).entry (kind.Claim run_told.bot.no t id) → IsTryOf after_log t n run_told.bot.no
      by_told (inl h) = by_run h.0 h.1
      by_told (inr h) = by_own own refl (subst (λ (x : Option Entry). Adds x (kind.Claim run_told.bot.no t id)) adds h)

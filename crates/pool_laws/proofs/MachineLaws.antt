-- What the laws say of a pool that keeps its log.
use Rattle.std.proofs.Common.{option_and_then, ◌≡◌, ℕ, ◌+◌, ◌≤◌, ◌^◌, ◌++◌, List, length, Option, Some, None, IfSome, IsTrue, refl, subst, sym, ap, ◌∙◌, sum_by}
use Rattle.std.specs.List.{All}
use Rattle.std.proofs.lemmas.Option.{same_Some}
use Rattle.pool_laws.specs.Types.{PoolSettings, TaskRow, PoolState, Entry, Request}
use Rattle.swarm_model.specs.Fits.{fits}
use Rattle.swarm_model.specs.Finding.{is_task, task_of}
use Rattle.swarm_model.specs.Answers.{answer, if_named, named_task}
use Rattle.swarm_model.specs.Bases.{front}
use Rattle.swarm_model.specs.BaseRules.{IsBase}
use Rattle.swarm_model.specs.Before.{HasRightRunsSince, before, verdict_since, accepted_since, verdict_tally_since}
use Rattle.swarm_model.specs.Claims.{IsRightClaim}
use Rattle.swarm_model.specs.Deadlines.{due_entry}
use Rattle.swarm_model.specs.Effects.{after}
use Rattle.swarm_model.specs.Entries.{weight}
use Rattle.swarm_model.specs.History.{replay, MayFollow, tally}
use Rattle.swarm_model.specs.MachineState.{MachineState, IsHistory, IsRight, KeepsFinals, ShowsVerdict, ShowsOutput, ActsOnce, TakesOutcome}
use Rattle.swarm_model.specs.Soundness.{IsSound}
use Rattle.swarm_model.specs.StateWeight.{state_weight}
use Rattle.pool_laws.proofs.Lists.{Among, all, each, find_is}
use Rattle.pool_laws.proofs.Preconditions.{Finds}
use Rattle.pool_laws.proofs.EntryPreconditions.{finds}
use Rattle.pool_laws.proofs.Rows.{find_task}
use Rattle.pool_laws.proofs.Sound.{sound_replay}
use Rattle.pool_laws.proofs.Legality.{answer_follows}
use Rattle.pool_laws.proofs.Repeating.{acts_once}
use Rattle.pool_laws.proofs.OutcomeLaw.{new_source}
use Rattle.pool_laws.proofs.OutputLaw.{tell_output}
use Rattle.pool_laws.proofs.BaseClaims.{runs_from, right_claims_from}
use Rattle.pool_laws.proofs.BaseLaws.{leads_to_base}
use Rattle.pool_laws.proofs.BaseVerdicts.{states_from}
use Rattle.pool_laws.proofs.Finals.{final_through}
use Rattle.pool_laws.proofs.TallyLaw.{tally_since, total_since}
use Rattle.pool_laws.proofs.Shown.{tell_shows}

module _ (kept : MachineState) (h : IsHistory kept) where
  -- the rows are those to which the log leads from the base
  abbrev reached : PoolState
  reached = replay kept.start.rows kept.log

  -- those of the base are sound
  base_sound : IsSound kept.start.rows
  base_sound = h.base.sound

  reached_sound : IsSound reached
  reached_sound = sound_replay kept.start.rows kept.log base_sound h.legal.caused

  -- the rows are sound
  pub is_sound : IsSound kept.pool
  is_sound = subst IsSound (sym h.replayed) reached_sound

  -- and they are a base again, where their count is small enough
  pub base_now : kept.start.count + length kept.log ≤ 2 ^ 31 → IsBase kept.pool.settings (front kept.start kept.log) kept.pool
  base_now short =
      subst (λ (s : PoolState). IsBase kept.pool.settings (front kept.start kept.log) s) (sym h.replayed)
      (leads_to_base kept.pool.settings kept.start.count kept.start.rows kept.log h.base h.legal.caused
      (subst (λ (p : PoolSettings). state_weight kept.start.rows + sum_by weight kept.log ≤ p.most_weight) h.base.own h.legal.light) short)

  -- the base and the log tell the state of each task
  pub tells_state : (t : ℕ) (task : TaskRow) → task_of kept.pool t ≡ Some task → verdict_since kept.start.rows kept.log t ≡ task.state
  tells_state t task e = states_from kept.start.rows kept.log t task base_sound h.legal.caused (ap (λ (s : PoolState). task_of s t) (sym h.replayed) ∙ e)

  -- so a result shows it
  pub shows_verdict : (who : List ℕ) (moment pass : ℕ) (request : Request) → ShowsVerdict kept request (answer kept.pool who moment pass request).reply
  shows_verdict who moment pass request = tell_shows kept told (all (λ task. verdict_since kept.start.rows kept.log task.no ≡ task.state) kept.pool.tasks told_of) who moment request
    where
      told_of : (task : TaskRow) → Among task kept.pool.tasks → verdict_since kept.start.rows kept.log task.no ≡ task.state
      told_of task a = tells_state task.no task (find_task kept.pool is_sound task task.no a refl)

      told : (number : ℕ) (task : TaskRow) → named_task kept.pool number 0 ≡ Some task → verdict_since kept.start.rows kept.log task.no ≡ task.state
      told number task e = by_row (task_of kept.pool number) refl e
        where
          by_row : (r : Option TaskRow) → task_of kept.pool number ≡ r → option_and_then (if_named 0) r ≡ Some task → verdict_since kept.start.rows kept.log task.no ≡ task.state
          by_row None g h = absurd (cc (h))
          by_row (Some x) g h = told_of task (subst (λ (y : TaskRow). Among y kept.pool.tasks) (same_Some _ _ h) (find_is (is_task number) kept.pool.tasks x g).among)

  -- what is sent again adds at most a contact
  pub repeats_once : (who : List ℕ) (moment pass : ℕ) (request : Request) → ActsOnce kept who request (answer kept.pool who moment pass request).entry
  repeats_once who moment pass request = acts_once kept is_sound who moment pass request

  -- the parts of an output are the bytes that were asked for
  pub shows_output : (who : List ℕ) (moment pass : ℕ) (request : Request) → ShowsOutput kept request (answer kept.pool who moment pass request).reply
  shows_output who moment pass request = tell_output kept is_sound who moment request

  -- an outcome that a new task takes is there
  pub takes_outcome : (who : List ℕ) (moment pass : ℕ) (request : Request) → kept.pool.last ≤ moment → moment ≤ 2 ^ 40 → due_entry kept.pool moment pass ≡ None →
      IsTrue (fits kept.pool.settings request) → IfSome (answer kept.pool who moment pass request).entry (TakesOutcome kept)
  takes_outcome who moment pass request past late none may = by_entry (answer kept.pool who moment pass request).entry refl
    where
      by_entry : (r : Option Entry) → (answer kept.pool who moment pass request).entry ≡ r → IfSome r (TakesOutcome kept)
      by_entry None g = tt
      by_entry (Some e) g = λ t by sent state slice number is.
          new_source kept.pool e.moment t by sent state slice number is_sound
          (subst (Finds kept.pool) is (finds kept.pool e (answer_follows kept.pool who moment pass request e is_sound past late none may g)))

  -- the tally counts what the base and the log tell
  pub tally_told : tally kept.pool ≡ verdict_tally_since kept.start.rows kept.log
  tally_told = ap tally h.replayed ∙ tally_since kept.start.rows kept.log base_sound h.legal.caused

  -- and adds up
  pub tally_total : sum_by (λ (count : ℕ). count) (tally kept.pool) ≡ accepted_since kept.start.rows kept.log
  tally_total = ap (λ (s : PoolState). sum_by (λ (count : ℕ). count) (tally s)) h.replayed ∙ total_since kept.start.rows kept.log base_sound h.legal.caused

  -- the runs of each task are right
  pub right_runs : (t : ℕ) → IfSome (task_of kept.pool t) (HasRightRunsSince kept.start.rows kept.pool kept.log)
  right_runs t = by_row (task_of kept.pool t) refl
    where
      each_right : All (HasRightRunsSince kept.start.rows kept.pool kept.log) kept.pool.tasks
      each_right = subst (λ (s : PoolState). All (HasRightRunsSince kept.start.rows s kept.log) s.tasks) (sym h.replayed) (runs_from kept.start.rows kept.log base_sound h.legal.caused)

      by_row : (r : Option TaskRow) → task_of kept.pool t ≡ r → IfSome r (HasRightRunsSince kept.start.rows kept.pool kept.log)
      by_row None g = tt
      by_row (Some x) g = each (HasRightRunsSince kept.start.rows kept.pool kept.log) kept.pool.tasks each_right x (find_is (is_task t) kept.pool.tasks x g).among

  module _ (e : Entry) (follows : MayFollow kept.pool e) where
    -- the entry may follow the log
    may_follow : MayFollow reached e
    may_follow = subst (λ (s : PoolState). MayFollow s e) h.replayed follows

    -- a claim that is added is right
    pub is_right : IsRight kept e
    is_right b t claim is =
        subst (λ (s : PoolState). IsRightClaim s (before kept.start.rows t ++ kept.log) e.moment b t) (sym h.replayed)
        (right_claims_from kept.start.rows kept.log e b t claim base_sound h.legal.caused may_follow is)

    -- and what has ended stays
    pub keeps_finals : (new : MachineState) → new.pool ≡ after kept.pool e → KeepsFinals kept new
    keeps_finals new is t task there final = ap (λ (s : PoolState). task_of s t) is ∙ final_through kept.pool e t task is_sound follows there final

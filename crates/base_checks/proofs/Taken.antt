-- The test on tasks that took outcomes decides what is asked of them.
use Rattle.std.proofs.Common.{◌≡◌, ℕ, ◌&&◌, Bool, true, false, Decides, refl, ap, None, IfSome, is_none}
use Rattle.std.specs.Prelude.{IsTrue}
use Rattle.std.specs.List.{AllPass}
use Rattle.std.specs.Option.{option_map_or}
use Rattle.std.proofs.lemmas.List.Elements.{All-weaker}
use Rattle.swarm_model.specs.declared.task_state.TaskState.{TaskState}
use Rattle.base_checks.specs.Types.{Completed, TaskRow, PoolState}
use Rattle.swarm_model.specs.Finding.{is_state, has_state, task_of}
use Rattle.swarm_model.specs.Reuse.{ended_well}
use Rattle.swarm_model.specs.BaseRules.{HasOutcome, HaveOutcomes}
use Rattle.base_checks.specs.Outcomes.{has_outcome_of, has_outcome}
use Rattle.base_checks.proofs.Tests.{true_decides, none_decides, some_decides, both_decide, decides_as}

completed_is : (state : TaskState) → is_state state Completed ≡ true → state ≡ Completed
completed_is Completed e = refl
completed_is state e = absurd (cc (e))

completed_decides : (state : TaskState) → Decides (is_state state Completed) (state ≡ Completed)
completed_decides state = (completed_is state, λ e. ap (λ (x : TaskState). is_state x Completed) e)

module _ (s : PoolState) where
  abbrev ended_there : ℕ → Bool
  ended_there number = option_map_or ended_well (task_of s number) false

  abbrev OutcomeParts : TaskRow → ℕ → Type 0
  OutcomeParts x number = (x.state ≡ Completed) × ((x.attempt ≡ None) × IsTrue (ended_there number))

  outcome_of_parts : (x : TaskRow) (number : ℕ) → OutcomeParts x number → HasOutcome s x number
  outcome_of_parts x number h = record { completed = h.0; no_run = h.1.0; source = h.1.1 }

  parts_of_outcome : (x : TaskRow) (number : ℕ) → HasOutcome s x number → OutcomeParts x number
  parts_of_outcome x number h = (h.completed, (h.no_run, h.source))

  outcome_decides : (x : TaskRow) (number : ℕ) → Decides (has_outcome_of s.tasks x number) (HasOutcome s x number)
  outcome_decides x number =
      decides_as (OutcomeParts x number) (HasOutcome s x number) (has_outcome_of s.tasks x number) (outcome_of_parts x number) (parts_of_outcome x number)
      (both_decide (x.state ≡ Completed) ((x.attempt ≡ None) × IsTrue (ended_there number)) (has_state Completed x) (is_none x.attempt && ended_there number)
      (completed_decides x.state)
      (both_decide (x.attempt ≡ None) (IsTrue (ended_there number)) (is_none x.attempt) (ended_there number) (none_decides x.attempt) (true_decides (ended_there number))))

  abbrev Took : TaskRow → Type 0
  Took x = IfSome x.source (HasOutcome s x)

  took_decides : (x : TaskRow) → Decides (has_outcome s.tasks x) (Took x)
  took_decides x = some_decides (has_outcome_of s.tasks x) (HasOutcome s x) (outcome_decides x) x.source

  abbrev Passed : TaskRow → Type 0
  Passed x = has_outcome s.tasks x ≡ true

  pub outcomes_of : AllPass (has_outcome s.tasks) s.tasks → HaveOutcomes s
  outcomes_of h = All-weaker Passed Took (λ x. (took_decides x).0) s.tasks h

  pub passed_outcomes : HaveOutcomes s → AllPass (has_outcome s.tasks) s.tasks
  passed_outcomes h = All-weaker Took Passed (λ x. (took_decides x).1) s.tasks h

-- A machine has few rows, which are numbered by their places.
use Rattle.std.proofs.Common.{◌≡◌, ℕ, ◌+◌, ◌≤◌, List, length, slice_get, sym, subst, refl, ◌∙◌, inl, inr}
use Rattle.std.proofs.lemmas.Option.{slice_get_cases}
use Rattle.swarm_model.specs.declared.pool_settings.PoolSettings.{PoolSettings}
use Rattle.swarm_model.specs.Numbers.{AreNumbered}
use Rattle.swarm_model.specs.Effects.{no_of_task, no_of_bot}
use Rattle.swarm_model.specs.Finding.{task_of, bot_of}
use Rattle.swarm_model.specs.MachineState.{MachineState, IsHistory}
use Rattle.swarm_model.specs.Soundness.{IsSound}
use Rattle.pool_laws.proofs.MachineLaws.{is_sound}
use Rattle.row_changes.specs.Rows.{row_of}
use Rattle.row_changes.proofs.Numbered.{found, none_past}

-- the row of a number stands at the place before it
at_place : {R : Type 0} (number_of : R → ℕ) (rows : List R) (place : ℕ) → AreNumbered number_of 1 rows → row_of number_of (place + 1) rows ≡ slice_get rows place
at_place number_of rows place numbered = elim (slice_get_cases rows place).1 [
  | inl some ↦ found number_of rows (place + 1) place some.0 numbered (record { within = some.1; number_is = refl }) (sym some.3) ∙ sym some.2
  | inr past ↦ none_past number_of rows (place + 1) place numbered refl past.0 ∙ sym past.1
]

module _ (kept : MachineState) (history : IsHistory kept) where
  sound : IsSound kept.pool
  sound = is_sound kept history

  -- the settings that the base has are the pool's
  pub few_tasks : length kept.pool.tasks ≤ kept.start.rows.settings.most_tasks
  few_tasks = subst (λ (settings : PoolSettings). length kept.pool.tasks ≤ settings.most_tasks) (sym history.base.own) sound.few_tasks

  pub few_bots : length kept.pool.bots ≤ kept.start.rows.settings.most_bots
  few_bots = subst (λ (settings : PoolSettings). length kept.pool.bots ≤ settings.most_bots) (sym history.base.own) sound.few_bots

  pub few_blobs : length kept.pool.blobs ≤ 262144
  few_blobs = sound.few_blobs

  pub task_placed : (place : ℕ) → task_of kept.pool (place + 1) ≡ slice_get kept.pool.tasks place
  task_placed place = at_place no_of_task kept.pool.tasks place sound.tasks_numbered

  pub bot_placed : (place : ℕ) → bot_of kept.pool (place + 1) ≡ slice_get kept.pool.bots place
  bot_placed place = at_place no_of_bot kept.pool.bots place sound.bots_numbered

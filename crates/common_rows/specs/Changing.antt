-- What an entry does to the rows of tasks and bots.
use Rattle.std.specs.Prelude.{◌≡◌, ℕ, List, Option, None}
use Rattle.std.specs.Option.{option_and_then}
use Rattle.swarm_model.specs.declared.task_row.TaskRow.{TaskRow}
use Rattle.swarm_model.specs.declared.bot_row.BotRow.{BotRow}
use Rattle.swarm_model.specs.declared.pool_state.PoolState.{PoolState}
use Rattle.swarm_model.specs.declared.entry.Entry.{Entry}
use Rattle.swarm_model.specs.declared.entry.EntryKind.{EntryKind}
use Rattle.swarm_model.specs.declared.entry.EntryKind.TheVariants as kind
use Rattle.swarm_model.specs.Effects.{after}
use Rattle.bot_registry.specs.Acting.{row_of}

-- the run that ends where its bot comes with another session
abbrev pub run_to_end : List BotRow → EntryKind → Option ℕ
run_to_end bots (kind.Handshake b id session dims q) = option_and_then (λ bot. bot.task) (row_of bots b)
run_to_end bots entry = None

-- the rows after the entry are those of every pool that had the rows before it, tries a lost run again so often, and
-- in which this run ends
abbrev pub AreTasksAfter : ℕ → List TaskRow → Option ℕ → Entry → List TaskRow → Type 0
AreTasksAfter retries old run entry new =
    (s : PoolState) → s.tasks ≡ old → s.settings.retries ≡ retries → run ≡ run_to_end s.bots entry.kind → new ≡ (after s entry).tasks

-- both are those of every pool that had the rows before it and tries a lost run again so often
pub record AreRowsAfter (retries : ℕ) (old_tasks : List TaskRow) (old_bots : List BotRow) (entry : Entry) (tasks : List TaskRow) (bots : List BotRow) : Type 0 where
  pub of_tasks : (s : PoolState) → s.tasks ≡ old_tasks → s.bots ≡ old_bots → s.settings.retries ≡ retries → tasks ≡ (after s entry).tasks
  pub of_bots : (s : PoolState) → s.bots ≡ old_bots → bots ≡ (after s entry).bots

-- What the rows of a pool stand for, and what lies ready for an entry.
use Rattle.std.specs.Prelude.{◌≡◌, ℕ, List, Option, Some}
use Rattle.swarm_model.specs.declared.pool_state.PoolState.{PoolState}
use Rattle.swarm_model.specs.declared.entry.EntryKind.{EntryKind}
use Rattle.swarm_model.specs.Answers.{entry_at}
use Rattle.swarm_model.specs.Bytes.{held_after}
use Rattle.swarm_model.specs.Effects.{after}
use Rattle.row_changes.specs.Parts.{bot_parts, task_parts}
use Rattle.pool_changes.specs.Blobs.{held_in, IsOfPool}
use Rattle.common_rows.specs.declared.rows.Rows.{Rows}

-- the state that the rows stand for
abbrev pub state_of : Rows → PoolState
state_of rows = record { settings = rows.settings; last = rows.last; tasks = rows.tasks.rows; bots = rows.bots.rows; blobs = rows.blobs.rows; placed = rows.blobs.placed }

-- what an entry moves into rows lies ready
pub record IsReadyFor (rows : Rows) (k : EntryKind) : Type 0 where
  pub tasks : rows.tasks.ready ≡ Some (task_parts k)
  pub bots : rows.bots.ready ≡ Some (bot_parts k)

-- lost runs are tried again as often as the settings say, the store is as large, and there may be as many bots
pub record IsOfSettings (rows : Rows) : Type 0 where
  pub tasks : rows.tasks.retries ≡ rows.settings.retries
  pub blobs : IsOfPool rows.settings rows.blobs
  pub bots : rows.bots.most ≡ rows.settings.most_bots

-- the rows, and the bytes that are held, go on by an entry of this kind, with which these bytes come
pub record IsAfter (old new : Rows) (moment : ℕ) (k : EntryKind) (bytes : Option (List ℕ)) : Type 0 where
  pub state : state_of new ≡ after (state_of old) (entry_at moment 0 k)
  pub settings : new.settings ≡ old.settings
  pub held : held_in new.blobs ≡ held_after (state_of old) k bytes (held_in old.blobs)
  pub of_settings : IsOfSettings new

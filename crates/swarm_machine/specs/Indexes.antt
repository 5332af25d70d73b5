-- What the indexes of a pool say of its rows.
use Rattle.std.specs.Prelude.{◌≡◌, ◌+◌, ◌<◌, ◌^◌, length, Option}
use Rattle.std.specs.Option.{option_map}
use Rattle.swarm_machine.specs.Types.{TaskState, TaskRow, PoolState, Entry, EntryKind}
use Rattle.swarm_model.specs.Effects.{after}
use Rattle.swarm_model.specs.History.{MayFollow, tally}
use Rattle.swarm_model.specs.Soundness.{IsSound}
use Rattle.index_laws.specs.Touched.{touched_task, touched_bot}
use Rattle.index_laws.specs.BlobDeadlines.{AreBlobDeadlines, blob_end_before}
use Rattle.index_laws.specs.RowDeadlines.{AreTaskDeadlines, AreBotDeadlines}
use Rattle.index_laws.specs.StateCounts.{touched_row}
use Rattle.index_laws.specs.TaskQueues.{AreQueued}
use Rattle.index_laws.specs.TaskClaims.{AreClaims, claim_link_to_come}
use Rattle.index_laws.specs.TaskSources.{AreSources, source_link_before}
use Rattle.index_laws.specs.TaskUuids.{AreUuids, uuid_link_to_come}
use Rattle.index_laws.specs.SetToCome.{set_to_come, IsReadyFor}
use Rattle.pool_changes.specs.Blobs.{fresh_in}
use Rattle.common_rows.specs.declared.rows.Rows.{Rows}
use Rattle.swarm_machine.specs.declared.indexes.Indexes.{Indexes}
use Rattle.swarm_machine.specs.declared.indexes.Touched.{Touched}
use Rattle.swarm_machine.specs.Uses.{AreListedFor}
use Rattle.swarm_machine.specs.UsesBehind.{AreUses, HasFewUses}
use Rattle.common_rows.specs.Rows.{state_of, IsReadyFor as AreRowsReadyFor}

-- each index is that of the rows
pub record AreIndexes (indexes : Indexes) (s : PoolState) : Type 0 where
  pub queues : AreQueued indexes.queues.queues s.tasks
  pub task_ends : AreTaskDeadlines indexes.task_ends s
  pub bot_ends : AreBotDeadlines indexes.bot_ends s
  pub blob_ends : AreBlobDeadlines indexes.blob_ends.deadlines s
  pub claims : AreClaims indexes.claims.links s.tasks
  pub uuids : AreUuids indexes.uuids.links s.tasks
  pub sources : AreSources indexes.sources.links s.tasks
  pub uses : AreUses indexes.uses s
  pub counts : indexes.counts ≡ tally s

-- all that an entry of this kind adds is made ready
pub record AreReadyFor (indexes : Indexes) (s : PoolState) (k : EntryKind) : Type 0 where
  pub task_ends : length s.tasks + 1 < length indexes.task_ends
  pub bot_ends : length s.bots + 1 < length indexes.bot_ends
  pub blob_ends : 0 < indexes.blob_ends.room
  pub queue : IsReadyFor indexes.queues.ready (set_to_come s k)
  pub claim : indexes.claims.ready ≡ claim_link_to_come k
  pub uuid : indexes.uuids.ready ≡ uuid_link_to_come k
  pub uses : AreListedFor indexes.uses k
  pub source : indexes.sources.ready ≡ source_link_before s.tasks k

-- what an entry adds lies ready in each part
pub record IsMadeReady (rows : Rows) (indexes : Indexes) (entry : Entry) : Type 0 where
  pub rows_of : AreRowsReadyFor rows entry.kind
  pub indexes_of : AreReadyFor indexes (state_of rows) entry.kind

abbrev pub state_of_row : Option TaskRow → Option TaskState
state_of_row row = option_map (λ task. task.state) row

-- the rows that an entry may change, with the deadline of the blob and the state of the task before it
pub record IsTouchedBy (s : PoolState) (e : Entry) (touched : Touched) : Type 0 where
  pub task : touched.task ≡ touched_task s e.kind
  pub bot : touched.bot ≡ touched_bot s e.kind
  pub blob_end : touched.blob_end ≡ blob_end_before s e
  pub fresh : touched.fresh ≡ fresh_in s e.kind
  pub state : touched.state ≡ state_of_row (touched_row s (touched_task s e.kind))

-- the rows are those after an entry, for which the indexes of the rows before it were made ready
pub record AreBehind (indexes : Indexes) (entry : Entry) (touched : Touched) (rows : Rows) : Type 0 where
  pub before : PoolState
  pub sound : IsSound before
  pub few : length before.tasks < 2 ^ 32
  pub few_uses : HasFewUses before entry
  pub follows : MayFollow before entry
  pub is_after : state_of rows ≡ after before entry
  pub touched_by : IsTouchedBy before entry touched
  pub indexes_of : AreIndexes indexes before
  pub ready : AreReadyFor indexes before entry.kind

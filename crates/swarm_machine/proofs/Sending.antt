-- A pool can be sent to another thread, since its parts can.
use denote.Param.Send.{IsSend, sendable, view_send, recorded_send, struct_send}
use denote.Struct.Declared.{shape}
use Rattle.std.proofs.Crossing as single
use Rattle.std.proofs.MapsCrossing as maps
use Rattle.dimensions.specs.contracts.bot_dims.BotDims as BotDims
use Rattle.dimensions.specs.contracts.text.Text as Text
use Rattle.content_store.specs.contracts.blobs.Blobs as Blobs
use Rattle.bot_registry.specs.contracts.registry.Registry as Registry
use Rattle.row_changes.specs.contracts.parts.TaskParts as TaskParts
use Rattle.task_rows.specs.contracts.rows.TaskRows as TaskRows
use Rattle.task_props.proofs.Sending.{shared_task_send}
use Rattle.swarm_model.specs.contracts.bot_row.BotRow as BotRow
use Rattle.swarm_model.specs.contracts.attempt.Last as Last
use Rattle.swarm_model.specs.contracts.entry.Entry as Entry
use Rattle.swarm_model.specs.contracts.entry.EntryKind as EntryKind
use Rattle.swarm_model.specs.contracts.pool_state.PoolState as PoolState
use Rattle.swarm_model.specs.contracts.retried.Retried as Retried
use Rattle.swarm_model.specs.contracts.retried.MaybeRetried as MaybeRetried
use Rattle.swarm_model.specs.contracts.retried.RetriedRoom as RetriedRoom
use Rattle.swarm_model.specs.contracts.task_row.TaskRow as TaskRow
use Rattle.pool_log.specs.contracts.logged_pool.LoggedPool as LoggedPool
use Rattle.swarm_machine.specs.contracts.indexed_rows.IndexedRows as IndexedRows
use Rattle.swarm_machine.specs.contracts.indexed_rows.IndexedRows.TheInside as inside
use Rattle.swarm_machine.specs.contracts.indexes.Indexes as Indexes
use Rattle.common_rows.specs.contracts.rows.Rows as Rows

retried_send : IsSend Retried.the_field.row
retried_send = search (single.crosses, maps.crosses, sendable) depth 60 fits 100000

maybe_retried_send : IsSend MaybeRetried.the_field.row
maybe_retried_send = search (retried_send, single.crosses, maps.crosses, sendable) depth 60 fits 100000

room_send : IsSend RetriedRoom.the_field.row
room_send = search (retried_send, single.crosses, maps.crosses, sendable) depth 60 fits 100000

task_row_send : IsSend TaskRow.the_field.row
task_row_send = search (maybe_retried_send, shared_task_send, single.crosses, maps.crosses, sendable) depth 60 fits 100000

task_parts_send : IsSend TaskParts.the_field.row
task_parts_send = search (room_send, shared_task_send, single.crosses, maps.crosses, sendable) depth 60 fits 100000

task_rows_send : IsSend TaskRows.the_field.row
task_rows_send = search (task_row_send, task_parts_send, single.crosses, maps.crosses, sendable) depth 60 fits 100000

bot_row_send : IsSend BotRow.the_field.row
bot_row_send = search (single.crosses, maps.crosses, sendable) depth 60 fits 100000

registry_send : IsSend Registry.the_field.row
registry_send = search (bot_row_send, single.crosses, maps.crosses, sendable) depth 60 fits 100000

blobs_send : IsSend Blobs.the_field.row
blobs_send = search (single.crosses, maps.crosses, sendable) depth 60 fits 100000

rows_send : IsSend Rows.the_field.row
rows_send = search (task_rows_send, registry_send, blobs_send, single.crosses, maps.crosses, sendable) depth 60 fits 100000

indexes_send : IsSend Indexes.the_field.row
indexes_send = search (single.crosses, maps.crosses, sendable) depth 60 fits 100000

text_send : IsSend Text.the_field.row
text_send = search (single.crosses, maps.crosses, sendable) depth 60 fits 100000

bot_dims_send : IsSend BotDims.the_field.row
bot_dims_send = search (single.crosses, maps.crosses, sendable) depth 60 fits 100000

last_send : IsSend Last.the_field.row
last_send = search (single.crosses, maps.crosses, sendable) depth 60 fits 100000

kind_send : IsSend EntryKind.the_field.row
kind_send = search (text_send, bot_dims_send, last_send, shared_task_send, single.crosses, maps.crosses, sendable) depth 60 fits 100000

entry_send : IsSend Entry.the_field.row
entry_send = search (kind_send, single.crosses, maps.crosses, sendable) depth 60 fits 100000

pool_state_send : IsSend PoolState.the_field.row
pool_state_send = search (task_row_send, bot_row_send, single.crosses, maps.crosses, sendable) depth 60 fits 100000

-- field by field: one search for all of them breaks off
inside_send : IsSend inside.the_row
inside_send =
    recorded_send inside.the_field.row _ _ inside.the_type.to_one
    (struct_send (shape inside.the_type)
    (search (sendable, single.crosses), (rows_send, (indexes_send, (search (single.crosses, maps.crosses, sendable) depth 60 fits 100000, tt)))))

indexed_rows_send : IsSend IndexedRows.the_row
indexed_rows_send = view_send _ _ _ _ _ inside_send

pub pool_send : (own : _) (queries : _) → IsSend (LoggedPool.the_row IndexedRows.the_row own queries)
pool_send own queries = search (indexed_rows_send, entry_send, pool_state_send, single.crosses, maps.crosses, sendable) depth 60 fits 100000

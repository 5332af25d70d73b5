-- The views of a board can be sent to another thread, since the copies that they read can be shared.
use denote.RattleType.{RattleType}
use denote.Param.Send.{IsSend, IsSync, sendable, view_send, recorded_send, recorded_sync, struct_send, struct_sync}
use denote.Struct.Declared.{shape}
use Rattle.std.proofs.Crossing as single
use Rattle.std.proofs.MapsCrossing as maps
use Rattle.std.specs.contracts.alloc.Global as Heap
use Rattle.std.specs.contracts.impls.GlobalAllocator.TheImpl.{ghosts}
use Rattle.atomic_table.specs.declared.shared.TableRule as table_rule
use Rattle.atomic_table.specs.contracts.owned.Table as Table
use Rattle.atomic_table.proofs.shared.Seat.TheSendSync as seat
use Rattle.atomic_table.proofs.shared.Shared.TheSendSync as shared
use Rattle.atomic_table.proofs.send_lease.SendLease.TheSendSync as lease
use Rattle.left_right.proofs.part.Part.TheSendSync as part
use Rattle.task_props.proofs.Sending.{shared_task_sync}
use Rattle.swarm_model.specs.contracts.bot_row.BotRow as BotRow
use Rattle.swarm_model.specs.contracts.pool_settings.PoolSettings as PoolSettings
use Rattle.swarm_model.specs.contracts.retried.Retried as Retried
use Rattle.swarm_model.specs.contracts.retried.MaybeRetried as MaybeRetried
use Rattle.swarm_model.specs.contracts.retried.RetriedRoom as RetriedRoom
use Rattle.swarm_model.specs.contracts.task_row.TaskRow as TaskRow
use Rattle.row_changes.specs.contracts.parts.TaskParts as TaskParts
use Rattle.task_rows.specs.contracts.rows.TaskRows as TaskRows
use Rattle.bot_registry.specs.contracts.registry.Registry as Registry
use Rattle.row_copies.specs.contracts.row_copy.RowCopy as RowCopy
use Rattle.swarm_boards.specs.contracts.view.View as View
use Rattle.swarm_boards.specs.contracts.view.View.TheInside as inside
use Rattle.swarm_boards.specs.contracts.board_views.BoardViews as BoardViews

-- the table of the readers, where what its slots hold can be sent. Field by field: the lemmas on its leases name the heap
module _ (S V K P : RattleType) (g : table_rule.Ghosts P.Denot S.Denot V.Denot K.Denot) (s : IsSend S) where
  table_send : IsSend (Table.the_row S V K P Heap.the_row g ghosts)
  table_send = let T = Table.the_type S V K P Heap.the_row g ghosts in
      recorded_send _ _ _ T.to_one
      (struct_send (shape T) (shared.the_send S V K P g s, (search sendable, (search sendable, (lease.the_send _ _ ghosts single.send single.frees, (lease.the_send _ _ ghosts single.send single.frees, (single.send, tt)))))))

  table_sync : IsSync (Table.the_row S V K P Heap.the_row g ghosts)
  table_sync = let T = Table.the_type S V K P Heap.the_row g ghosts in
      recorded_sync _ _ _ T.to_one
      (struct_sync (shape T) (shared.the_sync S V K P g s, (search sendable, (search sendable, (lease.the_sync _ _ ghosts single.send single.frees, (lease.the_sync _ _ ghosts single.send single.frees, (single.sync, tt)))))))

retried_sync : IsSync Retried.the_field.row
retried_sync = search (single.crosses, maps.crosses, sendable) depth 60 fits 100000

maybe_retried_sync : IsSync MaybeRetried.the_field.row
maybe_retried_sync = search (retried_sync, single.crosses, maps.crosses, sendable) depth 60 fits 100000

room_sync : IsSync RetriedRoom.the_field.row
room_sync = search (retried_sync, single.crosses, maps.crosses, sendable) depth 60 fits 100000

task_row_sync : IsSync TaskRow.the_field.row
task_row_sync = search (maybe_retried_sync, shared_task_sync, single.crosses, maps.crosses, sendable) depth 60 fits 100000

task_parts_sync : IsSync TaskParts.the_field.row
task_parts_sync = search (room_sync, shared_task_sync, single.crosses, maps.crosses, sendable) depth 60 fits 100000

task_rows_sync : IsSync TaskRows.the_field.row
task_rows_sync = search (task_row_sync, task_parts_sync, single.crosses, maps.crosses, sendable) depth 60 fits 100000

bot_row_sync : IsSync BotRow.the_field.row
bot_row_sync = search (single.crosses, maps.crosses, sendable) depth 60 fits 100000

registry_sync : IsSync Registry.the_field.row
registry_sync = search (bot_row_sync, single.crosses, maps.crosses, sendable) depth 60 fits 100000

settings_sync : IsSync PoolSettings.the_field.row
settings_sync = search (single.crosses, maps.crosses, sendable) depth 60 fits 100000

copy_sync : IsSync RowCopy.the_field.row
copy_sync = search (settings_sync, task_rows_sync, registry_sync, single.crosses, maps.crosses, sendable) depth 60 fits 100000

inside_send : IsSend inside.the_row
inside_send = search (copy_sync, table_send, table_sync, part.the_send, seat.the_send, single.crosses, maps.crosses, sendable) depth 60 fits 100000

view_sends : IsSend View.the_row
view_sends = view_send _ _ _ _ _ inside_send

pub views_send : IsSend BoardViews.the_row
views_send = search (view_sends, single.crosses, sendable) depth 60 fits 100000

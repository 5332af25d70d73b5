-- A shared request crosses threads, since the request does.
use denote.Param.Send.{IsSend, IsSync, sendable}
use Rattle.std.proofs.Crossing as single
use Rattle.std.proofs.MapsCrossing as maps
use Rattle.task_props.specs.contracts.slice.Slice as Slice
use Rattle.task_props.specs.contracts.new_task.NewTask as NewTask
use Rattle.task_props.specs.contracts.shared_task.SharedTask as SharedTask

slice_send : IsSend Slice.the_field.row
slice_send = search (single.crosses, maps.crosses, sendable) depth 60 fits 100000

slice_sync : IsSync Slice.the_field.row
slice_sync = search (single.crosses, maps.crosses, sendable) depth 60 fits 100000

new_task_send : IsSend NewTask.the_field.row
new_task_send = search (slice_send, single.crosses, maps.crosses, sendable) depth 60 fits 100000

new_task_sync : IsSync NewTask.the_field.row
new_task_sync = search (slice_sync, single.crosses, maps.crosses, sendable) depth 60 fits 100000

pub shared_task_send : IsSend SharedTask.the_field.row
shared_task_send = search (new_task_send, new_task_sync, single.crosses, maps.crosses, sendable) depth 60 fits 100000

pub shared_task_sync : IsSync SharedTask.the_field.row
shared_task_sync = search (new_task_send, new_task_sync, single.crosses, maps.crosses, sendable) depth 60 fits 100000

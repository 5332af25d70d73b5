use Rattle.std.proofs.Common.{Option, subst}
use Rattle.swarm_model.specs.declared.task_state.TaskState.{TaskState}
use Rattle.client_commands.specs.Commands.{ListsTasks}
use Rattle.client_commands.specs.Steps.{aside_of, world}
use Rattle.remote_commands.proofs.clients.do_work.Goals as goal

pub returns-in-Trigger : goal.returns-in-Trigger
returns-in-Trigger g c = rw (c.in-Trigger.is, ← c.as_str.ensures.value) (c.trigger.ensures (g.C.Clock.waited c.args.clock.now))

pub returns-in-Collect : goal.returns-in-Collect
returns-in-Collect g c = rw (c.in-Collect.is, ← c.as_str-in-Collect.ensures.value) (c.collect.ensures (g.F.Files.state c.args.files.now))

pub returns-in-Cancel : goal.returns-in-Cancel
returns-in-Cancel g c = rw (c.in-Cancel.is, ← c.as_str-in-Cancel.ensures.value) (c.cancel.ensures (aside_of (g.C.Clock.waited c.args.clock.now) (g.F.Files.state c.args.files.now)))

pub returns-in-SpawnTasks : goal.returns-in-SpawnTasks
returns-in-SpawnTasks g c = rw (c.in-SpawnTasks.is, ← c.as_str-in-SpawnTasks-2.ensures.value, ← c.as_str-in-SpawnTasks.ensures.value) (c.spawn_tasks.ensures (g.C.Clock.waited c.args.clock.now))

pub returns-in-CollectBatch : goal.returns-in-CollectBatch
returns-in-CollectBatch g c = rw (c.in-CollectBatch.is, ← c.as_str-in-CollectBatch.ensures.value) c.collect_batch.ensures

pub returns-in-Tasks : goal.returns-in-Tasks
returns-in-Tasks g c =
    let aside = aside_of (g.C.Clock.waited c.args.clock.now) (g.F.Files.state c.args.files.now) in
    rw (c.in-Tasks.is, ← c.as_str-in-Tasks-2.ensures.value, ← c.as_str-in-Tasks.ensures.value) (subst
    (λ (wanted : Option TaskState). ListsTasks c.args.server.now c.as_str-in-Tasks-2.result.now wanted c.in-Tasks.limit
    (world (g.W.Dialer.state c.args.dialer.now) (g.L.Link.state c.args.console.now) aside)
    (world (g.W.Dialer.state c.list_tasks.new.dialer) (g.L.Link.state c.list_tasks.new.console) aside) c.list_tasks.result)
    c.wanted_state-wanted.ensures (c.list_tasks.ensures aside))

pub returns-in-Bots : goal.returns-in-Bots
returns-in-Bots g c = rw (c.in-Bots.is, ← c.as_str-in-Bots.ensures.value) (c.list_bots.ensures (aside_of (g.C.Clock.waited c.args.clock.now) (g.F.Files.state c.args.files.now)))

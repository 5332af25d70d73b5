-- One task more is looked at.
use Rattle.std.proofs.Common.{take, sym, ◌∙◌, arith}
use Rattle.base_lines.proofs.Noting.{noted_next, none_noted, runs_numbered}
use Rattle.base_lines.proofs.runs.give_runs.Goals as goal

pub loop-task-init : goal.loop-task-init
loop-task-init c = sym (none_noted c.args.bots.now.items c.requires.idle)

pub give_run-requires : goal.give_run-requires
give_run-requires c = rw c.loop-task.invariant (runs_numbered (take c.loop-task.task-index c.args.tasks.now) 1 c.args.bots.now.items c.requires.numbered)

pub loop-task-preserved : goal.loop-task-preserved
loop-task-preserved c =
    c.give_run.ensures
    ∙ noted_next c.args.tasks.now c.loop-task.task-index c.task-item.result c.args.bots.now.items c.loop-task.bots.items (omega arith) c.task-item.is c.loop-task.invariant

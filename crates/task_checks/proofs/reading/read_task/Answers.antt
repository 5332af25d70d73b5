use Rattle.std.proofs.Common.{rules}
use Rattle.task_props.specs.declared.new_task.NewTask.{NewTask}
use Rattle.task_checks.proofs.Unbroken.{slices_unbroken, task_unbroken}
use Rattle.task_checks.proofs.reading.read_task.Goals as goal

pub read_slices-requires : goal.read_slices-requires
read_slices-requires c = slices_unbroken c.args.raw c.requires

pub returns-clause-sound : goal.returns-clause-sound
returns-clause-sound c =
    let slices = c.in_ok-read_slices.ensures in
    let task : NewTask = record {
      name = c.args.raw.name;
      priority = c.natural.result;
      bot_ping_tolerance_secs = c.natural-2.result;
      request_uuid = c.args.raw.request_uuid;
      task_slices = c.in_ok-read_slices.field-0;
    } in
    task_unbroken c.args.raw task c.requires (search rules) slices.sound

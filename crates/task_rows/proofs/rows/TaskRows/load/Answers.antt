-- The row comes behind the others, with the next number.
use Rattle.swarm_model.specs.Effects.{no_of_task}
use Rattle.row_changes.proofs.Numbered.{pushed_numbered}
use Rattle.task_rows.proofs.rows.TaskRows.load.Goals as goal

pub invariant_of-self-2 : goal.invariant_of-self-2
invariant_of-self-2 c =
    let next = rw (← c.self.view_is) at c.requires.next in
    record {
      numbered = rw (c.push_reserved.ensures.items, c.reserve.ensures.items) (pushed_numbered no_of_task c.self.inside.rows.items c.args.row c.self.invariant.numbered next);
      prepared = rw c.take.ensures.after tt;
    }

-- The numbers stay.
use Rattle.swarm_model.specs.Effects.{no_of_task}
use Rattle.row_changes.proofs.Numbered.{still_numbered}
use Rattle.task_rows.proofs.in_place.change.Goals as goal

pub returns-clause-numbered : goal.returns-clause-numbered
returns-clause-numbered g c =
    rw c.change_row.ensures (still_numbered no_of_task c.args.no (g.C.Change.change c.args.by) c.args.rows.now.items c.requires.keeps c.requires.numbered)

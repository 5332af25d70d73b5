-- The row keeps its number, and all rows stay where the report isn't the last one.
use Rattle.std.proofs.Common.{map-id, refl, sym}
use Rattle.swarm_model.specs.Effects.{no_of_task, ended_run}
use Rattle.row_changes.proofs.Numbered.{still_numbered}
use Rattle.row_changes.proofs.output.finish_if_some.Goals as goal

pub returns-in-Some-clause-numbered : goal.returns-in-Some-clause-numbered
returns-in-Some-clause-numbered c =
    rw c.change_row.ensures (still_numbered no_of_task c.args.no (ended_run c.args.moment c.args.chunk c.in-Some.last) c.args.rows.now.items (λ task. refl) c.requires)

pub returns-in_default-clause-rows : goal.returns-in_default-clause-rows
returns-in_default-clause-rows c = rw c.in_default.is (sym (map-id c.args.rows.now.items))

-- The row that is found has the number.
use Rattle.std.proofs.Common.{sym, ◌∙◌, eqb-true}
use Rattle.swarm_model.specs.Finding.{is_task}
use Rattle.pool_laws.proofs.Lists.{find_is}
use Rattle.swarm_machine.proofs.queueing.enter_number.Goals as goal

pub enter-requires-clause-absent : goal.enter-requires-clause-absent
enter-requires-clause-absent c w dims h e =
    let found = find_is (is_task c.args.number) c.args.rows.now.tasks.rows c.in-Some.task.now (sym c.in-Some.ensures) in
    c.requires.absent w dims h (e ∙ eqb-true c.in-Some.task.now.no c.args.number found.passes)

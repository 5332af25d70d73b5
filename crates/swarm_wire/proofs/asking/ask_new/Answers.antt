use Rattle.swarm_wire.proofs.Fitting.{new_fits}
use Rattle.swarm_wire.proofs.asking.ask_new.Goals as goal

pub returns-clause-fits : goal.returns-clause-fits
returns-clause-fits c =
    rw c.in_ok-shared.ensures (new_fits c.args.pools.now c.in-Some.place c.in_ok-task.task c.in_ok-task.ensures.checked (rw c.pool.ensures at c.in-Some.ensures.named))

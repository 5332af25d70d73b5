-- The turnstile is made of a new machine.
use Rattle.std.proofs.Common.{length, arith, ap}
use Rattle.shared_doors.specs.Machines.{lasting_in, log_in}
use Rattle.shared_doors.proofs.OpenPools.{new_log, opened_empty, opened_fresh, opened_lasting}
use Rattle.shared_doors.proofs.opening.open_pool.Goals as goal

pub new-requires-2 : goal.new-requires-2
new-requires-2 g c = omega (arith, ap length (new_log _ _ c.in_ok-machine.ensures))

pub returns-clause-lasting : goal.returns-clause-lasting
returns-clause-lasting g c =
    opened_lasting (lasting_in g.M.Machine.kept) c.new-2.result _ _ c.args.settings.now c.in_ok-machine.ensures c.in_ok-pool.ensures c.new-2.ensures.fixed

pub returns-clause-empty : goal.returns-clause-empty
returns-clause-empty g c = opened_empty (log_in g.M.Machine.kept) c.new-2.result _ _ c.in_ok-machine.ensures c.new-2.ensures.opening

pub returns-clause-fresh : goal.returns-clause-fresh
returns-clause-fresh g c = opened_fresh c.new-2.result _ _ c.in_ok-machine.ensures c.new-2.ensures.seen c.new-2.ensures.first

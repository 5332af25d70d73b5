-- The entries before the base and those of the log are few, and the log is a history.
use Rattle.std.proofs.Common.{arith}
use Rattle.pool_log.specs.Invariant.{start_of}
use Rattle.pool_log.proofs.Logs.{history_of, few_in_all}
use Rattle.pool_log.proofs.logged_pool.LoggedPoolMachine.length.Goals as goal

pub overflow_add-result : goal.overflow_add-result
overflow_add-result g c =
    let few = few_in_all (start_of c.self.inside) c.self.inside.log.items _ c.self.invariant.replay_of in
    omega (arith, few, c.len.ensures)

pub returns-clause-history : goal.returns-clause-history
returns-clause-history g c = history_of _ c.args.self.now c.self.view_is c.self.invariant.replay_of

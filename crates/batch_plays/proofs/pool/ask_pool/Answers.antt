use Rattle.batch_plays.proofs.Calls.{stop_settles}
use Rattle.batch_plays.proofs.pool.ask_pool.Goals as goal

pub returns-in-Err-Memory-clause-settled : goal.returns-in-Err-Memory-clause-settled
returns-in-Err-Memory-clause-settled g c = stop_settles _ _ _ _ _ c.in-Err-Memory.ensures.stopped

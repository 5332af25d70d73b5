-- The bot that is found is one of them.
use Rattle.dimensions.proofs.Found.{IfSome-find}
use Rattle.row_changes.specs.Rows.{IsHeard}
use Rattle.pool_log.proofs.RowFacts.{all_heard}
use Rattle.swarm_machine.proofs.loading_indexes.runner_of.Goals as goal

pub returns-clause-heard : goal.returns-clause-heard
returns-clause-heard c = rw (c.row_of.ensures, c.as_slice.ensures) (IfSome-find IsHeard _ c.args.base.now.bots (all_heard c.args.base.now c.requires))

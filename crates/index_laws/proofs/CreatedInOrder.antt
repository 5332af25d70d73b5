-- Rows are created one after another, since that is a rule of the rows from which a pool may open.
use Rattle.pool_laws.proofs.BaseLaws.{rows_replay}
use Rattle.index_laws.specs.TaskSources.{CreatedInOrder}

pub created_in_order : CreatedInOrder
created_in_order base log sound rows caused = (rows_replay base log sound caused rows).order

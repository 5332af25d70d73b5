use Rattle.index_laws.proofs.CreatedInOrder.{created_in_order}
use Rattle.index_laws.proofs.sources.created_in_order.Goals as goal

pub returns : goal.returns
returns c = created_in_order

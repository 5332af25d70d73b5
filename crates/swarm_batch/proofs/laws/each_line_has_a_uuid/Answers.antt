use Rattle.swarm_batch.proofs.Uuids.{uuids_are_in_order, uuids_are_apart}
use Rattle.swarm_batch.proofs.laws.each_line_has_a_uuid.Goals as goal

pub returns-clause-order : goal.returns-clause-order
returns-clause-order c = uuids_are_in_order

pub returns-clause-apart : goal.returns-clause-apart
returns-clause-apart c = uuids_are_apart

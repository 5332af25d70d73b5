-- Each slice began, and each bot was heard, at a moment of the log.
use Rattle.common_rows.specs.Rows.{state_of}
use Rattle.pool_log.proofs.RowFacts.{all_early, all_heard}
use Rattle.swarm_plain.proofs.deadlines.next_deadline.Goals as goal

pub slices_ends-slices-requires : goal.slices_ends-slices-requires
slices_ends-slices-requires c = rw c.uncounted_rows-tasks.ensures (all_early (state_of c.args.rows.now) c.requires)

pub bots_ends-bots-requires : goal.bots_ends-bots-requires
bots_ends-bots-requires c = rw c.as_slice.ensures (all_heard (state_of c.args.rows.now) c.requires)

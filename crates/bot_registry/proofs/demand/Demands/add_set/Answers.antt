-- The set that is added has the number of its bots.
use Rattle.bot_registry.proofs.demand.Demands.add_set.Goals as goal

pub returns : goal.returns
returns c =
    record {
      few = c.put.ensures.few;
      counted = c.put.ensures.counted c.args.rows.now c.requires.known.counted (rw c.in_ok-try_copy.ensures c.capable_count.ensures);
    }

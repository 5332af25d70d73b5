-- The empty log leads to the rows of a base.
use Rattle.pool_log.proofs.Reached.{base_is_reached}
use Rattle.common_rows.specs.Rows.{state_of}
use Rattle.swarm_plain.proofs.list_rows.ListRowsPoolRows.of_rows.Goals as goal

pub invariant_of-result : goal.invariant_of-result
invariant_of-result c =
    record {
      reached = base_is_reached c.args.base.now (state_of c.in_ok-of_base.field-0) c.requires.rules c.requires.base c.in_ok-of_base.ensures.state;
      of_settings = c.in_ok-of_base.ensures.of_settings;
      prepared = tt;
    }

pub returns-clause-held : goal.returns-clause-held
returns-clause-held c = c.in_ok-of_base.ensures.held

-- Rows from which a pool may open are those to which the empty log leads from them.
use Rattle.std.proofs.Common.{◌≡◌, sym, subst}
use Rattle.pool_log.proofs.Reached.{base_is_reached}
use Rattle.common_rows.specs.Rows.{state_of}
use Rattle.swarm_machine.specs.Indexes.{AreIndexes}
use Rattle.swarm_machine.proofs.indexed_rows.IndexedRowsPoolRows.of_rows.Goals as goal

pub invariant_of-result : goal.invariant_of-result
invariant_of-result c =
    let base = c.args.base.now in
    let state : state_of c.in_ok-of_base.field-0 ≡ base = c.in_ok-of_base.ensures.state in
    record {
      reached = base_is_reached base (state_of c.in_ok-of_base.field-0) c.requires.rules c.requires.base state;
      of_settings = c.in_ok-of_base.ensures.of_settings;
      indexed = subst (AreIndexes c.in_ok-of_base-2.field-0) (sym state) c.in_ok-of_base-2.ensures;
      prepared = tt;
    }

-- What the rows of a pool with indexes keep, and what holds of them.
use Rattle.std.specs.Prelude.{IfSome}
use Rattle.std.specs.Option.{option_map}
use Rattle.pool_log.specs.Reached.{IsReached}
use Rattle.pool_log.specs.Plain.{RowsState}
use Rattle.swarm_machine.specs.declared.indexed_rows.IndexedRows.TheInside.{Inside}
use Rattle.common_rows.specs.Rows.{state_of, IsOfSettings}
use Rattle.swarm_machine.specs.Indexes.{AreIndexes, IsMadeReady}

abbrev pub kept_of : Inside → RowsState
kept_of own = record { pool = state_of own.rows; ready = option_map (λ r. r.value) own.ready; held = own.rows.blobs.store.held }

-- a log leads to the rows; the parts are as large as the settings say, each index is that of the rows,
-- and all lies ready for the entry that is
pub record IsKept (own : Inside) : Type 0 where
  pub reached : IsReached (state_of own.rows)
  pub of_settings : IsOfSettings own.rows
  pub indexed : AreIndexes own.indexes (state_of own.rows)
  pub prepared : IfSome own.ready (λ entry. IsMadeReady own.rows own.indexes entry.value)

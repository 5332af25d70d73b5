-- What rows that are scanned keep, and what holds of them.
use Rattle.std.specs.Prelude.{IfSome}
use Rattle.std.specs.Option.{option_map}
use Rattle.pool_log.specs.Reached.{IsReached}
use Rattle.pool_log.specs.Plain.{RowsState}
use Rattle.common_rows.specs.Rows.{state_of, IsOfSettings, IsReadyFor}
use Rattle.swarm_plain.specs.declared.list_rows.ListRows.TheInside.{Inside}

abbrev pub kept_of : Inside → RowsState
kept_of own = record { pool = state_of own.rows; ready = option_map (λ r. r.value) own.ready; held = own.rows.blobs.store.held }

-- a log leads to the rows, their parts are as large as the settings say, and all lies ready for the entry that is
pub record IsKept (own : Inside) : Type 0 where
  pub reached : IsReached (state_of own.rows)
  pub of_settings : IsOfSettings own.rows
  pub prepared : IfSome own.ready (λ entry. IsReadyFor own.rows entry.value.kind)

-- What is known of the rows, since a log leads to them, and of what lies ready.
use Rattle.std.proofs.Common.{◌≡◌, Some}
use Rattle.std.specs.Option.{option_map}
use Rattle.swarm_model.specs.declared.entry.Entry.{Entry}
use Rattle.swarm_model.specs.Soundness.{IsSound}
use Rattle.pool_log.proofs.Reached.{reached_is_sound}
use Rattle.common_rows.specs.Rows.{state_of, IsReadyFor}
use Rattle.common_rows.proofs.Ready.{of_ready}
use Rattle.swarm_plain.specs.declared.list_rows.ListRows.TheInside.{Inside}
use Rattle.swarm_plain.specs.Invariant.{IsKept}

pub kept_sound : (own : Inside) → IsKept own → IsSound (state_of own.rows)
kept_sound own kept = reached_is_sound (state_of own.rows) kept.reached

-- what lies ready is of the entry that is kept with it
pub made_for : (own : Inside) → IsKept own → (entry : Entry) → option_map (λ r. r.value) own.ready ≡ Some entry → IsReadyFor own.rows entry.kind
made_for own kept entry is = of_ready (λ e. IsReadyFor own.rows e.kind) (λ r. r.value) own.ready entry kept.prepared is

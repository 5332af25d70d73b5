-- What was made ready is what is done.
use Rattle.std.proofs.Common.{◌≡◌, Some}
use Rattle.std.specs.Option.{option_map}
use Rattle.swarm_machine.specs.Types.{Entry}
use Rattle.common_rows.proofs.Ready.{of_ready}
use Rattle.swarm_machine.specs.declared.indexed_rows.IndexedRows.TheInside.{Inside}
use Rattle.swarm_machine.specs.Indexes.{IsMadeReady}
use Rattle.swarm_machine.specs.Invariant.{IsKept}

pub made_for : (own : Inside) → IsKept own → (entry : Entry) → option_map (λ r. r.value) own.ready ≡ Some entry → IsMadeReady own.rows own.indexes entry
made_for own kept entry is = of_ready (IsMadeReady own.rows own.indexes) (λ r. r.value) own.ready entry kept.prepared is

-- That records are those of a machine has one proof.
use Rattle.std.specs.Prelude.{List, Option}
use Rattle.std.proofs.Props.{props}
use Rattle.swarm_keeper.specs.Tables.{Tables}
use Rattle.swarm_model.specs.MachineState.{MachineState}
use Rattle.swarm_history.specs.Records.{AreRecordsOf}

pub are_records_one : (tables : List (Option Tables)) (machines : List MachineState) → IsProp (AreRecordsOf tables machines)
are_records_one tables machines = Prim.hlevel props

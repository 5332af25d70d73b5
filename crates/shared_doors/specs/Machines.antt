-- What a machine beside its keeper tells, where `kept` is what the machine tells.
use Rattle.std.specs.Prelude.{List}
use Rattle.swarm_model.specs.declared.entry.Entry.{Entry}
use Rattle.swarm_model.specs.MachineState.{MachineState}
use Rattle.shared_doors.specs.declared.kept.Kept.{Kept}
use Rattle.shared_doors.specs.declared.view.Lasting.{Lasting}
use Rattle.shared_doors.specs.Lasting.{lasting_of}

abbrev pub lasting_in : {M K : Type 0} → (M → MachineState) → Kept M K → Lasting
lasting_in kept k = lasting_of (kept k.machine)

abbrev pub log_in : {M K : Type 0} → (M → MachineState) → Kept M K → List Entry
log_in kept k = (kept k.machine).log

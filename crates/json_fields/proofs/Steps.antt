-- A list that is read item by item: what is read so far, and what is left.
use Rattle.std.proofs.Common.{List, ◌++◌}
use Rattle.std.specs.Prelude.{Result, Ok, Err}
use Rattle.task_props.specs.declared.prop_fault.PropFault.{PropFault}

-- these values, and then those of a reading
abbrev pub then_more : {A : Type 0} → List A → Result (List A) PropFault → Result (List A) PropFault
then_more done (Ok more) = Ok (done ++ more)
then_more done (Err e) = Err e

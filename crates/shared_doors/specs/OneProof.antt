-- That passes are those of turnstiles has one proof.
use Rattle.std.specs.Prelude.{List, Option}
use Rattle.std.proofs.Props.{props}
use Rattle.shared_doors.specs.Types.{Entry, Pass, Turnstile}
use Rattle.shared_doors.specs.declared.view.Lasting.{Lasting}
use Rattle.shared_doors.specs.Views.{AreOf}

pub are_of_one : {V : Type 0} (fixed : V → Lasting) (turnstiles : List (Turnstile V Entry Lasting)) (passes : List (Option (Pass V Entry Lasting))) → IsProp (AreOf fixed turnstiles passes)
are_of_one fixed turnstiles passes = Prim.hlevel props

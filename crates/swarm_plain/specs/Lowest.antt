-- The lowest of the items, as a scan comes to it.
use Rattle.std.specs.Prelude.{Bool, Option, Some, None, if◌then◌else◌}

-- the lower one, and the later one where neither is below the other
abbrev pub lower : {X : Type 0} → (X → X → Bool) → Option X → X → Option X
lower below None item = Some item
lower below (Some lowest) item = if below lowest item then Some lowest else Some item

-- The call of a request that nobody else competes with.
use Rattle.std.specs.Prelude.{ℕ, List, None}
use Rattle.swarm_model.specs.declared.request.Request.{Request}
use Rattle.swarm_model.specs.Points.{Call}

-- a request by a caller at a moment, to the pass 0, with no log that the caller has seen
abbrev pub first_call : List ℕ → ℕ → Request → Call
first_call who moment request = record { pass = 0; caller = who; moment = moment; after = None; request = request }

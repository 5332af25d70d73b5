-- A request to a pool as a call.
use Rattle.std.specs.Prelude.{ℕ}
use Rattle.swarm_model.specs.Points.{Call}
use Rattle.pool_doors.specs.declared.pool_call.PoolCall.{PoolCall}

-- the call of the pass that has this number
abbrev pub call_of : ℕ → PoolCall → Call
call_of pass call = record { pass = pass; caller = call.who.now; moment = call.moment; after = call.after; request = call.request.now }

-- How many requests a connection had.
use Rattle.std.specs.Prelude.{◌≡◌, length}
use Rattle.std.specs.List.{count_by}
use Rattle.swarm_http.specs.declared.connection_counts.ConnectionCounts.{ConnectionCounts}
use Rattle.swarm_http.specs.Exchange.{is_accepted}
use Rattle.swarm_http.specs.Answered.{ConnectionState, IsAnswered}

-- the connection was served, and these are the numbers of its exchanges and of those whose reply has status 200
pub record IsCounted (old new : ConnectionState) (counted : ConnectionCounts) : Type 0 where
  pub answered : IsAnswered old new counted.ended
  pub requests : counted.requests ≡ length answered.xs
  pub accepted : counted.accepted ≡ count_by is_accepted answered.xs

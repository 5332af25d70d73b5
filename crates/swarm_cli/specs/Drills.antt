-- A session that is made from a number.
use Rattle.std.specs.Prelude.{◌≡◌, ℕ, ◌-◌, List, [], ◌∷◌, ◌++◌, length, codes, decimal, Option, Some}
use Rattle.std.specs.List.{count_by}
use Rattle.drill_requests.specs.Texts.{drill_bytes}
use Rattle.sw_base.specs.Clock.{steps_from}
use Rattle.sw_base.specs.Link.{LinkState, opened}
use Rattle.swarm_cli.specs.Types.{Settings, Ended, Closed, LastAsked, CutShort, BadHead, Retired, ReadFault, WriteFault}
use Rattle.swarm_policy.specs.Open.{open_pool, open_settings}
use Rattle.pool_doors.specs.Doors.{DoorState, IsFreshDoor}
use Rattle.swarm_http.specs.Exchange.{is_accepted}
use Rattle.swarm_http.specs.Answered.{IsAnswered}
use Rattle.pool_summaries.specs.Summaries.{summary_of}
use Rattle.remote_commands.specs.Streams.{PrintsMade}
use Rattle.swarm_cli.specs.ServerWork.{BeginNew}

-- the open settings, under which no bot is silent for too long in a drill
abbrev pub drill_settings : Settings
drill_settings = record open_settings { pools = record open_pool { death_timeout_secs = 604800 } ∷ [] }

-- the numbers of requests, of those that were answered with status 200 and of the others, and the summary
unfoldable pub drill_text : ℕ → ℕ → List ℕ → List ℕ
drill_text requests accepted summary =
    codes "requests " ++ decimal requests ++ codes " ok " ++ decimal accepted ++ codes " refused " ++ decimal (requests - accepted) ++ codes "\n" ++ summary

-- the status of an ending: a link in memory fails for want of memory alone
abbrev pub drill_status : Ended → ℕ
drill_status Closed = 0
drill_status LastAsked = 0
drill_status Retired = 0
drill_status ReadFault = 5
drill_status WriteFault = 5
drill_status CutShort = 7
drill_status BadHead = 7

-- One connection with the bytes of a drill was served, over a fresh door with a new pool and a clock that begins at
-- 1000 and steps by 1; what is printed are the numbers of its exchanges, and the summary of the pool in the end.
pub record Drilled (start cycles : ℕ) (s t : LinkState) (status : ℕ) : Type 0 where
  pub ended : Ended
  pub last : LinkState
  pub ahead : ℕ → Option (List ℕ)
  pub before : DoorState
  pub after : DoorState
  pub fresh_door : IsFreshDoor drill_settings (λ p. []) before
  pub begins : BeginNew drill_settings.pools before.writer.starts
  pub answered : IsAnswered (record { link = opened (Some (drill_bytes start cycles)) (Some []); clock = λ k. Some (steps_from 1000 1 k); door = before })
      (record { link = last; clock = ahead; door = after }) ended
  pub prints : PrintsMade (drill_text (length answered.xs) (count_by is_accepted answered.xs) (summary_of drill_settings.pools before.writer.starts after.seen)) (drill_status ended) s t status

-- a drill was carried out, or there was no memory for its input, its door or what reads it
pub data Drills (start cycles : ℕ) (s t : LinkState) (status : ℕ) : Type 0 where
  drilled : Drilled start cycles s t status → Drills start cycles s t status
  no_memory : status ≡ 5 → t ≡ s → Drills start cycles s t status

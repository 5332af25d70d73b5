-- What one connection over a door does.
use Rattle.std.specs.Prelude.{◌≡◌, ℕ, ◌+◌, ◌≤◌, List, [], length, Option}
use Rattle.std.specs.List.{flat_map, count_by}
use Rattle.sw_base.specs.Clock.{HandsIn}
use Rattle.sw_base.specs.Faults.{RoseBy}
use Rattle.sw_base.specs.Link.{LinkState}
use Rattle.pool_doors.specs.Doors.{DoorState, AddsNoOthers, KeepsRecords}
use Rattle.swarm_http.specs.declared.ended.Ended.{Ended}
use Rattle.swarm_http.specs.Endings.{Transfers, EndsAs, EndsAtFault}
use Rattle.swarm_http.specs.Exchange.{Exchange, served, moments_of, fails_keeper, Chain, AreOnce}

-- what a connection works on: its link, the moments that its clock is about to hand in, and its door
pub record ConnectionState : Type 0 where
  pub link : LinkState
  pub clock : ℕ → Option (List ℕ)
  pub door : DoorState

-- from the bytes that were pending on, these requests were read and answered, this rest is pending,
-- and these bytes were written
pub record Serves (xs : List Exchange) (pending rest sent : List ℕ) (old new : ConnectionState) : Type 0 where
  pub transfers : Transfers (served xs) pending rest sent old.link new.link
  pub moments : HandsIn old.clock new.clock (flat_map moments_of xs)
  pub chain : Chain old.door.settings old.door.writer old.door.seen xs new.door.seen

-- the door's count of faults rose by at least the number of requests whose reply is that of a keeper's fault
abbrev pub KeepersFailed : List Exchange → DoorState → DoorState → Type 0
KeepersFailed xs old new = RoseBy (count_by fails_keeper xs) old.faults new.faults

-- The whole connection, with nothing pending at its begin: there are requests and a rest such that
-- all that was read, asked of the clock and the door, and written is theirs, in order, and their
-- entries stand in the logs once. Each reply of a keeper's fault has a fault that the door counted.
pub record IsAnswered (old new : ConnectionState) (ended : Ended) : Type 0 where
  pub xs : List Exchange
  pub rest : List ℕ
  pub sent : List ℕ
  pub serves : Serves xs [] rest sent old new
  pub ends : EndsAs 65536 ended (served xs) rest sent old.link new.link
  pub few : length xs ≤ 65536
  pub once : AreOnce old.door.writer old.door.seen xs new.door.seen
  pub keepers : KeepersFailed xs old.door new.door
  pub faults : EndsAtFault ended old.link new.link

-- what a connection keeps of its door, on which it made so many calls at most
pub record KeepsDoor (most : ℕ) (old new : DoorState) : Type 0 where
  pub settings : new.settings ≡ old.settings
  pub writer : new.writer ≡ old.writer
  pub kept : KeepsRecords old new
  pub no_other_blobs : AddsNoOthers old new
  pub faults : old.faults ≤ new.faults
  pub calls : new.calls ≤ old.calls + most

-- A session over a door that writes alone.
use Rattle.std.proofs.Common.{◌≡◌, ◌++◌, ℕ, List, [], ap, ◌∙◌}
use Rattle.std.specs.Prelude.{IsTrue}
use Rattle.std.specs.List.{flat_map}
use Rattle.swarm_cli.specs.Types.{Settings, Entry, Ended}
use Rattle.pool_doors.specs.Doors.{DoorState, IsFreshDoor}
use Rattle.swarm_http.specs.Exchange.{entries_of}
use Rattle.swarm_http.specs.Answered.{ConnectionState, IsAnswered}

-- each log grows by the entries of the exchanges
pub logs_grow : {v w : ConnectionState} {ended : Ended} → IsTrue v.door.writer.alone → (x : IsAnswered v w ended) → (p : ℕ) → w.door.seen p ≡ v.door.seen p ++ flat_map (entries_of p) x.xs
logs_grow {v = v} alone x p = let o = x.once p in o.grown ∙ ap (λ (l : List Entry). v.door.seen p ++ l) (o.no_others alone)

-- a door that has seen nothing
pub fresh_of_nothing : {settings : Settings} {door : DoorState} → IsFreshDoor settings door.seen door → ((p : ℕ) → door.seen p ≡ []) → IsFreshDoor settings (λ p. []) door
fresh_of_nothing n nothing = record { settings_are = n.settings_are; seen = nothing; starts = n.starts; numbers = n.numbers; alone = n.alone; calls = n.calls }

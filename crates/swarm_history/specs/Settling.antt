-- How a log grows in one call.
use Rattle.std.specs.Prelude.{◌≡◌, ℕ, Bool, ◌≤◌, List, [], ◌∷◌, ◌++◌, Option, None}
use Rattle.std.specs.Option.{option_to_list}
use Rattle.std.specs.List.{AllByRecursion}
use Rattle.swarm_history.specs.Types.{Entry, Request, Reply, Answered}
use Rattle.swarm_model.specs.Answers.{answer}
use Rattle.swarm_model.specs.Bases.{Base, front}
use Rattle.swarm_model.specs.Bytes.{held_after}
use Rattle.swarm_model.specs.Effects.{after}
use Rattle.swarm_model.specs.MachineState.{MachineState, IsHistory}
use Rattle.swarm_model.specs.Points.{Call, Growth, IsSettled, IsPoint, IsStopped}
use Rattle.pool_doors.specs.Doors.{ArePieces}

-- the machine with an entry more, and the bytes that came with it
abbrev pub with_entry : MachineState → Entry → Option (List ℕ) → MachineState
with_entry kept entry bytes =
    record kept { pool = after kept.pool entry; log = kept.log ++ entry ∷ []; ready = None; held = held_after kept.pool entry.kind bytes kept.held }

-- nothing is added
pub record IsUnchanged (old new : MachineState) : Type 0 where
  pub start : new.start ≡ old.start
  pub pool : new.pool ≡ old.pool
  pub log : new.log ≡ old.log
  pub held : new.held ≡ old.held

-- one entry is added
pub record Adds (old new : MachineState) (entry : Entry) : Type 0 where
  pub start : new.start ≡ old.start
  pub log : new.log ≡ old.log ++ entry ∷ []
  pub settings : new.pool.settings ≡ old.pool.settings
  pub last : new.pool.last ≡ entry.moment
  pub history : IsHistory new

-- entries are added that were due by the moment, and no others
pub record Settles (pass moment : ℕ) (old new : MachineState) : Type 0 where
  pub settled : List Entry
  pub start : new.start ≡ old.start
  pub log : new.log ≡ old.log ++ settled
  pub due_first : AllByRecursion (IsSettled pass moment) settled
  pub settings : new.pool.settings ≡ old.pool.settings
  pub last : new.pool.last ≤ moment
  pub history : IsHistory new

-- a request is answered, and the answer's own entry is added
pub record Responds (pass : ℕ) (who : List ℕ) (moment : ℕ) (request : Request) (old new : MachineState) (answered : Reply) : Type 0 where
  pub start : new.start ≡ old.start
  pub reply : (answer old.pool who moment pass request).reply ≡ answered
  pub log : new.log ≡ old.log ++ option_to_list (answer old.pool who moment pass request).entry
  pub settings : new.pool.settings ≡ old.pool.settings
  pub history : IsHistory new

-- an answer tells the length of the log with what led to its base, and has the bytes of the blobs that its reply names
pub record HasFrontAndPieces (kept : MachineState) (answered : Answered) : Type 0 where
  pub front : answered.front ≡ front kept.start kept.log
  pub pieces : ArePieces answered.reply answered.pieces

-- a point before which no other wrote
pub record IsPointAlone (start : Base) (call : Call) (old new : List Entry) (answered : Reply) : Type 0 where
  pub growth : Growth
  pub point : IsPoint start call old new growth answered
  pub no_others : growth.others ≡ []

-- a call that stopped, before which no other wrote
pub record IsOwnStop (start : Base) (call : Call) (old new : List Entry) (is_full : Bool) : Type 0 where
  pub growth : Growth
  pub stop : IsStopped start call old new growth is_full
  pub no_others : growth.others ≡ []

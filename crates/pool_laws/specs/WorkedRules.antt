-- Rows to which a log leads, and from which a pool may open.
use Rattle.std.specs.Prelude.{false, List, [], ◌∷◌, Some, None, codes}
use Rattle.pool_laws.specs.Types.{BlobRow, Pending, Running, Attempt, PoolSettings, TaskRow, BotRow, PoolState, Entry}
use Rattle.swarm_model.specs.declared.entry.EntryKind.TheVariants as kind
use Rattle.swarm_model.specs.Answers.{entry_at}
use Rattle.swarm_model.specs.Effects.{opening}
use Rattle.swarm_model.specs.History.{IsCaused}
use Rattle.swarm_model.specs.BaseRules.{IsBase}
use Rattle.pool_laws.specs.Worked.{small_dims, other_dims, repeatable_task, retrying, first_chunk}

-- a run reports the first chunk of its output and is lost, since its bot begins anew; another bot claims the task
abbrev pub lost_log : List Entry
lost_log =
    entry_at 1000 0 (kind.New 1 (codes "ana") repeatable_task Pending 0 None)
    ∷ entry_at 1001 0 (kind.Handshake 1 (codes "bot-1") (codes "session-1") small_dims [])
    ∷ entry_at 1001 0 (kind.Handshake 2 (codes "bot-2") (codes "session-1") other_dims [])
    ∷ entry_at 1002 0 (kind.Claim 1 1 (codes "claim-1"))
    ∷ entry_at 1003 0 (kind.Update 1 1 1 (Some first_chunk) None)
    ∷ entry_at 1004 0 (kind.Handshake 1 (codes "bot-1") (codes "session-2") small_dims [])
    ∷ entry_at 1005 0 (kind.Claim 2 1 (codes "claim-1"))
    ∷ []

-- it is a log that a pool may have
abbrev pub BaseIsReached : Type 0
BaseIsReached = IsCaused (opening retrying) lost_log

abbrev pub lost_attempt : Attempt
lost_attempt =
    record {
      try_no = 1;
      bot = 1;
      claim = codes "claim-1";
      begun = 1002;
      kill = false;
      chunks = first_chunk ∷ [];
      length = 6;
      last = None;
      last_chunk = None;
    }

abbrev pub second_attempt : Attempt
second_attempt =
    record {
      try_no = 2;
      bot = 2;
      claim = codes "claim-1";
      begun = 1005;
      kill = false;
      chunks = [];
      length = 0;
      last = None;
      last_chunk = None;
    }

abbrev pub lost_task : TaskRow
lost_task =
    record {
      no = 1;
      creator = codes "ana";
      request = repeatable_task;
      created = 1000;
      state = Running;
      slice = 0;
      since = 1004;
      attempt = Some second_attempt;
      retried = Some (record { attempt = lost_attempt; slice = 0; over = 1004 });
      source = None;
      ended = None;
    }

abbrev pub losing_bot : BotRow
losing_bot =
    record {
      no = 1;
      name = codes "bot-1";
      session = codes "session-2";
      dims = small_dims;
      contact = 1004;
      streak = 0;
      quarantined = [];
      dead = false;
      terminating = false;
      task = None;
    }

abbrev pub second_bot : BotRow
second_bot =
    record {
      no = 2;
      name = codes "bot-2";
      session = codes "session-1";
      dims = other_dims;
      contact = 1005;
      streak = 0;
      quarantined = [];
      dead = false;
      terminating = false;
      task = Some 1;
    }

-- the content of the chunk, kept for 604800 seconds
abbrev pub chunk_blob : BlobRow
chunk_blob = record { no = 1; digest = first_chunk.digest; size = 6; extent = record { at = 0; units = 1 }; deadline = 605803 }

-- the rows to which the log leads
abbrev pub lost_rows : PoolState
lost_rows =
    record {
      settings = retrying;
      last = 1005;
      tasks = lost_task ∷ [];
      bots = losing_bot ∷ second_bot ∷ [];
      blobs = chunk_blob ∷ [];
      placed = 1;
    }

-- without the blob they are no base
abbrev pub NeedsItsOutput : Type 0
NeedsItsOutput = IsBase retrying 7 (record lost_rows { blobs = [] }) → ⊥

-- a pool that may weigh 131
abbrev pub light_pool : PoolSettings
light_pool = record retrying { most_weight = 131 }

-- nor are they one where the pool may weigh less
abbrev pub IsTooHeavy : Type 0
IsTooHeavy = IsBase light_pool 7 (record lost_rows { settings = light_pool }) → ⊥

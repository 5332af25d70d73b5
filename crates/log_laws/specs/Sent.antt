-- The tasks that a caller sent under a uuid, in a log.
use Rattle.std.specs.Prelude.{◌≡◌, ℕ, Bool, false, ◌≤◌, ◌&&◌, ◌==◌, ◌++◌, IsTrue, IsFalse, List, Option, Some, None, is_some}
use Rattle.std.specs.List.{count_by, list_any}
use Rattle.std.specs.Option.{option_to_list}
use Rattle.dimensions.specs.Alike.{same}
use Rattle.dimensions.specs.Rules.{is_empty}
use Rattle.log_laws.specs.Types.{NewTask, TaskState, PoolState, Entry, EntryKind, Request}
use Rattle.swarm_model.specs.declared.entry.EntryKind.TheVariants as kind
use Rattle.swarm_model.specs.declared.request.Request.TheVariants as ask
use Rattle.swarm_model.specs.declared.reply.Reply.TheVariants as reply
use Rattle.swarm_model.specs.Answers.{answer}
use Rattle.swarm_model.specs.History.{replay, IsCaused}
use Rattle.swarm_model.specs.Reuse.{sent}
use Rattle.swarm_model.specs.Soundness.{IsSound}

-- the entry accepts a task of this caller under this uuid
abbrev pub sends_kind : List ℕ → List ℕ → EntryKind → Bool
sends_kind who uuid (kind.New t caller request state slice from) = same caller who && same request.request_uuid uuid
sends_kind who uuid entry = false

abbrev pub sends : List ℕ → List ℕ → Entry → Bool
sends who uuid entry = sends_kind who uuid entry.kind

-- the entry accepts it as the task of this number
abbrev pub sends_kind_as : List ℕ → List ℕ → ℕ → EntryKind → Bool
sends_kind_as who uuid number (kind.New t caller request state slice from) = (same caller who && same request.request_uuid uuid) && (t == number)
sends_kind_as who uuid number entry = false

abbrev pub sends_as : List ℕ → List ℕ → ℕ → Entry → Bool
sends_as who uuid number entry = sends_kind_as who uuid number entry.kind

-- a log accepts at most one task of a caller under a uuid
abbrev pub SentOnce : Type 0
SentOnce =
    (base : PoolState) (log : List Entry) (who uuid : List ℕ) → IsSound base → IsCaused base log → IsFalse (is_empty uuid)
    → count_by (sends who uuid) log ≤ 1

-- and none where the base has one
abbrev pub SentBefore : Type 0
SentBefore =
    (base : PoolState) (log : List Entry) (who uuid : List ℕ) → IsSound base → IsCaused base log → IsTrue (is_some (sent base who uuid))
    → count_by (sends who uuid) log ≡ 0

-- the reply to a task under a uuid that the base has not tells the number under which the log accepts it, by now
abbrev pub RepliesAreTold : Type 0
RepliesAreTold =
    (base : PoolState) (log : List Entry) (who : List ℕ) (moment pass : ℕ) (request : NewTask) (t : ℕ) (state : TaskState)
    → IsSound base → IsCaused base log → IsFalse (is_empty request.request_uuid) → sent base who request.request_uuid ≡ None
    → (answer (replay base log) who moment pass (ask.New request)).reply ≡ reply.New t state
    → IsTrue (list_any (sends_as who request.request_uuid t) (log ++ option_to_list (answer (replay base log) who moment pass (ask.New request)).entry))

-- the caller asks for this very task
pub record IsOwnTask (who : List ℕ) (request : Request) (caller : List ℕ) (task : NewTask) : Type 0 where
  pub by : caller ≡ who
  pub asked : request ≡ ask.New task

-- a task that an answer accepts is the one that is asked for, of the caller who asks
abbrev pub NewIsAsked : Type 0
NewIsAsked =
    (s : PoolState) (who : List ℕ) (moment pass : ℕ) (request : Request) (entry : Entry)
    (t : ℕ) (caller : List ℕ) (task : NewTask) (state : TaskState) (slice : ℕ) (source : Option ℕ)
    → (answer s who moment pass request).entry ≡ Some entry → entry.kind ≡ kind.New t caller task state slice source
    → IsOwnTask who request caller task

-- Which entry stands behind the reply to a bot.
use Rattle.std.specs.Prelude.{◌≡◌, ◌⊎◌, ℕ, Bool, IsTrue, IsSomeAnd, List, Option, Some, None}
use Rattle.std.specs.List.{Contains}
use Rattle.log_laws.specs.Types.{Properties, Attempt, Chunk, Last, TaskRow, BotRow, PoolState, Entry, EntryKind, Request}
use Rattle.swarm_model.specs.declared.entry.EntryKind.TheVariants as kind
use Rattle.swarm_model.specs.declared.request.Request.TheVariants as ask
use Rattle.swarm_model.specs.declared.reply.Reply.TheVariants as reply
use Rattle.swarm_model.specs.Answers.{answer}
use Rattle.swarm_model.specs.Finding.{bot_named}
use Rattle.swarm_model.specs.Fits.{fits}

-- the entry is of this kind
abbrev pub Adds : Option Entry → EntryKind → Type 0
Adds entry kind = IsSomeAnd entry (λ e. e.kind ≡ kind)

-- the request is this report of the bot of this number
pub record IsReportBy (s : PoolState) (request : Request) (b t try_no : ℕ) (chunk : Option Chunk) (last : Option Last) : Type 0 where
  pub bot : BotRow
  pub named : bot_named s bot.name ≡ Some bot
  pub number : bot.no ≡ b
  pub asked : request ≡ ask.Update bot.name t try_no chunk last

-- an update that an answer adds is the request
abbrev pub UpdatesAreAsked : Type 0
UpdatesAreAsked =
    (s : PoolState) (who : List ℕ) (moment pass : ℕ) (request : Request) (entry : Entry)
    (b t try_no : ℕ) (chunk : Option Chunk) (last : Option Last) → IsTrue (fits s.settings request)
    → (answer s who moment pass request).entry ≡ Some entry → entry.kind ≡ kind.Update b t try_no chunk last
    → IsReportBy s request b t try_no chunk last

-- the bot has this run of task t
pub record HasRun (s : PoolState) (b t try_no : ℕ) (run : Attempt) : Type 0 where
  pub task : TaskRow
  pub among : Contains s.tasks task
  pub number : task.no ≡ t
  pub attempt : task.attempt ≡ Some run
  pub by : run.bot ≡ b
  pub is_try : run.try_no ≡ try_no

-- the bot of the name has the run under this id, or its claim is added
pub record IsToldRun (s : PoolState) (entry : Option Entry) (name claim : List ℕ) (t try_no : ℕ) : Type 0 where
  pub bot : BotRow
  pub named : bot_named s name ≡ Some bot
  pub by : ((run : Attempt) × HasRun s bot.no t try_no run × (run.claim ≡ claim)) ⊎ Adds entry (kind.Claim bot.no t claim)

abbrev pub RunsAreTold : Type 0
RunsAreTold =
    (s : PoolState) (who name claim : List ℕ) (moment pass t try_no slice tolerance : ℕ) (properties : Properties)
    → (answer s who moment pass (ask.Claim name claim)).reply ≡ reply.Run t try_no slice tolerance properties
    → IsToldRun s (answer s who moment pass (ask.Claim name claim)).entry name claim t try_no

-- the chunk is kept of the bot's run, or its update is added
pub record IsTakenChunk (s : PoolState) (entry : Option Entry) (name : List ℕ) (t try_no : ℕ) (chunk : Chunk) : Type 0 where
  pub bot : BotRow
  pub named : bot_named s name ≡ Some bot
  pub by : ((run : Attempt) × HasRun s bot.no t try_no run × Contains run.chunks chunk) ⊎ Adds entry (kind.Update bot.no t try_no (Some chunk) None)

-- a report that goes on, with this chunk
abbrev pub with_chunk : List ℕ → ℕ → ℕ → Chunk → Request
with_chunk name t try_no chunk = ask.Update name t try_no (Some chunk) None

abbrev pub ChunksAreTaken : Type 0
ChunksAreTaken =
    (s : PoolState) (who name : List ℕ) (moment pass t try_no : ℕ) (chunk : Chunk) (must_stop : Bool)
    → IsTrue (fits s.settings (with_chunk name t try_no chunk))
    → (answer s who moment pass (with_chunk name t try_no chunk)).reply ≡ reply.Updated must_stop
    → IsTakenChunk s (answer s who moment pass (with_chunk name t try_no chunk)).entry name t try_no chunk

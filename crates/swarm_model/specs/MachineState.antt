-- What a machine keeps.
use Rattle.std.specs.Prelude.{◌≡◌, ◌⊎◌, ◌++◌, ℕ, zero, ⊤, IsTrue, List, Option, Some, None, IfSome, is_some}
use Rattle.std.specs.List.{All}
use Rattle.swarm_model.specs.Types.{Filled, PoolState, Entry, NewTask, Request, TaskState, TaskRow, BotRow, TaskView, Reply}
use Rattle.swarm_model.specs.declared.entry.EntryKind.TheVariants as kind
use Rattle.swarm_model.specs.declared.request.Request.TheVariants as ask
use Rattle.swarm_model.specs.declared.reply.Reply.TheVariants as reply
use Rattle.swarm_model.specs.Finding.{is_final, task_of, bot_named}
use Rattle.swarm_model.specs.Answers.{named_task, chunks_shown}
use Rattle.swarm_model.specs.Bytes.{HeldBytes, filled, held_after_fill}
use Rattle.swarm_model.specs.Claims.{IsRightClaim}
use Rattle.swarm_model.specs.Effects.{new_row, fresh_chunk}
use Rattle.swarm_model.specs.Bases.{Base}
use Rattle.swarm_model.specs.BaseRules.{IsBase}
use Rattle.swarm_model.specs.Before.{before, verdict_since}
use Rattle.swarm_model.specs.History.{replay, IsLegal}
use Rattle.swarm_model.specs.Output.{AreBytesFrom}
use Rattle.swarm_model.specs.ReuseLaw.{HasSource}
use Rattle.swarm_model.specs.Soundness.{sent_key, HasKey}

-- where the log begins, the rows, the log, the entry that is made ready, and the bytes that are held
pub record MachineState : Type 0 where
  pub start : Base
  pub pool : PoolState
  pub log : List Entry
  pub ready : Option Entry
  pub held : HeldBytes

-- the log begins from a base, the rows are the replay of the log from there, and the log is legal
pub record IsHistory (kept : MachineState) : Type 0 where
  pub base : IsBase kept.pool.settings kept.start.count kept.start.rows
  pub replayed : kept.pool ≡ replay kept.start.rows kept.log
  pub legal : IsLegal kept.start.rows kept.log

-- each blob has its bytes
abbrev pub AreHeld : MachineState → Type 0
AreHeld kept = All (λ blob. IsTrue (is_some (kept.held blob.digest))) kept.pool.blobs

-- bytes were brought for a blob; nothing is ready any more
pub record Fills (old new : MachineState) (digest bytes : List ℕ) (result : Filled) : Type 0 where
  pub told : result ≡ filled old.pool digest bytes
  pub holds : new ≡ record old { ready = None; held = held_after_fill result digest bytes old.held }

-- what is shown of a task has the state that the base and the log tell of it
abbrev pub HasVerdict : MachineState → TaskView → Type 0
HasVerdict kept view = verdict_since kept.start.rows kept.log view.task_id ≡ view.state

-- so has the task that is asked for by its own id, and each task of a page
abbrev pub ShowsResult : MachineState → Request → TaskView → Type 0
ShowsResult kept (ask.Result number zero) view = HasVerdict kept view
ShowsResult kept request view = ⊤

abbrev pub ShowsVerdict : MachineState → Request → Reply → Type 0
ShowsVerdict kept request (reply.Result view) = ShowsResult kept request view
ShowsVerdict kept request (reply.Tasks items cursor) = All (HasVerdict kept) items
ShowsVerdict kept request other = ⊤

-- a task that has ended stays as it is
abbrev pub KeepsFinals : MachineState → MachineState → Type 0
KeepsFinals old new = (t : ℕ) (task : TaskRow) → task_of old.pool t ≡ Some task → IsTrue (is_final task.state) → task_of new.pool t ≡ Some task

-- a claim that is added is right for the rows, and for what the base tells of its task, followed by the log
abbrev pub IsRight : MachineState → Entry → Type 0
IsRight kept entry = (b t : ℕ) (claim : List ℕ) → entry.kind ≡ kind.Claim b t claim → IsRightClaim kept.pool (before kept.start.rows t ++ kept.log) entry.moment b t

-- the entry, where there is one, says only that the bot was heard
abbrev pub SaysContact : BotRow → Option Entry → Type 0
SaysContact bot entry = IfSome entry (λ e. e.kind ≡ kind.Contact bot.no)

-- What is sent again adds nothing, or that its bot was heard: a task under the uuid of one that its caller sent adds
-- nothing; a claim under the id of one that the bot made, a handshake with the session that the bot has, a report of a
-- run that has ended, and one that neither ends its run nor goes on from the output that is kept, add at most a contact.
abbrev pub ActsOnce : MachineState → List ℕ → Request → Option Entry → Type 0
ActsOnce kept who (ask.New request) entry =
    (task : TaskRow) → task_of kept.pool task.no ≡ Some task → sent_key task ≡ Some (who, request.request_uuid) → entry ≡ None
ActsOnce kept who (ask.Claim name id) entry =
    (bot : BotRow) (task : TaskRow) → bot_named kept.pool name ≡ Some bot → task_of kept.pool task.no ≡ Some task → HasKey task (bot.no, id)
    → SaysContact bot entry
ActsOnce kept who (ask.Handshake name session dims quarantined) entry =
    (bot : BotRow) → bot_named kept.pool name ≡ Some bot → bot.session ≡ session → SaysContact bot entry
ActsOnce kept who (ask.Update name number try_no chunk last) entry =
    (bot : BotRow) (task : TaskRow) → bot_named kept.pool name ≡ Some bot → named_task kept.pool number try_no ≡ Some task
    → IsTrue (is_final task.state) ⊎ ((fresh_chunk task.attempt chunk ≡ None) × (last ≡ None))
    → SaysContact bot entry
ActsOnce kept who other entry = ⊤

-- a new task that takes an outcome takes that of an earlier task, which ran the same and reported 0
abbrev pub TakesOutcome : MachineState → Entry → Type 0
TakesOutcome kept entry =
    (t : ℕ) (who : List ℕ) (request : NewTask) (state : TaskState) (slice number : ℕ) → entry.kind ≡ kind.New t who request state slice (Some number)
    → HasSource kept.pool (new_row entry.moment t who request state slice (Some number)) number

-- the parts of an output are the bytes that were asked for of the chunks that are kept, in their order
abbrev pub ShowsOutput : MachineState → Request → Reply → Type 0
ShowsOutput kept (ask.Stdout number try_no offset most) (reply.Stdout state parts) =
    (task : TaskRow) → named_task kept.pool number try_no ≡ Some task → AreBytesFrom offset most (chunks_shown kept.pool task) parts
ShowsOutput kept request answered = ⊤

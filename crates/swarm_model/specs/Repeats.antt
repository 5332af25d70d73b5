-- What comes of a request that is sent again.
use Rattle.std.specs.Prelude.{◌≡◌, ℕ, Bool, false, ◌==◌, ◌⊎◌, List, IsTrue, IsFalse, Option, Some, None, map, is_some, if◌then◌else◌}
use Rattle.std.specs.Option.{option_map, option_map_or}
use Rattle.swarm_model.specs.Types.{BotDims, NewTask, PoolSettings, Attempt, Chunk, Last, TaskState, TaskRow, BotRow, PoolState, Entry, Reply, Answer}
use Rattle.dimensions.specs.Rules.{is_empty}
use Rattle.task_props.specs.Alike.{same_task}
use Rattle.swarm_model.specs.declared.entry.EntryKind.TheVariants as kind
use Rattle.swarm_model.specs.declared.request.Request.TheVariants as ask
use Rattle.swarm_model.specs.declared.reply.Reply.TheVariants as reply
use Rattle.swarm_model.specs.declared.rule.Rule.TheVariants as rule
use Rattle.swarm_model.specs.Finding.{is_final, task_of, bot_named}
use Rattle.swarm_model.specs.Answers.{answer, entry_at, run, if_named, named_task, is_kept}
use Rattle.swarm_model.specs.Effects.{opening, after, fresh_chunk}
use Rattle.swarm_model.specs.History.{replay, IsCaused}
use Rattle.swarm_model.specs.Soundness.{runner}

-- a task that its caller sends again under its uuid is that task, and adds nothing
abbrev pub NewTaskAgain : Type 0
NewTaskAgain =
    (settings : PoolSettings) (log : List Entry) (moment pass : ℕ) (task : TaskRow)
    → IsCaused (opening settings) log → task_of (replay (opening settings) log) task.no ≡ Some task → IsFalse (is_empty task.request.request_uuid)
    → answer (replay (opening settings) log) task.creator moment pass (ask.New task.request)
    ≡ record { reply = reply.New task.no task.state; entry = None }

-- any other task that its caller sends under that uuid is refused, and adds nothing
abbrev pub UuidIsTaken : Type 0
UuidIsTaken =
    (settings : PoolSettings) (log : List Entry) (moment pass : ℕ) (task : TaskRow) (request : NewTask)
    → IsCaused (opening settings) log → task_of (replay (opening settings) log) task.no ≡ Some task → IsFalse (is_empty task.request.request_uuid)
    → request.request_uuid ≡ task.request.request_uuid → IsFalse (same_task task.request request)
    → answer (replay (opening settings) log) task.creator moment pass (ask.New request)
    ≡ record { reply = reply.No (rule.UuidReused task.no); entry = None }

-- the reply, and the entry that says only that the bot was heard
abbrev pub hears : ℕ → ℕ → BotRow → Reply → Answer
hears moment pass bot answer = record { reply = answer; entry = Some (entry_at moment pass (kind.Contact bot.no)) }

-- a bot of a pool that a log led to, with a task of the pool that it claimed
pub record HasClaimed (s : PoolState) (name : List ℕ) (bot : BotRow) (task : TaskRow) (attempt : Attempt) : Type 0 where
  pub named : bot_named s name ≡ Some bot
  pub there : task_of s task.no ≡ Some task
  pub attempted : (task.attempt ≡ Some attempt) ⊎ (option_map (λ lost. lost.attempt) task.retried ≡ Some attempt)
  pub by_bot : attempt.bot ≡ bot.no

-- the state that the run of a try shows
abbrev pub state_of_try : TaskRow → ℕ → TaskState
state_of_try task try_no = option_map_or (λ row. row.state) (if_named try_no task) task.state

-- a claim under the id of the attempt that the bot runs tells the run again
abbrev pub ClaimAgain : Type 0
ClaimAgain =
    (settings : PoolSettings) (log : List Entry) (who name : List ℕ) (moment pass : ℕ) (bot : BotRow) (task : TaskRow) (attempt : Attempt)
    → IsCaused (opening settings) log → HasClaimed (replay (opening settings) log) name bot task attempt → task.attempt ≡ Some attempt → runner task ≡ Some bot.no
    → answer (replay (opening settings) log) who moment pass (ask.Claim name attempt.claim) ≡ hears moment pass bot (run attempt.try_no task)

-- once its attempt has ended it is refused, and adds nothing
abbrev pub ClaimIsOver : Type 0
ClaimIsOver =
    (settings : PoolSettings) (log : List Entry) (who name : List ℕ) (moment pass : ℕ) (bot : BotRow) (task : TaskRow) (attempt : Attempt)
    → IsCaused (opening settings) log → HasClaimed (replay (opening settings) log) name bot task attempt → IsTrue (is_final (state_of_try task attempt.try_no))
    → answer (replay (opening settings) log) who moment pass (ask.Claim name attempt.claim)
    ≡ record { reply = reply.No (rule.ClaimOver task.no attempt.try_no (state_of_try task attempt.try_no)); entry = None }

-- a handshake with the session that the bot has says only that the bot was heard
abbrev pub HandshakeAgain : Type 0
HandshakeAgain =
    (s : PoolState) (who name session quarantined : List ℕ) (dims : BotDims) (moment pass : ℕ) (bot : BotRow) → bot_named s name ≡ Some bot → bot.session ≡ session
    → answer s who moment pass (ask.Handshake name session dims quarantined) ≡ hears moment pass bot (reply.Shaken name)

-- a report that is taken, of a run that has ended or of no end and no new output, says only that the bot was heard
abbrev pub UpdateAgain : Type 0
UpdateAgain =
    (s : PoolState) (who name : List ℕ) (moment pass t try_no : ℕ) (chunk : Option Chunk) (last : Option Last) (killed : Bool) (bot : BotRow) (task : TaskRow)
    → bot_named s name ≡ Some bot → named_task s t try_no ≡ Some task
    → (answer s who moment pass (ask.Update name t try_no chunk last)).reply ≡ reply.Updated killed
    → IsTrue (is_final task.state) ⊎ ((fresh_chunk task.attempt chunk ≡ None) × (last ≡ None))
    → answer s who moment pass (ask.Update name t try_no chunk last) ≡ hears moment pass bot (reply.Updated killed)

-- once the run has ended, any report but the one that ended it is refused, and adds nothing
abbrev pub UpdateIsOver : Type 0
UpdateIsOver =
    (s : PoolState) (who name : List ℕ) (moment pass t try_no : ℕ) (chunk : Option Chunk) (last : Option Last) (bot : BotRow) (task : TaskRow) (attempt : Attempt)
    → bot_named s name ≡ Some bot → named_task s t try_no ≡ Some task → task.attempt ≡ Some attempt → attempt.bot ≡ bot.no
    → IsTrue (is_final task.state) → IsFalse (is_kept attempt chunk last)
    → answer s who moment pass (ask.Update name t try_no chunk last) ≡ record { reply = reply.No (rule.AttemptOver task.state); entry = None }

-- a bot that was heard: its contact, and its dead mark where it runs a task
abbrev pub contact_only : ℕ → BotRow → BotRow
contact_only moment bot = record bot { contact = moment; dead = if is_some bot.task then false else bot.dead }

-- that a bot was heard changes only that, and the last moment
abbrev pub ContactChanges : Type 0
ContactChanges =
    (s : PoolState) (moment pass b : ℕ)
    → after s (entry_at moment pass (kind.Contact b))
    ≡ record s { last = moment; bots = map (λ bot. if bot.no == b then contact_only moment bot else bot) s.bots }

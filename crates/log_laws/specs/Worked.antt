-- A bot that asks again after lost replies, request by request.
use Rattle.std.specs.Prelude.{◌≡◌, ℕ, false, List, [], ◌∷◌, length, Option, Some, None, pos, codes}
use Rattle.std.specs.Option.{option_map_or}
use Rattle.log_laws.specs.Types.{BotDims, TaskState, Chunk, PoolState, Entry, Request, Reply}
use Rattle.swarm_model.specs.declared.task_state.TaskState.TheVariants.{Pending, Completed, BotDied}
use Rattle.swarm_model.specs.declared.entry.EntryKind.TheVariants as kind
use Rattle.swarm_model.specs.declared.request.Request.TheVariants as ask
use Rattle.swarm_model.specs.declared.rule.Rule.TheVariants as rule
use Rattle.swarm_model.specs.declared.rule.Unfit.TheVariants as unfit
use Rattle.swarm_model.specs.declared.reply.Reply.TheVariants as reply
use Rattle.swarm_model.specs.Answers.{answer, entry_at}
use Rattle.swarm_model.specs.Deadlines.{due_entry}
use Rattle.swarm_model.specs.Effects.{opening, after, attempt_of}
use Rattle.swarm_model.specs.Examples.{settings, small_task, properties, exited_with}
use Rattle.swarm_model.specs.Finding.{task_of}

-- requests, each with its moment
abbrev pub Asks : Type 0
Asks = List (ℕ × Request)

abbrev pub with_entry : PoolState → Option Entry → PoolState
with_entry s None = s
with_entry s (Some entry) = after s entry

-- the pool after the requests of a caller
abbrev pub state_after : PoolState → Asks → PoolState
state_after s [] = s
state_after s (asked ∷ more) = state_after (with_entry s (answer s (codes "ana") asked.0 0 asked.1).entry) more

-- what the caller is told
abbrev pub replies : PoolState → Asks → List Reply
replies s [] = []
replies s (asked ∷ more) = (answer s (codes "ana") asked.0 0 asked.1).reply ∷ replies (with_entry s (answer s (codes "ana") asked.0 0 asked.1).entry) more

abbrev pub bot_1 : List ℕ
bot_1 = codes "bot-1"

abbrev pub dims_1 : BotDims
dims_1 = (codes "id", bot_1 ∷ []) ∷ (codes "pool", codes "default" ∷ []) ∷ []

-- six bytes, with any digest
abbrev pub hello : Chunk
hello = record { start = 0; digest = codes "any"; size = 6 }

-- a task is accepted, and the bot comes and claims it
abbrev pub begun : Asks
begun =
    (1000, ask.New (small_task 600)) ∷ (1001, ask.Handshake bot_1 (codes "1000-1") dims_1 []) ∷ (1002, ask.Poll bot_1 dims_1 [])
    ∷ (1003, ask.Claim bot_1 (codes "1000-1-1")) ∷ []

abbrev pub running : PoolState
running = state_after (opening settings) begun

-- the bot reports its output three times, and its end twice
abbrev pub reports : Asks
reports =
    (1004, ask.Update bot_1 1 1 (Some hello) None) ∷ (1005, ask.Update bot_1 1 1 (Some hello) None) ∷ (1010, ask.Update bot_1 1 1 (Some hello) None)
    ∷ (1012, ask.Update bot_1 1 1 None (Some (exited_with (pos 0)))) ∷ (1018, ask.Update bot_1 1 1 None (Some (exited_with (pos 0)))) ∷ []

abbrev pub length_kept : PoolState → ℕ
length_kept s = option_map_or (λ run. run.length) (attempt_of s 1) 0

abbrev pub chunks_kept : PoolState → ℕ
chunks_kept s = option_map_or (λ run. length run.chunks) (attempt_of s 1) 0

abbrev pub state_of : PoolState → TaskState
state_of s = option_map_or (λ task. task.state) (task_of s 1) Pending

-- each report is taken, and the output and the end are kept once
pub record ReportedAgain : Type 0 where
  pub asked : replies (opening settings) begun ≡ reply.New 1 Pending ∷ reply.Shaken bot_1 ∷ reply.ClaimHint ∷ reply.Run 1 1 0 1200 properties ∷ []
  pub reported : replies running reports ≡ reply.Updated false ∷ reply.Updated false ∷ reply.Updated false ∷ reply.Updated false ∷ reply.Updated false ∷ []
  pub state : state_of (state_after running reports) ≡ Completed
  pub length : length_kept (state_after running reports) ≡ 6
  pub chunks : chunks_kept (state_after running reports) ≡ 1

-- the bot counts as dead from 1603 on, and its run is lost at 2203
abbrev pub dead : PoolState
dead = after running (entry_at 1603 0 (kind.Dead 1))

abbrev pub lost : PoolState
lost = after dead (entry_at 2203 0 (kind.Silence 1))

-- the claim that it sends again at 2300 is over, and it has to shake hands anew
pub record LostTooLong : Type 0 where
  pub first_due : due_entry running 2300 0 ≡ Some (entry_at 1603 0 (kind.Dead 1))
  pub second_due : due_entry dead 2300 0 ≡ Some (entry_at 2203 0 (kind.Silence 1))
  pub none_due : due_entry lost 2300 0 ≡ None
  pub claim : answer lost [] 2300 0 (ask.Claim bot_1 (codes "1000-1-1")) ≡ record { reply = reply.No (rule.ClaimOver 1 1 BotDied); entry = None }
  pub poll : (answer lost [] 2305 0 (ask.Poll bot_1 dims_1 [])).reply ≡ reply.No (rule.BotUnfit unfit.Dead)
  pub state : state_of lost ≡ BotDied
  pub length : length_kept lost ≡ 0

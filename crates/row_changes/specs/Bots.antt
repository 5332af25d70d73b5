-- What an entry does to the rows of the bots, and when a bot counts as dead.
use Rattle.std.specs.Prelude.{ℕ, Bool, ◌+◌, ◌<◌, List, [], ◌∷◌, ◌++◌, map, Option, Some, None, MatchOption, ⊤, if◌then◌else◌}
use Rattle.std.specs.Option.{option_map, option_map_or}
use Rattle.swarm_model.specs.declared.task_state.TaskState.TheVariants.{Running}
use Rattle.swarm_model.specs.declared.task_row.TaskRow.{TaskRow}
use Rattle.swarm_model.specs.declared.bot_row.BotRow.{BotRow}
use Rattle.swarm_model.specs.declared.deadline.Cause.TheVariants as cause
use Rattle.swarm_model.specs.declared.deadline.Deadline.{Deadline}
use Rattle.swarm_model.specs.declared.entry.EntryKind.{EntryKind}
use Rattle.swarm_model.specs.declared.entry.EntryKind.TheVariants as kind
use Rattle.swarm_model.specs.declared.entry.EventKind.{EventKind}
use Rattle.swarm_model.specs.Numbers.{change_at}
use Rattle.swarm_model.specs.Finding.{has_state}
use Rattle.swarm_model.specs.Deadlines.{silence_limit}
use Rattle.swarm_model.specs.Effects.{no_of_bot, runs_task, silent_bot, bot_after, session_row, polled, event_effect}
use Rattle.row_changes.specs.declared.parts.BotParts.{BotParts}
use Rattle.row_changes.specs.declared.parts.BotParts.TheVariants as parts
use Rattle.row_changes.specs.Rows.{row_of}

-- the bot that runs the task is silent
abbrev pub silent_bot_if : ℕ → BotRow → BotRow
silent_bot_if number bot = if runs_task number bot then silent_bot bot else bot

-- the rows with the row of a bot that comes
abbrev pub with_bot : BotRow → List BotRow → List BotRow
with_bot row rows = map (change_at no_of_bot row.no (λ old. row)) rows ++ option_map_or (λ old. []) (row_of no_of_bot row.no rows) (row ∷ [])

-- the rows after an entry of this kind
abbrev pub bots_after : ℕ → EntryKind → List BotRow → List BotRow
bots_after moment (kind.Handshake b id session dims q) rows = with_bot (session_row moment b id session dims q) rows
bots_after moment entry rows = map (bot_after moment entry) rows

-- there is room for a bot that comes for the first time
abbrev pub HasRoomFor : List BotRow → ℕ → ℕ → EntryKind → Type 0
HasRoomFor rows len capacity (kind.Handshake b id session dims q) = MatchOption (row_of no_of_bot b rows) (len < capacity) (λ bot. ⊤)
HasRoomFor rows len capacity entry = ⊤

-- ---- the rows with what is moved into them

abbrev pub with_session : ℕ → ℕ → BotParts → List BotRow → List BotRow
with_session moment number (parts.Session name session dims quarantined) rows = with_bot (session_row moment number name session dims quarantined) rows
with_session moment number other rows = rows

abbrev pub with_changes : ℕ → ℕ → Bool → BotParts → List BotRow → List BotRow
with_changes moment number hint (parts.Changes dims quarantined) rows = map (change_at no_of_bot number (polled moment dims quarantined hint)) rows
with_changes moment number hint other rows = rows

abbrev pub with_message : ℕ → ℕ → EventKind → BotParts → List BotRow → List BotRow
with_message moment number which (parts.Message text) rows = map (change_at no_of_bot number (event_effect moment which text)) rows
with_message moment number which other rows = rows

-- ---- deadlines

-- the deadline of a task that runs, whose bot is this one
abbrev pub silence_of : TaskRow → Option BotRow → Option Deadline
silence_of task runner = if has_state Running task then option_map (silence_limit task) runner else None

-- the deadline of a bot that isn't dead
abbrev pub death_of : ℕ → BotRow → Option Deadline
death_of timeout bot = if bot.dead then None else Some (record { moment = bot.contact + timeout; cause = cause.Bot; number = bot.no })

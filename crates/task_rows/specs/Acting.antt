-- What an entry does to the rows, and what each call needs of it.
use Rattle.std.specs.Prelude.{◌≡◌, ℕ, List, Option, Some, None, ⊤}
use Rattle.std.specs.List.{find}
use Rattle.swarm_model.specs.declared.task_row.TaskRow.{TaskRow}
use Rattle.swarm_model.specs.declared.attempt.Chunk.{Chunk}
use Rattle.swarm_model.specs.declared.pool_state.PoolState.{PoolState}
use Rattle.swarm_model.specs.declared.entry.Entry.{Entry}
use Rattle.swarm_model.specs.declared.entry.EntryKind.{EntryKind}
use Rattle.swarm_model.specs.declared.entry.EntryKind.TheVariants as kind
use Rattle.swarm_model.specs.Finding.{is_task}
use Rattle.swarm_model.specs.Effects.{after, run_of_bot}

-- the row of a number
abbrev pub row_of : List TaskRow → ℕ → Option TaskRow
row_of rows number = find (is_task number) rows

-- the rows after the entry are those of every pool that had the rows before it
abbrev pub IsAfter : List TaskRow → Entry → List TaskRow → Type 0
IsAfter old entry new = (s : PoolState) → s.tasks ≡ old → new ≡ (after s entry).tasks

-- a handshake comes from the bot that runs the task of the number
abbrev pub ComesFromRun : PoolState → ℕ → EntryKind → Type 0
ComesFromRun s number (kind.Handshake b id session dims q) = run_of_bot s b ≡ Some number
ComesFromRun s number entry = ⊤

-- the rows after the entry are those of every such pool that retries so often, and in which the entry belongs to the run
abbrev pub IsAfterRun : ℕ → List TaskRow → ℕ → Entry → List TaskRow → Type 0
IsAfterRun retries old number entry new =
    (s : PoolState) → s.tasks ≡ old → s.settings.retries ≡ retries → ComesFromRun s number entry.kind → new ≡ (after s entry).tasks

-- ---- which entries change the row of a number

abbrev pub AddsRow : ℕ → EntryKind → Type 0
AddsRow number (kind.New t who request state slice from) = t ≡ number
AddsRow number entry = ⊥

abbrev pub Claims : ℕ → EntryKind → Type 0
Claims number (kind.Claim b t claim) = t ≡ number
Claims number entry = ⊥

-- a report after which the run goes on
abbrev pub Reports : ℕ → EntryKind → Type 0
Reports number (kind.Update b t try_no chunk None) = t ≡ number
Reports number entry = ⊥

-- the last report, a silent bot, or a bot that comes with another session
abbrev pub EndsRun : ℕ → EntryKind → Type 0
EndsRun number (kind.Update b t try_no chunk (Some last)) = t ≡ number
EndsRun number (kind.Silence t) = t ≡ number
EndsRun number (kind.Handshake b id session dims q) = ⊤
EndsRun number entry = ⊥

abbrev pub Cancels : ℕ → EntryKind → Type 0
Cancels number (kind.Cancel t) = t ≡ number
Cancels number entry = ⊥

abbrev pub Kills : ℕ → EntryKind → Type 0
Kills number (kind.Kill t) = t ≡ number
Kills number entry = ⊥

abbrev pub EndsSlice : ℕ → EntryKind → Type 0
EndsSlice number (kind.Slice t to) = t ≡ number
EndsSlice number entry = ⊥

-- ---- what an entry needs of the row of a number

abbrev pub chunk_in : EntryKind → Option Chunk
chunk_in (kind.Update b t try_no chunk last) = chunk
chunk_in entry = None

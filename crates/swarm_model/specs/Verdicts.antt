-- How a task ended, read off the log alone.
use Rattle.std.specs.Prelude.{◌≡◌, ℕ, zero, suc, Bool, true, false, not, ◌+◌, ◌==◌, ◌&&◌, ◌||◌, IsTrue, List, [], ◌∷◌, ◌++◌, map, Option, Some, None, slice_get, if◌then◌else◌}
use Rattle.std.specs.List.{list_any, count_by, sum_by}
use Rattle.std.specs.Option.{option_map, option_map_or, option_or, option_and_then}
use Rattle.dimensions.specs.Choosing.{when}
use Rattle.swarm_model.specs.Types.{Slice, TaskState, Pending, Running, BotDied, Canceled, Killed, TaskRow, PoolSettings, Entry, EntryKind}
use Rattle.swarm_model.specs.declared.entry.EntryKind.TheVariants as kind
use Rattle.swarm_model.specs.declared.entry.Outcome.TheVariants as outcome
use Rattle.swarm_model.specs.Words.{◌otherwise◌}
use Rattle.swarm_model.specs.Finding.{is_state, is_final, task_of}
use Rattle.swarm_model.specs.Effects.{opening, reported}
use Rattle.swarm_model.specs.History.{replay, IsCaused, states, tally}

-- ---- what is told of a task

-- the slices of a task and the place that it has come to, and whether a bot claimed it
pub record Told : Type 0 where
  pub slices : List Slice
  pub place : ℕ
  pub claimed : Bool

abbrev pub nothing_told : Told
nothing_told = record { slices = []; place = 0; claimed = false }

-- the bot that claims the task by an entry
abbrev pub claimant : ℕ → EntryKind → Option ℕ
claimant t (kind.Claim b u claim) = when (u == t) b
claimant t entry = None

-- what is told of it after an entry
abbrev pub told_by : ℕ → EntryKind → Told → Told
told_by t (kind.New u who request state slice from) told = if u == t then record told { slices = request.task_slices; place = slice } else told
told_by t (kind.Slice u (outcome.Slice place)) told = if u == t then record told { place = place } else told
told_by t (kind.Claim b u claim) told = if u == t then record told { claimed = true } else told
told_by t entry told = told

-- the slice that was told last is idempotent
abbrev pub is_told_idempotent : Told → Bool
is_told_idempotent told = option_map_or (λ slice. slice.properties.idempotent) (slice_get told.slices told.place) false

-- a run that is lost is tried again, where the pool retries, the task's claim is its only one so far, and the slice is idempotent
abbrev pub may_try_again : ℕ → Told → Bool
may_try_again retries told = retries == 1 && (not told.claimed && is_told_idempotent told)

-- ---- a wait

abbrev pub is_cancel : ℕ → EntryKind → Bool
is_cancel t (kind.Cancel u) = u == t
is_cancel t entry = false

abbrev pub is_cancel_of : ℕ → Entry → Bool
is_cancel_of t entry = is_cancel t entry.kind

-- the state in which a task ends with its last slice
abbrev pub slice_state : ℕ → EntryKind → Option TaskState
slice_state t (kind.Slice u (outcome.Ended state)) = when (u == t) state
slice_state t entry = None

abbrev pub slice_verdict : ℕ → List Entry → Option TaskState
slice_verdict t [] = None
slice_verdict t (entry ∷ entries) = option_or (slice_state t entry.kind) (slice_verdict t entries)

-- how a task stands that waits, or waits again, before these entries, of which none claims it: canceled, or run out
-- of slices, or still waiting
abbrev pub wait_verdict : ℕ → List Entry → TaskState
wait_verdict t entries =
    when (list_any (is_cancel_of t) entries) Canceled
    otherwise slice_verdict t entries
    otherwise Pending

-- ---- a run

-- how an entry ends the run of a task by a bot, where it ends it: with a state that is reported, or lost
abbrev pub run_end : ℕ → ℕ → EntryKind → Option (Option TaskState)
run_end t b (kind.Silence u) = when (u == t) None
run_end t b (kind.Handshake c id session dims q) = when (c == b) None
run_end t b (kind.Update c u try_no chunk last) = option_and_then (λ end. when (u == t) (Some (reported end))) last
run_end t b entry = None

abbrev pub is_kill : ℕ → EntryKind → Bool
is_kill t (kind.Kill u) = u == t
is_kill t entry = false

-- how a task stands whose run has ended: killed, where it was asked to stop before; as it was reported; or, where
-- it was lost, waiting again or ended with its bot
abbrev pub end_verdict : ℕ → Bool → Bool → List Entry → Option TaskState → TaskState
end_verdict t again true entries end = Killed
end_verdict t again false entries (Some state) = state
end_verdict t true false entries None = wait_verdict t entries
end_verdict t false false entries None = BotDied

-- how the run of a task by a bot stands after the entries that follow its claim, where a kill has come or hasn't, and
-- it is tried again where it is lost or isn't
abbrev pub run_verdict : ℕ → ℕ → Bool → Bool → List Entry → TaskState
run_verdict t b again killed [] = Running
run_verdict t b again killed (entry ∷ entries) =
    option_map (end_verdict t again killed entries) (run_end t b entry.kind)
    otherwise run_verdict t b again (killed || is_kill t entry.kind) entries

-- how the last run of a task stands, from its claim on, with what is told of the task before
abbrev pub claim_verdict : ℕ → ℕ → Told → List Entry → Option TaskState
claim_verdict retries t told [] = None
claim_verdict retries t told (entry ∷ entries) =
    option_or (claim_verdict retries t (told_by t entry.kind told) entries)
    (option_map (λ b. run_verdict t b (may_try_again retries told) false entries) (claimant t entry.kind))

-- ---- a task

-- the final state in which an entry accepts the task
abbrev pub state_at_start : ℕ → EntryKind → Option TaskState
state_at_start t (kind.New u who request state slice from) = when (u == t) state
state_at_start t entry = None

abbrev pub final_only : Option TaskState → Option TaskState
final_only None = None
final_only (Some state) = when (is_final state) state

abbrev pub start_verdict : ℕ → List Entry → Option TaskState
start_verdict t [] = None
start_verdict t (entry ∷ entries) = option_or (state_at_start t entry.kind) (start_verdict t entries)

-- the state of a task, from the log alone: final from the start, or as its last run stands, or as its wait does
abbrev pub verdict : PoolSettings → List Entry → ℕ → TaskState
verdict settings log t =
    final_only (start_verdict t log)
    otherwise claim_verdict settings.retries t nothing_told log
    otherwise wait_verdict t log

-- ---- all tasks

abbrev pub is_new_kind : EntryKind → Bool
is_new_kind (kind.New t who request state slice from) = true
is_new_kind entry = false

-- the entry accepts a task
abbrev pub is_new : Entry → Bool
is_new entry = is_new_kind entry.kind

-- so many numbers, from one on
abbrev pub numbers : ℕ → ℕ → List ℕ
numbers first zero = []
numbers first (suc count) = first ∷ numbers (first + 1) count

abbrev pub has_verdict : PoolSettings → List Entry → TaskState → ℕ → Bool
has_verdict settings log state t = is_state (verdict settings log t) state

abbrev pub verdicts_in : PoolSettings → List Entry → TaskState → ℕ
verdicts_in settings log state = count_by (has_verdict settings log state) (numbers 1 (count_by is_new log))

-- how many of the accepted tasks have each verdict
abbrev pub verdict_tally : PoolSettings → List Entry → List ℕ
verdict_tally settings log = map (verdicts_in settings log) states

-- ---- the laws

-- the state of each task is the verdict of the log
abbrev pub VerdictsAreStates : Type 0
VerdictsAreStates =
    (settings : PoolSettings) (log : List Entry) (t : ℕ) (task : TaskRow) → IsCaused (opening settings) log
    → task_of (replay (opening settings) log) t ≡ Some task → verdict settings log t ≡ task.state

-- a task that has ended stays as it is, whatever follows
abbrev pub FinalsStay : Type 0
FinalsStay =
    (settings : PoolSettings) (log more : List Entry) (t : ℕ) (task : TaskRow) → IsCaused (opening settings) (log ++ more)
    → task_of (replay (opening settings) log) t ≡ Some task → IsTrue (is_final task.state)
    → task_of (replay (opening settings) (log ++ more)) t ≡ Some task

-- the tally counts the verdicts
abbrev pub TallyCountsVerdicts : Type 0
TallyCountsVerdicts =
    (settings : PoolSettings) (log : List Entry) → IsCaused (opening settings) log
    → tally (replay (opening settings) log) ≡ verdict_tally settings log

-- and adds up to the accepted tasks
abbrev pub TallyAddsUp : Type 0
TallyAddsUp =
    (settings : PoolSettings) (log : List Entry) → IsCaused (opening settings) log
    → sum_by (λ count. count) (tally (replay (opening settings) log)) ≡ count_by is_new log

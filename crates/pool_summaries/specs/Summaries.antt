-- What is printed of the pools.
use Rattle.std.specs.Prelude.{ℕ, zero, suc, List, [], ◌++◌, length, codes, decimal, get_or, slice_get}
use Rattle.std.specs.Option.{option_map_or}
use Rattle.std.specs.List.{flat_map}
use Rattle.swarm_model.specs.declared.pool_settings.PoolSettings.{PoolSettings}
use Rattle.swarm_model.specs.declared.entry.Entry.{Entry}
use Rattle.swarm_model.specs.declared.task_state.TaskState.{TaskState}
use Rattle.swarm_model.specs.Bases.{Base, front}
use Rattle.swarm_model.specs.Before.{accepted_since, verdict_tally_since}
use Rattle.swarm_model.specs.Finding.{state_place}
use Rattle.swarm_model.specs.History.{states}
use Rattle.swarm_model.specs.States.{state_name}
use Rattle.pool_summaries.specs.declared.summaries.Report.{Report}
use Rattle.pool_summaries.specs.declared.summaries.Report.TheVariants as report

-- the name of a pool, the length of its log with what led to its base, and how many tasks it accepted
unfoldable pub pool_line : List ℕ → ℕ → ℕ → List ℕ
pool_line name entries accepted =
    codes "pool " ++ name ++ codes " entries " ++ decimal entries ++ codes " accepted " ++ decimal accepted ++ codes "\n"

-- how many tasks are in a state
unfoldable pub count_line : TaskState → ℕ → List ℕ
count_line state count = state_name state ++ codes " " ++ decimal count ++ codes "\n"

-- the count of a state in a tally
abbrev pub count_at : List ℕ → TaskState → ℕ
count_at counts state = get_or counts (state_place state) 0

-- the line of each state, in their order
abbrev pub count_lines : List ℕ → List ℕ
count_lines counts = flat_map (λ state. count_line state (count_at counts state)) states

-- the lines of a pool with these settings, of which the base and the log since tell these verdicts
abbrev pub pool_summary : PoolSettings → Base → List Entry → List ℕ
pool_summary pool start log =
    pool_line pool.name (front start log) (accepted_since start.rows log) ++ count_lines (verdict_tally_since start.rows log)

-- the name of a pool, the length of its log with what led to its base, and how many tasks it has
unfoldable pub front_line : List ℕ → ℕ → ℕ → List ℕ
front_line name entries tasks = codes "pool " ++ name ++ codes " front " ++ decimal entries ++ codes " tasks " ++ decimal tasks ++ codes "\n"

-- that line of a pool with these settings
abbrev pub pool_front : PoolSettings → Base → List Entry → List ℕ
pool_front pool start log = front_line pool.name (front start log) (accepted_since start.rows log)

-- what is told of a pool
abbrev pub told_of : Report → PoolSettings → Base → List Entry → List ℕ
told_of report.Summary pool start log = pool_summary pool start log
told_of report.Front pool start log = pool_front pool start log

-- that of the first n pools, whose bases and logs stand at their places
unfoldable pub first_told : Report → List PoolSettings → (ℕ → Base) → (ℕ → List Entry) → ℕ → List ℕ
first_told what pools starts logs zero = []
first_told what pools starts logs (suc n) =
    first_told what pools starts logs n ++ option_map_or (λ pool. told_of what pool (starts n) (logs n)) (slice_get pools n) []

-- and that of all pools
abbrev pub all_told : Report → List PoolSettings → (ℕ → Base) → (ℕ → List Entry) → List ℕ
all_told what pools starts logs = first_told what pools starts logs (length pools)

abbrev pub summary_of : List PoolSettings → (ℕ → Base) → (ℕ → List Entry) → List ℕ
summary_of pools starts logs = all_told report.Summary pools starts logs

abbrev pub fronts_of : List PoolSettings → (ℕ → Base) → (ℕ → List Entry) → List ℕ
fronts_of pools starts logs = all_told report.Front pools starts logs

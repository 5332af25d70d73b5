-- Whether a row, for itself, may stand in a base.
use Rattle.std.specs.Prelude.{ℕ, Bool, true, ◌+◌, ◌-◌, ◌^◌, ◌==◌, ◌&&◌, nat_le, nat_lt, length}
use Rattle.std.specs.List.{list_all}
use Rattle.std.specs.Option.{option_map_or}
use Rattle.base_checks.specs.Types.{BlobRow, TaskRow, BotRow, PoolState}
use Rattle.blob_rows.specs.BlobRows.{units_of}
use Rattle.swarm_model.specs.declared.pool_settings.PoolSettings.{PoolSettings}
use Rattle.swarm_model.specs.declared.request.Request.TheVariants as ask
use Rattle.swarm_model.specs.Words.{is_between}
use Rattle.swarm_model.specs.Fits.{fits, is_blob_size}
use Rattle.swarm_model.specs.Blobs.{most_blobs}
use Rattle.swarm_model.specs.Soundness.{fits_state}
use Rattle.swarm_model.specs.StateWeight.{state_weight}
use Rattle.base_checks.specs.Runs.{is_right_attempt, is_right_loss}

-- ---- the pool as a whole

-- the moment, the count and the number of blobs are none too great
abbrev pub has_right_counts : ℕ → PoolState → Bool
has_right_counts count s = nat_le s.last (2 ^ 40) && (nat_le s.placed count && nat_le count (2 ^ 31))

-- there are no more rows than the pool takes
abbrev pub has_few_rows : PoolState → Bool
has_few_rows s =
    nat_le (length s.tasks) s.settings.most_tasks && (nat_le (length s.bots) s.settings.most_bots && nat_le (length s.blobs) most_blobs)

-- they weigh no more than the pool's log may
abbrev pub is_light : PoolState → Bool
is_light s = nat_le (state_weight s) s.settings.most_weight

abbrev pub is_within_limits : ℕ → PoolState → Bool
is_within_limits count s = has_right_counts count s && (has_few_rows s && is_light s)

-- ---- tasks

-- the task was created, came to its slice and ended no later than the moment
abbrev pub has_right_moments : ℕ → TaskRow → Bool
has_right_moments moment task =
    nat_le task.created moment && (nat_le task.since moment && option_map_or (λ ended. nat_le ended moment) task.ended true)

-- its run and the one that was lost
abbrev pub has_right_runs : ℕ → ℕ → ℕ → TaskRow → Bool
has_right_runs retries moment bots task =
    option_map_or (is_right_attempt moment bots task.retried) task.attempt true
    && option_map_or (is_right_loss retries moment bots task.request.task_slices) task.retried true

-- the pool may be asked for the task, which has come to one of its slices
abbrev pub is_right_request : PoolSettings → TaskRow → Bool
is_right_request settings task = fits settings (ask.New task.request) && nat_lt task.slice (length task.request.task_slices)

abbrev pub is_right_task : PoolSettings → ℕ → ℕ → TaskRow → Bool
is_right_task settings moment bots task =
    is_right_request settings task
    && (has_right_moments moment task && (fits_state task && has_right_runs settings.retries moment bots task))

-- ---- bots

-- the bot was heard no later than the moment, may come to the pool, and runs one of so many tasks, if any
abbrev pub is_right_bot : PoolSettings → ℕ → ℕ → BotRow → Bool
is_right_bot settings moment tasks bot =
    (nat_le bot.contact moment && nat_le bot.streak 63)
    && (fits settings (ask.Handshake bot.name bot.session bot.dims bot.quarantined) && option_map_or (is_between 1 tasks) bot.task true)

-- ---- blobs

-- the blob has the units that its size takes, inside the region
abbrev pub has_right_extent : PoolSettings → BlobRow → Bool
has_right_extent settings blob =
    is_blob_size blob.size
    && (blob.extent.units == units_of blob.size && nat_le (blob.extent.at + blob.extent.units) settings.store_units)

-- it has a number that was given, and a deadline at most a life after the moment
abbrev pub is_right_blob : PoolSettings → ℕ → ℕ → BlobRow → Bool
is_right_blob settings moment placed blob =
    has_right_extent settings blob && (is_between 1 placed blob.no && nat_le (blob.deadline - moment) settings.blob_life_secs)

-- ---- all rows

abbrev pub have_right_rows : PoolState → Bool
have_right_rows s =
    list_all (is_right_task s.settings s.last (length s.bots)) s.tasks
    && (list_all (is_right_bot s.settings s.last (length s.tasks)) s.bots
    && list_all (is_right_blob s.settings s.last s.placed) s.blobs)

-- What a reader is shown of the rows.
use Rattle.std.specs.Prelude.{ℕ, ℤ, pos, List, [], Option, Some, None}
use Rattle.std.specs.Option.{option_map, option_map_or, option_and_then}
use Rattle.swarm_model.specs.Types.{Text, File, Attempt, Last, TaskRow, PoolState, BotRow, TaskView}
use Rattle.swarm_model.specs.declared.bot_view.BotView.{BotView}
use Rattle.swarm_model.specs.Finding.{task_of, bot_of}

-- the last update of a task's run
abbrev pub last_of : TaskRow → Option Last
last_of task = option_and_then (λ attempt. attempt.last) task.attempt

-- the task whose run made the output that this task shows: its own, or that of its source
abbrev pub shown_from : PoolState → TaskRow → Option TaskRow
shown_from s task = option_map_or (task_of s) task.source (Some task)

abbrev pub attempt_shown : PoolState → TaskRow → Option Attempt
attempt_shown s task = option_and_then (λ row. row.attempt) (shown_from s task)

-- a run is named by its task and its try
abbrev pub run_of : TaskRow → Option (ℕ × ℕ)
run_of task = option_map (λ attempt. (task.no, attempt.try_no)) task.attempt

-- a task that took another's outcome ended as that did, with 0
abbrev pub exit_code_of : TaskRow → Option ℤ
exit_code_of task = option_map_or (λ number. Some (pos 0)) task.source (option_map (λ last. last.exit_code) (last_of task))

abbrev pub files_of : Option Last → List File
files_of None = []
files_of (Some last) = last.files

abbrev pub bot_name_of : PoolState → Attempt → Option Text
bot_name_of s attempt = option_map (λ bot. bot.name) (bot_of s attempt.bot)

-- a task
abbrev pub view_of : PoolState → TaskRow → TaskView
view_of s task =
    record {
      bot_id = option_and_then (bot_name_of s) task.attempt;
      completed_ts = task.ended;
      created_ts = task.created;
      current_task_slice = task.slice;
      deduped_from = option_and_then run_of (option_and_then (task_of s) task.source);
      dropped = option_map (λ last. last.dropped) (last_of task);
      duration_ms = option_map (λ last. last.duration_ms) (last_of task);
      exit_code = exit_code_of task;
      files = files_of (last_of task);
      name = task.request.name;
      output_length = option_map_or (λ attempt. attempt.length) (attempt_shown s task) 0;
      priority = task.request.priority;
      run_id = run_of task;
      started_ts = option_map (λ attempt. attempt.begun) task.attempt;
      state = task.state;
      task_id = task.no;
      user = task.creator;
    }

-- a bot
abbrev pub bot_view_of : PoolState → BotRow → BotView
bot_view_of s bot =
    record {
      bot_id = bot.name;
      dimensions = bot.dims;
      is_dead = bot.dead;
      last_seen_ts = bot.contact;
      quarantined = bot.quarantined;
      task_id = option_and_then run_of (option_and_then (task_of s) bot.task);
      terminating = bot.terminating;
    }

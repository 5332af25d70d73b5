-- What is shown of a task and of a bot.
use Rattle.std.specs.Prelude.{ℕ, codes}
use Rattle.serde_json.specs.Data.{Data, boolean, string, object, Members, member, no_members}
use Rattle.json_values.specs.Values.{whole, signed, or_null, list_data}
use Rattle.swarm_model.specs.declared.task_view.TaskView.{TaskView}
use Rattle.swarm_model.specs.declared.bot_view.BotView.{BotView}
use Rattle.swarm_model.specs.States.{state_name}
use Rattle.json_fields.specs.Ids.{task_id, run_id}
use Rattle.reply_bodies.specs.Items.{bot_pair_data, file_data}

abbrev pub run_data : ℕ → ℕ × ℕ → Data
run_data place run = string (run_id place run)

-- the members from `files` on
unfoldable pub last_members : ℕ → TaskView → Members
last_members place task =
    member (codes "files") (list_data file_data task.files)
    (member (codes "name") (string task.name)
    (member (codes "output_length") (whole task.output_length)
    (member (codes "priority") (whole task.priority)
    (member (codes "run_id") (or_null (run_data place) task.run_id)
    (member (codes "started_ts") (or_null whole task.started_ts)
    (member (codes "state") (string (state_name task.state))
    (member (codes "task_id") (string (task_id place task.task_id))
    (member (codes "user") (string task.user) no_members))))))))

-- a task of the pool at a place
unfoldable pub task_members : ℕ → TaskView → Members
task_members place task =
    member (codes "bot_id") (or_null string task.bot_id)
    (member (codes "completed_ts") (or_null whole task.completed_ts)
    (member (codes "created_ts") (whole task.created_ts)
    (member (codes "current_task_slice") (whole task.current_task_slice)
    (member (codes "deduped_from") (or_null (run_data place) task.deduped_from)
    (member (codes "dropped") (or_null whole task.dropped)
    (member (codes "duration_ms") (or_null whole task.duration_ms)
    (member (codes "exit_code") (or_null signed task.exit_code)
    (last_members place task))))))))

abbrev pub task_data : ℕ → TaskView → Data
task_data place task = object (task_members place task)

-- a bot of the pool at a place
unfoldable pub bot_members : ℕ → BotView → Members
bot_members place bot =
    member (codes "bot_id") (string bot.bot_id)
    (member (codes "dimensions") (list_data bot_pair_data bot.dimensions)
    (member (codes "is_dead") (boolean bot.is_dead)
    (member (codes "last_seen_ts") (whole bot.last_seen_ts)
    (member (codes "quarantined") (string bot.quarantined)
    (member (codes "task_id") (or_null (run_data place) bot.task_id)
    (member (codes "terminating") (boolean bot.terminating) no_members))))))

abbrev pub bot_data : ℕ → BotView → Data
bot_data place bot = object (bot_members place bot)

-- What the command of a client does at a server: the grammar of each, its values, and how they are read.
use Rattle.std.specs.Prelude.{◌≤◌, ⊤, ℕ, Bool, List, codes, Option, None, if◌then◌else◌, option_map, string_bytes}
use Rattle.std.specs.Str.{bytes_eq}
use Rattle.clap.specs.Words.{App, Row, Text, first_of, new_app, with_rule, with_subcommand}
use Rattle.command_words.specs.Rules.{default_rule, flag_rule, number_rule, place_rule, required_rule, with_server}
use Rattle.command_words.specs.Values.{both_of, flag_at, number_at}
use Rattle.command_words.specs.declared.client_work.ClientWork.{ClientWork}
use Rattle.command_words.specs.declared.client_work.ClientWork.TheVariants as work

-- ---- the grammars

abbrev pub trigger_app : App
trigger_app = with_rule (with_server (new_app (codes "trigger"))) (place_rule (codes "FILE"))

-- a command with how often a result is asked for, and the seconds between
abbrev pub with_polls : App → App
with_polls a = with_rule (with_rule a
    (number_rule (codes "polls") 1 100000 (codes "1000")))
    (number_rule (codes "every") 0 60 (codes "5"))

abbrev pub collect_app : App
collect_app = with_rule (with_polls (with_server (new_app (codes "collect")))) (place_rule (codes "ID"))

abbrev pub cancel_app : App
cancel_app = with_rule (with_rule (with_server (new_app (codes "cancel")))
    (flag_rule (codes "kill")))
    (place_rule (codes "ID"))

abbrev pub spawn_tasks_app : App
spawn_tasks_app = with_rule (with_rule (with_server (new_app (codes "spawn-tasks")))
    (required_rule (codes "name")))
    (place_rule (codes "FILE"))

abbrev pub collect_batch_app : App
collect_batch_app = with_rule (with_polls (with_server (new_app (codes "collect-batch")))) (place_rule (codes "FILE"))

abbrev pub tasks_app : App
tasks_app = with_rule (with_rule (with_rule (with_server (new_app (codes "tasks")))
    (required_rule (codes "pool")))
    (default_rule (codes "state") (codes "ALL")))
    (number_rule (codes "limit") 1 200 (codes "50"))

abbrev pub bots_app : App
bots_app = with_rule (with_rule (with_server (new_app (codes "bots")))
    (required_rule (codes "pool")))
    (number_rule (codes "limit") 1 200 (codes "50"))

-- a program with the subcommands that ask about one task
abbrev pub with_tasks : App → App
with_tasks a = with_subcommand (with_subcommand (with_subcommand a trigger_app.top) collect_app.top) cancel_app.top

-- and with those of batches
abbrev pub with_batches : App → App
with_batches a = with_subcommand (with_subcommand (with_tasks a) spawn_tasks_app.top) collect_batch_app.top

-- and with those that list
abbrev pub with_clients : App → App
with_clients a = with_subcommand (with_subcommand (with_batches a) tasks_app.top) bots_app.top

-- ---- the values

-- what is done, with its texts as bytes
pub data WorkValue : Type 0 where
  -- file
  trigger : Text → WorkValue
  -- polls, every, id
  collect : ℕ → ℕ → Text → WorkValue
  -- kill, id
  cancel : Bool → Text → WorkValue
  -- name, file
  spawn_tasks : Text → Text → WorkValue
  -- polls, every, file
  collect_batch : ℕ → ℕ → Text → WorkValue
  -- pool, state, limit
  tasks : Text → Text → ℕ → WorkValue
  -- pool, limit
  bots : Text → ℕ → WorkValue

abbrev pub work_of : ClientWork → WorkValue
work_of (work.Trigger file) = trigger (string_bytes file)
work_of (work.Collect polls every id) = collect polls every (string_bytes id)
work_of (work.Cancel kill id) = cancel kill (string_bytes id)
work_of (work.SpawnTasks name file) = spawn_tasks (string_bytes name) (string_bytes file)
work_of (work.CollectBatch polls every file) = collect_batch polls every (string_bytes file)
work_of (work.Tasks pool state limit) = tasks (string_bytes pool) (string_bytes state) limit
work_of (work.Bots pool limit) = bots (string_bytes pool) limit

-- each number lies in its range
abbrev pub HasWorkRanges : WorkValue → Type 0
HasWorkRanges (trigger file) = ⊤
HasWorkRanges (collect polls every id) = (1 ≤ polls) × (polls ≤ 100000) × (every ≤ 60)
HasWorkRanges (cancel kill id) = ⊤
HasWorkRanges (spawn_tasks name file) = ⊤
HasWorkRanges (collect_batch polls every file) = (1 ≤ polls) × (polls ≤ 100000) × (every ≤ 60)
HasWorkRanges (tasks pool state limit) = (1 ≤ limit) × (limit ≤ 200)
HasWorkRanges (bots pool limit) = (1 ≤ limit) × (limit ≤ 200)

-- ---- how they are read

abbrev pub trigger_in : List Row → Option WorkValue
trigger_in rows = option_map (λ file. trigger file) (first_of (codes "FILE") rows)

-- how often a result is asked for, and the seconds between
abbrev pub polls_in : List Row → Option (ℕ × ℕ)
polls_in rows = both_of (number_at (codes "polls") 1 100000 rows) (number_at (codes "every") 0 60 rows)

abbrev pub collect_in : List Row → Option WorkValue
collect_in rows = option_map (λ p. collect p.0.0 p.0.1 p.1) (both_of (polls_in rows) (first_of (codes "ID") rows))

abbrev pub cancel_in : List Row → Option WorkValue
cancel_in rows = option_map (λ id. cancel (flag_at (codes "kill") rows) id) (first_of (codes "ID") rows)

abbrev pub spawn_tasks_in : List Row → Option WorkValue
spawn_tasks_in rows = option_map (λ p. spawn_tasks p.0 p.1) (both_of (first_of (codes "name") rows) (first_of (codes "FILE") rows))

abbrev pub collect_batch_in : List Row → Option WorkValue
collect_batch_in rows = option_map (λ p. collect_batch p.0.0 p.0.1 p.1) (both_of (polls_in rows) (first_of (codes "FILE") rows))

abbrev pub tasks_in : List Row → Option WorkValue
tasks_in rows = option_map (λ p. tasks p.0.0 p.0.1 p.1)
    (both_of (both_of (first_of (codes "pool") rows) (first_of (codes "state") rows)) (number_at (codes "limit") 1 200 rows))

abbrev pub bots_in : List Row → Option WorkValue
bots_in rows = option_map (λ p. bots p.0 p.1) (both_of (first_of (codes "pool") rows) (number_at (codes "limit") 1 200 rows))

-- what a subcommand of this name does, by what its words gave
abbrev pub work_in : Text → List Row → Option WorkValue
work_in name rows =
    if bytes_eq name (codes "trigger") then trigger_in rows
    else (if bytes_eq name (codes "collect") then collect_in rows
    else (if bytes_eq name (codes "cancel") then cancel_in rows
    else (if bytes_eq name (codes "spawn-tasks") then spawn_tasks_in rows
    else (if bytes_eq name (codes "collect-batch") then collect_batch_in rows
    else (if bytes_eq name (codes "tasks") then tasks_in rows
    else (if bytes_eq name (codes "bots") then bots_in rows
    else None))))))

-- The commands of a client.
use Rattle.std.specs.Prelude.{ℕ, zero, suc, ◌+◌, ◌-◌, ◌/◌, min, ℤ, Bool, true, false, List, ◌++◌, length, take, codes, Option, is_some, not, Some, None, Ok, Err, if◌then◌else◌, vec_items}
use Rattle.std.specs.List.{flat_map}
use Rattle.std.specs.Fmt.{decimal, signed_decimal}
use Rattle.dimensions.specs.Rules.{is_empty}
use Rattle.sw_base.specs.declared.file_fault.FileFault.TheVariants as fault
use Rattle.swarm_model.specs.declared.reply.Reply.{Reply}
use Rattle.swarm_model.specs.declared.reply.Reply.TheVariants as reply
use Rattle.swarm_model.specs.declared.task_state.TaskState.{TaskState}
use Rattle.swarm_model.specs.declared.task_view.TaskView.{TaskView}
use Rattle.swarm_model.specs.declared.bot_view.BotView.{BotView}
use Rattle.swarm_model.specs.Finding.{is_final}
use Rattle.swarm_model.specs.States.{state_name}
use Rattle.json_fields.specs.Ids.{task_id, run_id}
use Rattle.client_commands.specs.declared.server.Server.{Server}
use Rattle.client_commands.specs.Requests.{Call, new_task_call, cancel_call, result_call, stdout_call, tasks_call, bots_call}
use Rattle.client_commands.specs.Plans.{Plan, end, say, wait, ask, load, Loaded, after, World, Follows}

-- ---- columns

abbrev pub spaces : List ℕ
spaces = codes "                        "

-- a text and behind it the spaces that it lacks of a width of at most 24
abbrev pub left_in : ℕ → List ℕ → List ℕ
left_in width text = text ++ take (width - length text) spaces

-- the same, with the spaces in front
abbrev pub right_in : ℕ → List ℕ → List ℕ
right_in width text = take (width - length text) spaces ++ text

-- ---- one exchange, and a text

-- what follows what a reply tells; a reply that tells nothing here counts as none
abbrev pub or_no_reply : {A : Type 0} → (A → Plan) → Option A → Plan
or_no_reply next None = end 9
or_no_reply next (Some a) = next a

-- the text of a reply is printed, and that is all
abbrev pub printed : Option (List ℕ) → Plan
printed text = or_no_reply (λ t. say t (end 0)) text

abbrev pub once : Call → (ℕ → Reply → Option (List ℕ)) → Plan
once call text = ask call (after (λ place reply bytes. printed (text place reply)))

abbrev pub new_text : ℕ → ℕ → TaskState → List ℕ
new_text place task state = codes "task " ++ (task_id place task ++ (codes " " ++ (state_name state ++ codes "\n")))

abbrev pub new_line : ℕ → Reply → Option (List ℕ)
new_line place (reply.New task state) = Some (new_text place task state)
new_line place other = None

abbrev pub flag_word : Bool → List ℕ
flag_word true = codes "true"
flag_word false = codes "false"

abbrev pub canceled_text : Bool → Bool → List ℕ
canceled_text canceled was_running = codes "canceled " ++ (flag_word canceled ++ (codes " was_running " ++ (flag_word was_running ++ codes "\n")))

abbrev pub cancel_line : ℕ → Reply → Option (List ℕ)
cancel_line place (reply.Canceled canceled was_running) = Some (canceled_text canceled was_running)
cancel_line place other = None

unfoldable pub task_line : ℕ → TaskView → List ℕ
task_line place task =
    left_in 8 (task_id place task.task_id) ++ (left_in 12 (state_name task.state) ++ (right_in 3 (decimal task.priority) ++ (codes " " ++ (task.name ++ codes "\n"))))

abbrev pub task_lines : ℕ → Reply → Option (List ℕ)
task_lines place (reply.Tasks items cursor) = Some (flat_map (task_line place) items)
task_lines place other = None

-- the first of these that holds
abbrev pub bot_word : BotView → List ℕ
bot_word bot =
    if bot.is_dead then codes "dead"
    else if not (is_empty bot.quarantined) then codes "quarantined"
    else if bot.terminating then codes "terminating"
    else if is_some bot.task_id then codes "busy"
    else codes "idle"

-- the id of the run that a bot has
abbrev pub run_word : ℕ → Option (ℕ × ℕ) → List ℕ
run_word place None = codes "-"
run_word place (Some run) = run_id place run

unfoldable pub bot_line : ℕ → BotView → List ℕ
bot_line place bot = left_in 24 bot.bot_id ++ (left_in 12 (bot_word bot) ++ (run_word place bot.task_id ++ codes "\n"))

abbrev pub bot_lines : ℕ → Reply → Option (List ℕ)
bot_lines place (reply.Bots items cursor) = Some (flat_map (bot_line place) items)
bot_lines place other = None

-- ---- the commands of one exchange

abbrev pub canceling : List ℕ → Bool → Plan
canceling id kill = once (cancel_call id kill) cancel_line

abbrev pub listing_tasks : List ℕ → Option TaskState → ℕ → Plan
listing_tasks pool state limit = once (tasks_call pool state limit) task_lines

abbrev pub listing_bots : List ℕ → ℕ → Plan
listing_bots pool limit = once (bots_call pool limit) bot_lines

-- the line for a setting, an option or a file that is refused: its place, and the rule
abbrev pub settings_line : List ℕ → List ℕ → List ℕ
settings_line place rule = codes "settings " ++ (place ++ (codes " " ++ (rule ++ codes "\n")))

-- a file is refused, by a rule
abbrev pub refusing : List ℕ → List ℕ → Plan
refusing path rule = say (settings_line path rule) (end 3)

-- what follows the load of a file: its bytes, or what is done where there is none, or where it is too long; a fault of the files has status 4, and want of memory 5
abbrev pub once_loaded : Plan → Plan → (List ℕ → Plan) → Loaded → Plan
once_loaded absent long next (Ok (Some text)) = next (vec_items text)
once_loaded absent long next (Ok None) = absent
once_loaded absent long next (Err fault.TooLong) = long
once_loaded absent long next (Err fault.Failed) = end 4
once_loaded absent long next (Err fault.Memory) = end 5

-- a file of at most 65536 bytes is loaded, and its bytes are posted as they are
abbrev pub triggering : List ℕ → Plan
triggering path = load path 65536 (once_loaded (refusing path (codes "absent")) (refusing path (codes "count")) (λ text. once (new_task_call text) new_line))

-- ---- the result of a task, and its output

abbrev pub exit_word : Option ℤ → List ℕ
exit_word None = codes "-"
exit_word (Some code) = signed_decimal code

unfoldable pub result_line : List ℕ → TaskView → List ℕ
result_line id task = id ++ (codes " " ++ (state_name task.state ++ (codes " exit " ++ (exit_word task.exit_code ++ codes "\n"))))

-- how many pieces of 65536 bytes the output has below its length and below 67108864
abbrev pub pieces_of : ℕ → ℕ
pieces_of length = (min length 67108864 + 65535) / 65536

abbrev pub is_output : Reply → Bool
is_output (reply.Stdout state parts) = true
is_output other = false

-- the bytes of a piece are printed
abbrev pub fetched : Plan → ℕ → Reply → List ℕ → Plan
fetched next place answer bytes = if is_output answer then say bytes next else end 9

-- so many pieces are asked from an offset on, each printed before the next is asked
abbrev pub fetching : List ℕ → ℕ → ℕ → Plan
fetching id zero offset = end 0
fetching id (suc n) offset = ask (stdout_call id offset) (after (fetched (fetching id n (offset + 65536))))

-- the line of the result, and then the whole output
abbrev pub delivering : List ℕ → TaskView → Plan
delivering id task = say (result_line id task) (fetching id (pieces_of task.output_length) 0)

-- the task that a reply tells
abbrev pub task_in : Reply → Option TaskView
task_in (reply.Result task) = Some task
task_in other = None

abbrev pub viewed : (TaskView → Plan) → ℕ → Reply → List ℕ → Plan
viewed next place answer bytes = or_no_reply next (task_in answer)

abbrev pub polling : List ℕ → (TaskView → Plan) → Plan
polling id next = ask (result_call id) (after (viewed next))

-- a wait stands between two polls
abbrev pub pause : ℕ → ℕ → Plan → Plan
pause every zero next = next
pause every (suc left) next = wait every next

-- the task is asked for at most so many times, until its state is final, and then something follows
abbrev pub awaiting : List ℕ → ℕ → (TaskView → Plan) → ℕ → Plan
awaiting id every next zero = end 8
awaiting id every next (suc left) = polling id (λ task. if is_final task.state then next task else pause every left (awaiting id every next left))

abbrev pub collecting : List ℕ → ℕ → ℕ → Plan
collecting id every polls = awaiting id every (delivering id) polls

-- ---- what each command promises

abbrev pub Triggers : Server → List ℕ → World → World → ℕ → Type 0
Triggers server path w v status = Follows server (triggering path) w v status

abbrev pub Cancels : Server → List ℕ → Bool → World → World → ℕ → Type 0
Cancels server id kill w v status = Follows server (canceling id kill) w v status

abbrev pub ListsTasks : Server → List ℕ → Option TaskState → ℕ → World → World → ℕ → Type 0
ListsTasks server pool state limit w v status = Follows server (listing_tasks pool state limit) w v status

abbrev pub ListsBots : Server → List ℕ → ℕ → World → World → ℕ → Type 0
ListsBots server pool limit w v status = Follows server (listing_bots pool limit) w v status

abbrev pub Collects : Server → List ℕ → ℕ → ℕ → World → World → ℕ → Type 0
Collects server id polls every w v status = Follows server (collecting id every polls) w v status

-- No float is shown.
use Rattle.std.proofs.Common.{◌≡◌, ℕ, List, [], ◌∷◌, false, refl}
use Rattle.std.specs.Prelude.{ℤ, pos, negsuc, map, Option, Some, None}
use Rattle.serde_json.specs.Data.{Data, string, object}
use Rattle.serde_json.specs.View.{items_of}
use Rattle.serde_json.specs.Written.{has_float, items_have_float, members_have_float}
use Rattle.task_props.specs.declared.file.File.{File}
use Rattle.task_props.specs.declared.properties.Properties.{Properties}
use Rattle.swarm_model.specs.declared.task_view.TaskView.{TaskView}
use Rattle.swarm_model.specs.declared.bot_view.BotView.{BotView}
use Rattle.swarm_model.specs.declared.rule.Rule.{Rule}
use Rattle.swarm_model.specs.declared.rule.Rule.TheVariants as rule
use Rattle.swarm_model.specs.declared.reply.Reply.{Reply}
use Rattle.swarm_model.specs.declared.reply.Reply.TheVariants as reply
use Rattle.task_props.proofs.NoFloats.{properties_are_plain}
use Rattle.json_values.specs.Values.{whole, signed, or_null}
use Rattle.reply_bodies.specs.Items.{pair_data, bot_pair_data, cache_data, file_data, blob_data}
use Rattle.reply_bodies.specs.Views.{run_data, last_members, task_members, task_data, bot_members, bot_data}
use Rattle.reply_bodies.specs.Commands.{run_properties, run_members}
use Rattle.reply_bodies.specs.Refusals.{refusal_members}
use Rattle.reply_bodies.specs.Bodies.{number_data, reply_members}

refusal_is_plain : (place : ℕ) (why : Rule) → members_have_float (refusal_members place why) ≡ false
refusal_is_plain place rule.BadHead = refl
refusal_is_plain place rule.LengthRequired = refl
refusal_is_plain place (rule.TooLarge limit) = refl
refusal_is_plain place rule.NoRoute = refl
refusal_is_plain place rule.BadMethod = refl
refusal_is_plain place rule.BadJson = refl
refusal_is_plain place (rule.BadField field broken) = refl
refusal_is_plain place rule.NoCaller = refl
refusal_is_plain place (rule.Denied permission pool) = refl
refusal_is_plain place rule.NoPool = refl
refusal_is_plain place rule.NoTask = refl
refusal_is_plain place rule.NoBot = refl
refusal_is_plain place (rule.UuidReused task) = refl
refusal_is_plain place (rule.BotUnfit why) = refl
refusal_is_plain place (rule.BotBusy task try_no) = refl
refusal_is_plain place (rule.ClaimOver task try_no state) = refl
refusal_is_plain place (rule.NotClaimant bot) = refl
refusal_is_plain place (rule.AttemptOver state) = refl
refusal_is_plain place (rule.OutputGap length) = refl
refusal_is_plain place (rule.OutputOverlap start) = refl
refusal_is_plain place (rule.BlobMissing digest) = refl
refusal_is_plain place (rule.DigestDiffers actual) = refl
refusal_is_plain place (rule.StoreFull names size) = refl
refusal_is_plain place (rule.PoolTasksFull limit) = refl
refusal_is_plain place (rule.PoolBotsFull limit) = refl
refusal_is_plain place rule.LogFull = refl
refusal_is_plain place rule.KeeperFault = refl
refusal_is_plain place (rule.FrontAhead length) = refl
refusal_is_plain place rule.WantOfMemory = refl
refusal_is_plain place (rule.OutputGone digest) = refl

or_null_is_plain : {A : Type 0} (show : A → Data) → ((a : A) → has_float (show a) ≡ false) → (o : Option A) → has_float (or_null show o) ≡ false
or_null_is_plain show h None = refl
or_null_is_plain show h (Some a) = h a

signed_is_plain : (z : ℤ) → has_float (signed z) ≡ false
signed_is_plain (pos n) = refl
signed_is_plain (negsuc n) = refl

file_is_plain : (file : File) → has_float (file_data file) ≡ false
file_is_plain file = refl

plain_items : {A : Type 0} (show : A → Data) → ((a : A) → has_float (show a) ≡ false) → (list : List A) → items_have_float (items_of (map show list)) ≡ false
plain_items show h [] = refl
plain_items show h (a ∷ list) = rw (h a, plain_items show h list) refl

files_are_plain : (files : List File) → items_have_float (items_of (map file_data files)) ≡ false
files_are_plain files = plain_items file_data file_is_plain files

last_are_plain : (place : ℕ) (task : TaskView) → members_have_float (last_members place task) ≡ false
unfolding last_members
last_are_plain place task =
    rw (files_are_plain task.files, or_null_is_plain (run_data place) (λ _. refl) task.run_id, or_null_is_plain whole (λ _. refl) task.started_ts) refl

task_is_plain : (place : ℕ) (task : TaskView) → members_have_float (task_members place task) ≡ false
unfolding task_members
task_is_plain place task =
    rw (
      or_null_is_plain string (λ _. refl) task.bot_id,
      or_null_is_plain whole (λ _. refl) task.completed_ts,
      or_null_is_plain (run_data place) (λ _. refl) task.deduped_from,
      or_null_is_plain whole (λ _. refl) task.dropped,
      or_null_is_plain whole (λ _. refl) task.duration_ms,
      or_null_is_plain signed signed_is_plain task.exit_code,
      last_are_plain place task,
    ) refl

tasks_are_plain : (place : ℕ) (tasks : List TaskView) → items_have_float (items_of (map (task_data place) tasks)) ≡ false
tasks_are_plain place tasks = plain_items (task_data place) (task_is_plain place) tasks

bot_pair_is_plain : (pair : List ℕ × List (List ℕ)) → has_float (bot_pair_data pair) ≡ false
bot_pair_is_plain pair = rw (plain_items string (λ _. refl) pair.1) refl

bot_is_plain : (place : ℕ) (bot : BotView) → members_have_float (bot_members place bot) ≡ false
unfolding bot_members
bot_is_plain place bot =
    rw (plain_items bot_pair_data bot_pair_is_plain bot.dimensions, or_null_is_plain (run_data place) (λ _. refl) bot.task_id) refl

bots_are_plain : (place : ℕ) (bots : List BotView) → items_have_float (items_of (map (bot_data place) bots)) ≡ false
bots_are_plain place bots = plain_items (bot_data place) (bot_is_plain place) bots

run_properties_are_plain : (p : Properties) → has_float (run_properties p) ≡ false
run_properties_are_plain p =
    properties_are_plain _ _ _ _
    (plain_items cache_data (λ _. refl) p.caches)
    (plain_items pair_data (λ _. refl) p.dimensions)
    (plain_items pair_data (λ _. refl) p.env)
    (files_are_plain p.inputs)
    p

run_is_plain : (place : ℕ) (run : ℕ × ℕ) (slice tolerance : ℕ) (properties : Properties) → members_have_float (run_members place run slice tolerance properties) ≡ false
unfolding run_members
run_is_plain place run slice tolerance properties = rw (run_properties_are_plain properties) refl

reply_are_plain : (place : ℕ) (r : Reply) (pieces : List (List ℕ)) → members_have_float (reply_members place r pieces) ≡ false
reply_are_plain place (reply.New task state) pieces = refl
reply_are_plain place (reply.Canceled canceled was_running) pieces = refl
reply_are_plain place (reply.Result task) pieces = task_is_plain place task
reply_are_plain place (reply.Stdout state parts) pieces = refl
reply_are_plain place (reply.Tasks items cursor) pieces = rw (or_null_is_plain (number_data place) (λ _. refl) cursor, tasks_are_plain place items) refl
reply_are_plain place (reply.Count count) pieces = refl
reply_are_plain place (reply.Shaken bot) pieces = refl
reply_are_plain place (reply.Sleep secs) pieces = refl
reply_are_plain place reply.ClaimHint pieces = refl
reply_are_plain place reply.Terminate pieces = refl
reply_are_plain place (reply.Run task try_no slice tolerance properties) pieces = run_is_plain place (task, try_no) slice tolerance properties
reply_are_plain place reply.Skip pieces = refl
reply_are_plain place reply.Noted pieces = refl
reply_are_plain place (reply.Updated must_stop) pieces = refl
reply_are_plain place reply.Terminating pieces = refl
reply_are_plain place (reply.Bots items cursor) pieces = rw (or_null_is_plain string (λ _. refl) cursor, bots_are_plain place items) refl
reply_are_plain place (reply.Bot bot) pieces = bot_is_plain place bot
reply_are_plain place (reply.Put fresh) pieces = refl
reply_are_plain place (reply.Blob digest size) pieces = refl
reply_are_plain place (reply.Missing blobs) pieces = rw (plain_items blob_data (λ _. refl) blobs) refl
reply_are_plain place (reply.No why) pieces = refusal_is_plain place why

pub reply_is_plain : (place : ℕ) (r : Reply) (pieces : List (List ℕ)) → has_float (object (reply_members place r pieces)) ≡ false
reply_is_plain place r pieces = reply_are_plain place r pieces

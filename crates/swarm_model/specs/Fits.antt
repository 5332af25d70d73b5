-- Which requests a pool may be asked.
use Rattle.std.specs.Prelude.{Bool, true, ◌+◌, ◌&&◌, ◌||◌, ◌^◌, nat_le, List, ℕ, length}
use Rattle.std.specs.List.{list_all}
use Rattle.std.specs.Option.{option_map_or}
use Rattle.swarm_model.specs.Types.{BotDims, Chunk, Last, EventKind, PoolSettings, Request}
use Rattle.dimensions.specs.Alike.{same}
use Rattle.dimensions.specs.Rules.{has_length_to, is_key_byte, is_empty}
use Rattle.dimensions.specs.BotRules.{are_bot_checked, pool_of_bot}
use Rattle.task_props.specs.Checked.{is_checked, pool_of_task}
use Rattle.task_props.specs.Sorted.{is_file}
use Rattle.swarm_model.specs.declared.entry.EventKind.TheVariants as event
use Rattle.swarm_model.specs.declared.request.Request.TheVariants as ask
use Rattle.swarm_model.specs.Words.{is_between}

-- the name of a bot, a session or a claim: 1 to 64 ASCII letters, digits, '-', '_' and '.'
abbrev pub is_name : List ℕ → Bool
is_name name = has_length_to 64 name && list_all is_key_byte name

-- what a bot of this pool says it has
abbrev pub fits_bot : PoolSettings → List ℕ → BotDims → Bool
fits_bot settings bot dims = is_name bot && (are_bot_checked bot dims && same (pool_of_bot dims) settings.name)

-- a message of at most 256 bytes; a quarantine has one
abbrev pub fits_message : EventKind → List ℕ → Bool
fits_message event.Quarantine message = has_length_to 256 message
fits_message event.Ping message = nat_le (length message) 256
fits_message event.Unquarantine message = nat_le (length message) 256

abbrev pub is_task_number : ℕ → Bool
is_task_number number = is_between 1 262144 number

-- a task of a pool by its number, with the number of a try; 0 names the task itself
abbrev pub fits_task : ℕ → ℕ → Bool
fits_task task try_no = is_task_number task && nat_le try_no 2

-- how many rows a page may show
abbrev pub is_limit : ℕ → Bool
is_limit limit = is_between 1 200 limit

-- 1 to 32768 bytes of an output of at most 67108864
abbrev pub fits_chunk : Chunk → Bool
fits_chunk chunk = is_between 1 32768 chunk.size && nat_le (chunk.start + chunk.size) 67108864

-- the report of an end, with at most 64 files
abbrev pub fits_last : Last → Bool
fits_last last =
    nat_le last.duration_ms (2 ^ 40) && (nat_le last.dropped (2 ^ 53) && (nat_le (length last.files) 64 && list_all is_file last.files))

-- a blob has at most 16777216 bytes
abbrev pub is_blob_size : ℕ → Bool
is_blob_size size = nat_le size 16777216

-- all in the request is what a checked one may hold, and its pool is this one
abbrev pub fits : PoolSettings → Request → Bool
fits settings (ask.New request) = is_checked request && same (pool_of_task request) settings.name
fits settings (ask.Cancel task try_no kill) = fits_task task try_no
fits settings (ask.Result task try_no) = fits_task task try_no
fits settings (ask.Stdout task try_no offset length) = fits_task task try_no && (nat_le offset 67108864 && is_between 1 65536 length)
fits settings (ask.List state limit below) = is_limit limit && option_map_or is_task_number below true
fits settings (ask.Count state) = true
fits settings (ask.Handshake bot session dims quarantined) =
    fits_bot settings bot dims && (is_name session && nat_le (length quarantined) 256)
fits settings (ask.Poll bot dims quarantined) = fits_bot settings bot dims && nat_le (length quarantined) 256
fits settings (ask.Claim bot claim) = is_name bot && is_name claim
fits settings (ask.Event bot which message) = is_name bot && fits_message which message
fits settings (ask.Update bot task try_no chunk last) =
    is_name bot && (is_task_number task && (is_between 1 2 try_no && (option_map_or fits_chunk chunk true && option_map_or fits_last last true)))
fits settings (ask.Terminate bot) = is_name bot
fits settings (ask.Bots limit after) = is_limit limit && (is_empty after || is_name after)
fits settings (ask.Bot bot) = is_name bot
fits settings (ask.PutBlob named actual size) = is_blob_size size
fits settings (ask.GetBlob digest) = true
fits settings (ask.FindMissing blobs) = nat_le (length blobs) 512 && list_all (λ blob. is_blob_size blob.1) blobs

-- The rows of a base are read back of their values, which have no float and few levels.
use Rattle.std.proofs.Common.{◌≡◌, ℕ, ◌<◌, ◌≤◌, ◌^◌, [], false, Option, Some, None, refl, sym, ap, ◌∙◌, arith, lt-ltb, IfSome}
use Rattle.std.specs.Prelude.{unwrap_or, codes}
use Rattle.serde_json.specs.Data.{string, depth}
use Rattle.serde_json.specs.Find.{as_str, as_null}
use Rattle.serde_json.specs.Written.{has_float}
use Rattle.base_lines.specs.Types.{Text, BlobRow, Attempt, Chunk, Last, Retried, TaskRow, BotRow}
use Rattle.task_props.specs.declared.new_task.NewTask.{NewTask}
use Rattle.blob_rows.specs.Extents.{extent_at}
use Rattle.swarm_model.specs.Effects.{idle_bot}
use Rattle.line_parts.specs.Finding.{field, whole, below}
use Rattle.line_parts.specs.Lists.{or_null, null_or, HoldsOption, list_reads_back, list_has_no_float, list_is_shallow, option_reads_back, option_has_no_float, option_is_shallow}
use Rattle.line_parts.specs.Names.{state_reads_back}
use Rattle.line_parts.specs.Numbers.{number_reads_back, digest_reads_back}
use Rattle.line_parts.specs.Parts.{word_in, long_in, IsWord, chunk_data, chunk_in, HoldsChunk, last_data, last_in, HoldsLast}
use Rattle.line_parts.specs.PartLaws.{dims_reads_back, dims_has_no_float, dims_is_shallow, chunk_reads_back, chunk_is_shallow, last_reads_back, last_never_null, last_has_no_float, last_is_shallow}
use Rattle.line_parts.specs.Tasks.{request_data, request_in, request_reads_back, request_has_no_float, request_is_shallow, uuid_of, uuid_reads_back}
use Rattle.base_lines.specs.declared.base_row.PoolLine.{PoolLine}
use Rattle.base_lines.specs.declared.base_row.BaseRow.{BaseRow}
use Rattle.base_lines.specs.declared.base_row.BaseRow.TheVariants as row
use Rattle.base_lines.specs.Computed.{size_of}
use Rattle.base_lines.specs.Attempts.{attempt_data, attempt_in, HoldsAttempt, IsMeasured, retried_data, retried_in, HoldsRetried}
use Rattle.base_lines.specs.Rows.{pool_data, pool_in, HoldsPool, later_members, task_data, task_in, HoldsTask, bot_data, bot_in, HoldsBot, blob_data, blob_in, HoldsBlob, HasUnits}
use Rattle.base_lines.specs.Lines.{row_data, HoldsRow, row_of_kind, row_in, as_told, HasMeasuredRuns, IsComputed}

-- ---- runs

word_reads_back : (n : ℕ) → IsWord n → word_in (whole n) ≡ Some n
word_reads_back n h = number_reads_back (2 ^ 32) n h

long_reads_back : (n : ℕ) → n < 2 ^ 64 → long_in (whole n) ≡ Some n
long_reads_back n h = number_reads_back (2 ^ 64) n h

chunk_or_null_reads_back : (o : Option Chunk) → HoldsOption HoldsChunk o → null_or chunk_in (or_null chunk_data o) ≡ Some o
chunk_or_null_reads_back o h = option_reads_back chunk_data chunk_in HoldsChunk (λ _. refl) chunk_reads_back o h

last_or_null_reads_back : (o : Option Last) → HoldsOption HoldsLast o → null_or last_in (or_null last_data o) ≡ Some o
last_or_null_reads_back o h = option_reads_back last_data last_in HoldsLast last_never_null last_reads_back o h

below_word : (n : ℕ) → IsWord n → below (2 ^ 32) n ≡ Some n
below_word n h = rw (lt-ltb n (2 ^ 32) h) refl

-- the sizes of the chunks come to the length
length_reads_back : (attempt : Attempt) → IsMeasured attempt → below (2 ^ 32) (size_of attempt.chunks) ≡ Some attempt.length
length_reads_back attempt measured = ap (λ (n : ℕ). below (2 ^ 32) n) (sym measured.0) ∙ below_word attempt.length measured.1

attempt_reads_back : (attempt : Attempt) → HoldsAttempt attempt → IsMeasured attempt → attempt_in (attempt_data attempt) ≡ Some attempt
unfolding attempt_data attempt_in
attempt_reads_back attempt h measured =
    rw (
      word_reads_back attempt.bot h.0,
      long_reads_back attempt.begun h.1,
      list_reads_back chunk_data chunk_in HoldsChunk chunk_reads_back attempt.chunks h.2,
      last_or_null_reads_back attempt.last h.3,
      chunk_or_null_reads_back attempt.last_chunk h.4,
      word_reads_back attempt.try_no h.5,
      length_reads_back attempt measured,
    ) refl

attempt_never_null : (attempt : Attempt) → as_null (attempt_data attempt) ≡ None
unfolding attempt_data
attempt_never_null attempt = refl

run_reads_back : (o : Option Attempt) → HoldsOption HoldsAttempt o → IfSome o IsMeasured → null_or attempt_in (or_null attempt_data o) ≡ Some o
run_reads_back None h measured = refl
run_reads_back (Some attempt) h measured = rw (attempt_never_null attempt, attempt_reads_back attempt h measured) refl

retried_reads_back : (lost : Retried) → HoldsRetried lost → IsMeasured lost.attempt → retried_in (retried_data lost) ≡ Some lost
unfolding retried_data retried_in
retried_reads_back lost h measured = rw (attempt_reads_back lost.attempt h.0 measured, long_reads_back lost.over h.1, word_reads_back lost.slice h.2) refl

retried_never_null : (lost : Retried) → as_null (retried_data lost) ≡ None
unfolding retried_data
retried_never_null lost = refl

lost_run_reads_back : (o : Option Retried) → HoldsOption HoldsRetried o → IfSome o (λ lost. IsMeasured lost.attempt) → null_or retried_in (or_null retried_data o) ≡ Some o
lost_run_reads_back None h measured = refl
lost_run_reads_back (Some lost) h measured = rw (retried_never_null lost, retried_reads_back lost h measured) refl

-- ---- rows

pool_reads_back : (pool : PoolLine) → HoldsPool pool → pool_in (pool_data pool) ≡ Some pool
unfolding pool_data pool_in
pool_reads_back pool h = rw (long_reads_back pool.last h.0, word_reads_back pool.placed h.1) refl

number_or_null_reads_back : (o : Option ℕ) → HoldsOption IsWord o → null_or word_in (or_null whole o) ≡ Some o
number_or_null_reads_back o h = option_reads_back whole word_in IsWord (λ _. refl) word_reads_back o h

moment_or_null_reads_back : (o : Option ℕ) → HoldsOption (λ n. n < 2 ^ 64) o → null_or long_in (or_null whole o) ≡ Some o
moment_or_null_reads_back o h = option_reads_back whole long_in (λ n. n < 2 ^ 64) (λ _. refl) long_reads_back o h

text_or_null_reads_back : (o : Option Text) → null_or as_str (or_null string o) ≡ Some o
text_or_null_reads_back None = refl
text_or_null_reads_back (Some t) = refl

-- the request with the uuid that was written beside it
request_of_uuid : (request : NewTask) → request_in (unwrap_or (uuid_of request.request_uuid) []) (request_data request) ≡ request_in request.request_uuid (request_data request)
request_of_uuid request = ap (λ uuid. request_in uuid (request_data request)) (uuid_reads_back request.request_uuid)

task_reads_back : (task : TaskRow) → HoldsTask task → HasMeasuredRuns task → task_in (task_data task) ≡ Some task
unfolding task_data later_members task_in
task_reads_back task h measured =
    rw (
      run_reads_back task.attempt h.0 measured.0,
      long_reads_back task.created h.1,
      moment_or_null_reads_back task.ended h.2,
      text_or_null_reads_back (uuid_of task.request.request_uuid),
      request_of_uuid task.request,
      request_reads_back task.request h.3,
      lost_run_reads_back task.retried h.4.0 measured.1,
      long_reads_back task.since h.4.1,
      word_reads_back task.slice h.4.2,
      number_or_null_reads_back task.source h.4.3,
      state_reads_back task.state,
      word_reads_back task.no h.4.4,
    ) refl

bot_reads_back : (bot : BotRow) → HoldsBot bot → bot_in (bot_data bot) ≡ Some (idle_bot bot)
unfolding bot_data bot_in
bot_reads_back bot h = rw (word_reads_back bot.no h.0, long_reads_back bot.contact h.1, dims_reads_back bot.dims tt, word_reads_back bot.streak h.2) refl

blob_reads_back : (blob : BlobRow) → HoldsBlob blob → HasUnits blob → blob_in (blob_data blob) ≡ Some blob
unfolding blob_data blob_in
blob_reads_back blob h units =
    rw (
      word_reads_back blob.extent.at h.0,
      long_reads_back blob.deadline h.1,
      digest_reads_back blob.digest h.2,
      word_reads_back blob.no h.3,
      word_reads_back blob.size h.4,
    ) (ap (λ (n : ℕ). Some (record blob { extent = extent_at n blob.extent.at })) (sym units))

-- ---- the name of the kind of each

pool_kind : (pool : PoolLine) → field as_str (codes "k") (pool_data pool) ≡ Some (codes "pool")
unfolding pool_data
pool_kind pool = refl

task_kind : (task : TaskRow) → field as_str (codes "k") (task_data task) ≡ Some (codes "task")
unfolding task_data
task_kind task = refl

bot_kind : (bot : BotRow) → field as_str (codes "k") (bot_data bot) ≡ Some (codes "bot")
unfolding bot_data
bot_kind bot = refl

blob_kind : (blob : BlobRow) → field as_str (codes "k") (blob_data blob) ≡ Some (codes "blob")
unfolding blob_data
blob_kind blob = refl

pub row_reads_back : (x : BaseRow) → HoldsRow x → IsComputed x → row_in (row_data x) ≡ Some (as_told x)
unfolding row_in row_of_kind
row_reads_back (row.Pool pool) h computed = rw (pool_kind pool, pool_reads_back pool h) refl
row_reads_back (row.Task task) h computed = rw (task_kind task, task_reads_back task h computed) refl
row_reads_back (row.Bot bot) h computed = rw (bot_kind bot, bot_reads_back bot h) refl
row_reads_back (row.Blob blob) h computed = rw (blob_kind blob, blob_reads_back blob h computed) refl

-- ---- no floats, and few levels

attempt_has_no_float : (attempt : Attempt) → has_float (attempt_data attempt) ≡ false
unfolding attempt_data
attempt_has_no_float attempt =
    rw (
      list_has_no_float chunk_data (λ _. refl) attempt.chunks,
      option_has_no_float last_data last_has_no_float attempt.last,
      option_has_no_float chunk_data (λ _. refl) attempt.last_chunk,
    ) refl

retried_has_no_float : (lost : Retried) → has_float (retried_data lost) ≡ false
unfolding retried_data
retried_has_no_float lost = rw (attempt_has_no_float lost.attempt) refl

task_has_no_float : (task : TaskRow) → has_float (task_data task) ≡ false
unfolding task_data later_members
task_has_no_float task =
    rw (
      option_has_no_float attempt_data attempt_has_no_float task.attempt,
      option_has_no_float whole (λ _. refl) task.ended,
      request_has_no_float task.request,
      option_has_no_float retried_data retried_has_no_float task.retried,
      option_has_no_float whole (λ _. refl) task.source,
      option_has_no_float string (λ _. refl) (uuid_of task.request.request_uuid),
    ) refl

pool_has_no_float : (pool : PoolLine) → has_float (pool_data pool) ≡ false
unfolding pool_data
pool_has_no_float pool = refl

bot_has_no_float : (bot : BotRow) → has_float (bot_data bot) ≡ false
unfolding bot_data
bot_has_no_float bot = rw (dims_has_no_float bot.dims) refl

blob_has_no_float : (blob : BlobRow) → has_float (blob_data blob) ≡ false
unfolding blob_data
blob_has_no_float blob = refl

pub row_has_no_float : (x : BaseRow) → has_float (row_data x) ≡ false
row_has_no_float (row.Pool pool) = pool_has_no_float pool
row_has_no_float (row.Task task) = task_has_no_float task
row_has_no_float (row.Bot bot) = bot_has_no_float bot
row_has_no_float (row.Blob blob) = blob_has_no_float blob

attempt_is_shallow : (attempt : Attempt) → depth (attempt_data attempt) ≤ 4
unfolding attempt_data
attempt_is_shallow attempt =
    omega (
      arith,
      list_is_shallow chunk_data 1 chunk_is_shallow attempt.chunks,
      option_is_shallow last_data 3 last_is_shallow attempt.last,
      option_is_shallow chunk_data 1 chunk_is_shallow attempt.last_chunk,
    )

retried_is_shallow : (lost : Retried) → depth (retried_data lost) ≤ 5
unfolding retried_data
retried_is_shallow lost = omega (arith, attempt_is_shallow lost.attempt)

task_is_shallow : (task : TaskRow) → depth (task_data task) ≤ 7
unfolding task_data later_members
task_is_shallow task =
    omega (
      arith,
      option_is_shallow attempt_data 4 attempt_is_shallow task.attempt,
      option_is_shallow whole 0 (λ _. omega arith) task.ended,
      request_is_shallow task.request,
      option_is_shallow retried_data 5 retried_is_shallow task.retried,
      option_is_shallow whole 0 (λ _. omega arith) task.source,
      option_is_shallow string 0 (λ _. omega arith) (uuid_of task.request.request_uuid),
    )

pool_is_shallow : (pool : PoolLine) → depth (pool_data pool) ≤ 7
unfolding pool_data
pool_is_shallow pool = omega arith

bot_is_shallow : (bot : BotRow) → depth (bot_data bot) ≤ 7
unfolding bot_data
bot_is_shallow bot = omega (arith, dims_is_shallow bot.dims)

blob_is_shallow : (blob : BlobRow) → depth (blob_data blob) ≤ 7
unfolding blob_data
blob_is_shallow blob = omega arith

pub row_is_shallow : (x : BaseRow) → depth (row_data x) ≤ 7
row_is_shallow (row.Pool pool) = pool_is_shallow pool
row_is_shallow (row.Task task) = task_is_shallow task
row_is_shallow (row.Bot bot) = bot_is_shallow bot
row_is_shallow (row.Blob blob) = blob_is_shallow blob

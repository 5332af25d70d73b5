-- The values of the parts of an entry are read of their texts.
use Rattle.std.proofs.Common.{ℕ, List, refl, arith, All}
use Rattle.std.specs.Prelude.{⊤}
use Rattle.serde_json.specs.Data.{string}
use Rattle.line_parts.specs.Types.{Text, BotDims, Cache, File, Properties, Slice, NewTask, Chunk, Last, Outcome}
use Rattle.task_props.specs.Shown.{later_members, properties_with}
use Rattle.swarm_model.specs.declared.entry.Outcome.TheVariants as outcome
use Rattle.line_parts.specs.Finding.{whole}
use Rattle.line_parts.specs.Lists.{list_data}
use Rattle.line_parts.specs.Parts.{IsWord, pair_data, values_data, cache_data, file_data, HoldsFile, chunk_data, HoldsChunk, last_data, HoldsLast, outcome_data, HoldsOutcome}
use Rattle.line_parts.specs.Tasks.{properties_data, HoldsProperties, slice_data, HoldsSlice, request_data, HoldsRequest}
use Rattle.line_parts.proofs.ReadTexts.{ReadsBack, whole_reads, signed_reads, list_reads}

pub word_reads : (n : ℕ) → IsWord n → ReadsBack (whole n)
word_reads n h = whole_reads n (omega (arith, h))

pub text_reads : (text : Text) → ReadsBack (string text)
text_reads text = record { value = refl; numbers = tt }

any_all : {A : Type 0} (xs : List A) → All (λ _. ⊤) xs
any_all xs k d low = tt

texts_read : (texts : List Text) → ReadsBack (list_data string texts)
texts_read texts = list_reads string (λ _. ⊤) (λ text _. text_reads text) texts (any_all texts)

-- ---- dimensions

pair_reads : (pair : Text × Text) → ReadsBack (pair_data pair)
pair_reads pair = record { value = refl; numbers = (tt, (tt, tt)) }

pairs_read : (pairs : List (Text × Text)) → ReadsBack (list_data pair_data pairs)
pairs_read pairs = list_reads pair_data (λ _. ⊤) (λ pair _. pair_reads pair) pairs (any_all pairs)

values_read : (pair : Text × List Text) → ReadsBack (values_data pair)
values_read pair = let texts = texts_read pair.1 in record { value = rw texts.value refl; numbers = (tt, (texts.numbers, tt)) }

pub dims_read : (dims : BotDims) → ReadsBack (list_data values_data dims)
dims_read dims = list_reads values_data (λ _. ⊤) (λ pair _. values_read pair) dims (any_all dims)

-- ---- files and reports

file_reads : (file : File) → HoldsFile file → ReadsBack (file_data file)
file_reads file h = let size = word_reads file.size h.1 in record { value = rw size.value refl; numbers = (tt, (tt, (size.numbers, tt))) }

files_read : (files : List File) → All HoldsFile files → ReadsBack (list_data file_data files)
files_read files h = list_reads file_data HoldsFile file_reads files h

pub chunk_reads : (chunk : Chunk) → HoldsChunk chunk → ReadsBack (chunk_data chunk)
chunk_reads chunk h =
    let start = word_reads chunk.start h.0 in
    let size = word_reads chunk.size h.1 in
    record { value = rw (start.value, size.value) refl; numbers = (start.numbers, (size.numbers, (tt, tt))) }

pub last_reads : (last : Last) → HoldsLast last → ReadsBack (last_data last)
unfolding last_data
last_reads last h =
    let dropped = whole_reads last.dropped h.0 in
    let duration = whole_reads last.duration_ms h.1 in
    let exit_code = signed_reads last.exit_code h.2 in
    let files = files_read last.files h.3 in
    record {
      value = rw (dropped.value, duration.value, exit_code.value, files.value) refl;
      numbers = (dropped.numbers, (duration.numbers, (exit_code.numbers, (files.numbers, (tt, (tt, tt))))));
    }

pub outcome_reads : (to : Outcome) → HoldsOutcome to → ReadsBack (outcome_data to)
outcome_reads (outcome.Slice place) h = word_reads place h
outcome_reads (outcome.Ended state) h = record { value = refl; numbers = tt }

-- ---- requests

cache_reads : (cache : Cache) → ReadsBack (cache_data cache)
cache_reads cache = record { value = refl; numbers = (tt, (tt, tt)) }

properties_read : (p : Properties) → HoldsProperties p → ReadsBack (properties_data p)
unfolding properties_with later_members
properties_read p h =
    let caches = list_reads cache_data (λ _. ⊤) (λ cache _. cache_reads cache) p.caches (any_all p.caches) in
    let command = texts_read p.command in
    let dimensions = pairs_read p.dimensions in
    let env = pairs_read p.env in
    let execution = word_reads p.execution_timeout_secs h.0.0 in
    let grace = word_reads p.grace_period_secs h.0.2 in
    let inputs = files_read p.inputs h.1 in
    let io = word_reads p.io_timeout_secs h.0.1 in
    let outputs = texts_read p.outputs in
    record {
      value = rw (caches.value, command.value, dimensions.value, env.value, execution.value, grace.value, inputs.value, io.value, outputs.value) refl;
      numbers = (caches.numbers, (command.numbers, (dimensions.numbers, (env.numbers, (execution.numbers, (grace.numbers, (tt, (inputs.numbers, (io.numbers, (outputs.numbers, tt))))))))));
    }

slice_reads : (slice : Slice) → HoldsSlice slice → ReadsBack (slice_data slice)
slice_reads slice h =
    let secs = word_reads slice.expiration_secs h.0 in
    let properties = properties_read slice.properties h.1 in
    record { value = rw (secs.value, properties.value) refl; numbers = (secs.numbers, (properties.numbers, (tt, tt))) }

pub request_reads : (task : NewTask) → HoldsRequest task → ReadsBack (request_data task)
unfolding request_data
request_reads task h =
    let tolerance = word_reads task.bot_ping_tolerance_secs h.0 in
    let priority = word_reads task.priority h.1 in
    let slices = list_reads slice_data HoldsSlice slice_reads task.task_slices h.2 in
    record { value = rw (tolerance.value, priority.value, slices.value) refl; numbers = (tolerance.numbers, (tt, (priority.numbers, (slices.numbers, tt)))) }

-- The value of each entry is read of its text.
use Rattle.std.proofs.Common.{ℕ, Option, Some, None, refl}
use Rattle.serde_json.specs.Data.{string}
use Rattle.dimensions.specs.declared.text.Text.{Text}
use Rattle.dimensions.specs.declared.bot_dims.BotDims.{BotDims}
use Rattle.swarm_model.specs.declared.entry.Entry.{Entry}
use Rattle.swarm_model.specs.declared.entry.EntryKind.{EntryKind}
use Rattle.swarm_model.specs.declared.entry.EntryKind.TheVariants as kind
use Rattle.line_parts.specs.Finding.{whole}
use Rattle.entry_lines.specs.Kinds.{entry_data, KindFits, HoldsEntry}
use Rattle.line_parts.specs.Lists.{list_data, or_null}
use Rattle.line_parts.specs.Parts.{IsWord, values_data, chunk_data, HoldsChunk, last_data, HoldsLast}
use Rattle.line_parts.specs.Tasks.{uuid_of}
use Rattle.line_parts.proofs.ReadTexts.{ReadsBack, whole_reads, option_reads}
use Rattle.line_parts.proofs.ReadParts.{word_reads, text_reads, dims_read, chunk_reads, last_reads, outcome_reads, request_reads}

text_or_null_reads : (o : Option Text) → ReadsBack (or_null string o)
text_or_null_reads None = record { value = refl; numbers = tt }
text_or_null_reads (Some text) = text_reads text

dims_or_null_read : (o : Option BotDims) → ReadsBack (or_null (list_data values_data) o)
dims_or_null_read None = record { value = refl; numbers = tt }
dims_or_null_read (Some dims) = dims_read dims

-- each kind, written with this moment and this pass
kind_reads : (m p : ℕ) (k : EntryKind) → ReadsBack (whole m) → ReadsBack (whole p) → KindFits k → ReadsBack (entry_data (record { moment = m; pass = p; kind = k }))
unfolding entry_data
kind_reads m p (kind.Slice t to) moment pass h =
    let task = word_reads t h.0 in
    let outcome = outcome_reads to h.1 in
    record { value = rw (moment.value, pass.value, task.value, outcome.value) refl; numbers = (tt, (moment.numbers, (pass.numbers, (task.numbers, (outcome.numbers, tt))))) }
kind_reads m p (kind.Silence t) moment pass h =
    let task = word_reads t h in
    record { value = rw (moment.value, pass.value, task.value) refl; numbers = (tt, (moment.numbers, (pass.numbers, (task.numbers, tt)))) }
kind_reads m p (kind.Dead b) moment pass h =
    let bot = word_reads b h in
    record { value = rw (bot.value, moment.value, pass.value) refl; numbers = (bot.numbers, (tt, (moment.numbers, (pass.numbers, tt)))) }
kind_reads m p (kind.Blob n kept) moment pass h =
    let blob = word_reads n h in
    record { value = rw (moment.value, blob.value, pass.value) refl; numbers = (tt, (tt, (moment.numbers, (blob.numbers, (pass.numbers, tt))))) }
kind_reads m p (kind.New t who request state slice from) moment pass h =
    let source = option_reads whole IsWord word_reads from h.0 in
    let requested = request_reads request h.1 in
    let place = word_reads slice h.2 in
    let task = word_reads t h.3 in
    let uuid = text_or_null_reads (uuid_of request.request_uuid) in
    record {
      value = rw (source.value, moment.value, pass.value, requested.value, place.value, task.value, uuid.value) refl;
      numbers = (source.numbers, (tt, (moment.numbers, (pass.numbers, (requested.numbers, (place.numbers, (tt, (task.numbers, (uuid.numbers, (tt, tt))))))))));
    }
kind_reads m p (kind.Cancel t) moment pass h =
    let task = word_reads t h in
    record { value = rw (moment.value, pass.value, task.value) refl; numbers = (tt, (moment.numbers, (pass.numbers, (task.numbers, tt)))) }
kind_reads m p (kind.Kill t) moment pass h =
    let task = word_reads t h in
    record { value = rw (moment.value, pass.value, task.value) refl; numbers = (tt, (moment.numbers, (pass.numbers, (task.numbers, tt)))) }
kind_reads m p (kind.Handshake b id session dims q) moment pass h =
    let bot = word_reads b h in
    let dimensions = dims_read dims in
    record {
      value = rw (bot.value, dimensions.value, moment.value, pass.value) refl;
      numbers = (bot.numbers, (dimensions.numbers, (tt, (tt, (moment.numbers, (pass.numbers, (tt, (tt, tt))))))));
    }
kind_reads m p (kind.Poll b dims q hint) moment pass h =
    let bot = word_reads b h in
    let dimensions = dims_or_null_read dims in
    let quarantine = text_or_null_reads q in
    record {
      value = rw (bot.value, dimensions.value, moment.value, pass.value, quarantine.value) refl;
      numbers = (bot.numbers, (dimensions.numbers, (tt, (tt, (moment.numbers, (pass.numbers, (quarantine.numbers, tt)))))));
    }
kind_reads m p (kind.Claim b t claim) moment pass h =
    let bot = word_reads b h.0 in
    let task = word_reads t h.1 in
    record { value = rw (bot.value, moment.value, pass.value, task.value) refl; numbers = (bot.numbers, (tt, (tt, (moment.numbers, (pass.numbers, (task.numbers, tt)))))) }
kind_reads m p (kind.Contact b) moment pass h =
    let bot = word_reads b h in
    record { value = rw (bot.value, moment.value, pass.value) refl; numbers = (bot.numbers, (tt, (moment.numbers, (pass.numbers, tt)))) }
kind_reads m p (kind.Event b e text) moment pass h =
    let bot = word_reads b h in
    record { value = rw (bot.value, moment.value, pass.value) refl; numbers = (bot.numbers, (tt, (tt, (moment.numbers, (pass.numbers, (tt, tt)))))) }
kind_reads m p (kind.Update b t try_no chunk last) moment pass h =
    let bot = word_reads b h.0 in
    let piece = option_reads chunk_data HoldsChunk chunk_reads chunk h.1 in
    let report = option_reads last_data HoldsLast last_reads last h.2 in
    let task = word_reads t h.3 in
    let run = word_reads try_no h.4 in
    record {
      value = rw (bot.value, piece.value, report.value, moment.value, pass.value, task.value, run.value) refl;
      numbers = (bot.numbers, (piece.numbers, (tt, (report.numbers, (moment.numbers, (pass.numbers, (task.numbers, (run.numbers, tt))))))));
    }
kind_reads m p (kind.Terminate b) moment pass h =
    let bot = word_reads b h in
    record { value = rw (bot.value, moment.value, pass.value) refl; numbers = (bot.numbers, (tt, (moment.numbers, (pass.numbers, tt)))) }
kind_reads m p (kind.Put digest size) moment pass h =
    let bytes = word_reads size h.1 in
    record { value = rw (moment.value, pass.value, bytes.value) refl; numbers = (tt, (tt, (moment.numbers, (pass.numbers, (bytes.numbers, tt))))) }

pub entry_reads : (e : Entry) → HoldsEntry e → ReadsBack (entry_data e)
entry_reads e h = kind_reads e.moment e.pass e.kind (whole_reads e.moment h.0) (word_reads e.pass h.1) h.2

-- The parts of an entry are read back as they were written.
use Rattle.std.proofs.Common.{◌≡◌, ◌≤◌, ◌^◌, List, Some, None, false, refl, arith}
use Rattle.std.specs.Prelude.{⊤}
use Rattle.std.specs.List.{All}
use Rattle.serde_json.specs.Data.{string, depth}
use Rattle.serde_json.specs.Written.{has_float}
use Rattle.line_parts.specs.Types.{Text, DimSet, BotDims, Cache, File, Chunk, Last, Outcome}
use Rattle.swarm_model.specs.declared.entry.Outcome.TheVariants as outcome
use Rattle.serde_json.specs.Find.{as_str, as_null}
use Rattle.line_parts.specs.Lists.{list_data, list_in, list_reads_back, list_has_no_float, list_is_shallow}
use Rattle.line_parts.specs.Names.{state_reads_back}
use Rattle.line_parts.specs.Numbers.{number_reads_back, signed_reads_back, signed_has_no_float, digest_reads_back}
use Rattle.line_parts.specs.Parts.{set_in, dims_in, pair_data, pair_in, values_data, values_in, cache_data, file_data, file_in, HoldsFile, chunk_data, chunk_in, HoldsChunk, last_data, last_in, HoldsLast, outcome_data, outcome_in, HoldsOutcome}

pub pair_is_shallow : (pair : Text × Text) → depth (pair_data pair) ≤ 1
pair_is_shallow pair = omega arith

any_all : (texts : List Text) → All (λ _. ⊤) texts
any_all texts k d low = tt

pub texts_reads_back : (texts : List Text) → list_in as_str (list_data string texts) ≡ Some texts
texts_reads_back texts = list_reads_back string as_str (λ _. ⊤) (λ _ _. refl) texts (any_all texts)

pub values_reads_back : (pair : Text × List Text) → ⊤ → values_in (values_data pair) ≡ Some pair
values_reads_back pair h = rw (texts_reads_back pair.1) refl

pub values_has_no_float : (pair : Text × List Text) → has_float (values_data pair) ≡ false
values_has_no_float pair = rw (list_has_no_float string (λ _. refl) pair.1) refl

pub values_is_shallow : (pair : Text × List Text) → depth (values_data pair) ≤ 2
values_is_shallow pair = omega (arith, list_is_shallow string 0 (λ _. omega arith) pair.1)

pub cache_is_shallow : (cache : Cache) → depth (cache_data cache) ≤ 1
cache_is_shallow cache = omega arith

pub file_reads_back : (file : File) → HoldsFile file → file_in (file_data file) ≡ Some file
file_reads_back file h = rw (digest_reads_back file.digest h.0, number_reads_back (2 ^ 32) file.size h.1) refl

pub file_is_shallow : (file : File) → depth (file_data file) ≤ 1
file_is_shallow file = omega arith

pub chunk_reads_back : (chunk : Chunk) → HoldsChunk chunk → chunk_in (chunk_data chunk) ≡ Some chunk
chunk_reads_back chunk h = rw (number_reads_back (2 ^ 32) chunk.start h.0, number_reads_back (2 ^ 32) chunk.size h.1, digest_reads_back chunk.digest h.2) refl

pub chunk_is_shallow : (chunk : Chunk) → depth (chunk_data chunk) ≤ 1
chunk_is_shallow chunk = omega arith

files_reads_back : (files : List File) → All HoldsFile files → list_in file_in (list_data file_data files) ≡ Some files
files_reads_back files h = list_reads_back file_data file_in HoldsFile file_reads_back files h

pub last_reads_back : (last : Last) → HoldsLast last → last_in (last_data last) ≡ Some last
unfolding last_data last_in
last_reads_back last h =
    rw (number_reads_back (2 ^ 64) last.dropped h.0, number_reads_back (2 ^ 64) last.duration_ms h.1, signed_reads_back last.exit_code h.2, files_reads_back last.files h.3) refl

pub last_never_null : (last : Last) → as_null (last_data last) ≡ None
unfolding last_data
last_never_null last = refl

pub last_has_no_float : (last : Last) → has_float (last_data last) ≡ false
unfolding last_data
last_has_no_float last = rw (signed_has_no_float last.exit_code, list_has_no_float file_data (λ _. refl) last.files) refl

pub last_is_shallow : (last : Last) → depth (last_data last) ≤ 3
unfolding last_data
last_is_shallow last = omega (arith, list_is_shallow file_data 1 file_is_shallow last.files)

pub outcome_reads_back : (to : Outcome) → HoldsOutcome to → outcome_in (outcome_data to) ≡ Some to
outcome_reads_back (outcome.Slice place) h = rw (number_reads_back (2 ^ 32) place h) refl
outcome_reads_back (outcome.Ended state) h = rw (state_reads_back state) refl

pub outcome_has_no_float : (to : Outcome) → has_float (outcome_data to) ≡ false
outcome_has_no_float (outcome.Slice place) = refl
outcome_has_no_float (outcome.Ended state) = refl

pub outcome_is_shallow : (to : Outcome) → depth (outcome_data to) ≤ 0
outcome_is_shallow (outcome.Slice place) = omega arith
outcome_is_shallow (outcome.Ended state) = omega arith

-- ---- dimensions

pub set_reads_back : (set : DimSet) → ⊤ → set_in (list_data pair_data set) ≡ Some set
set_reads_back set h = list_reads_back pair_data pair_in (λ _. ⊤) (λ _ _. refl) set (λ k d low. tt)

pub set_has_no_float : (set : DimSet) → has_float (list_data pair_data set) ≡ false
set_has_no_float set = list_has_no_float pair_data (λ _. refl) set

pub set_is_shallow : (set : DimSet) → depth (list_data pair_data set) ≤ 2
set_is_shallow set = list_is_shallow pair_data 1 pair_is_shallow set

pub dims_reads_back : (dims : BotDims) → ⊤ → dims_in (list_data values_data dims) ≡ Some dims
dims_reads_back dims h = list_reads_back values_data values_in (λ _. ⊤) values_reads_back dims (λ k d low. tt)

pub dims_has_no_float : (dims : BotDims) → has_float (list_data values_data dims) ≡ false
dims_has_no_float dims = list_has_no_float values_data values_has_no_float dims

pub dims_is_shallow : (dims : BotDims) → depth (list_data values_data dims) ≤ 3
dims_is_shallow dims = list_is_shallow values_data 2 values_is_shallow dims

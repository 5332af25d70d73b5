-- A run is told with its properties.
use Rattle.std.proofs.Common.{◌≡◌, ℕ, nat_lt, pos, true, List, [], ◌∷◌, Some, Ok, refl, ap, ◌∙◌, arith}
use Rattle.std.specs.Prelude.{codes}
use Rattle.std.specs.Str.{IsUtf8}
use Rattle.std.proofs.lemmas.Bool.{and_from}
use Rattle.json.proofs.Printed.Utf8.{IsUtf8-are_ascii}
use Rattle.serde_json.specs.Data.{Data, string, object}
use Rattle.wire_laws.specs.Types.{Cache, File, Properties}
use Rattle.task_props.specs.Shown.{properties_with, later_members}
use Rattle.task_bodies.specs.SliceProperties.{pair_in, cache_in, input_in, lists_in, grace_at, times_in, properties_in as raw_properties_in, properties_at}
use Rattle.swarm_model.specs.declared.reply.Reply.TheVariants as reply
use Rattle.routes.specs.declared.route.Route.TheVariants as route
use Rattle.json_fields.specs.Fields.{present, text_in, required_text_in, number_in, optional_number_in, flag_in, list_in, items_in, object_in, unknown_key, object_item, text_item}
use Rattle.line_parts.specs.Parts.{IsWord}
use Rattle.reply_bodies.specs.Items.{pair_data, cache_data, file_data}
use Rattle.reply_bodies.specs.Commands.{run_properties, run_members}
use Rattle.reply_bodies.specs.Bodies.{body_of}
use Rattle.server_calls.specs.Reading.{told_of, in_value}
use Rattle.server_calls.specs.Members.{with_keys, whole_in}
use Rattle.server_calls.specs.Places.{run_at, run_id_in}
use Rattle.server_calls.specs.Commands.{claimed_in, run_in, checked_run, named_run_in, slice_in, tolerance_in, properties_in}
use Rattle.wire_laws.specs.Fitting.{IsPlace, IsRun, FitsTexts, FitsCache, FitsFile, FitsProperties, raw_file, raw_properties}
use Rattle.wire_laws.specs.Told.{IsTold}
use Rattle.wire_laws.proofs.Readable.{IsReadable, are_readable, reading-compact_text}
use Rattle.wire_laws.proofs.IdTexts.{run_id_utf8}
use Rattle.wire_laws.proofs.ReadIds.{run_number, run_text_is, run_is_at, task_is, try_is}
use Rattle.wire_laws.proofs.MemberLemmas.{word_is, object_item_is, means_list, reads_list, one_place_is}
use Rattle.wire_laws.proofs.TaskReplies.{file_readable}

-- ---- they can be read

pair_readable : (n : ℕ) → nat_lt 0 n ≡ true → (pair : List ℕ × List ℕ) → FitsTexts pair → IsReadable n (pair_data pair)
pair_readable n room pair h = (room, refl, (h.0, (h.1, tt)))

cache_readable : (n : ℕ) → nat_lt 0 n ≡ true → (cache : Cache) → FitsCache cache → IsReadable n (cache_data cache)
cache_readable n room cache h = (room, refl, (h.0, (h.1, tt)))

properties_readable : (p : Properties) → FitsProperties p → IsReadable 126 (run_properties p)
unfolding properties_with later_members
properties_readable p h = (
  refl,
  refl,
  (
    (refl, are_readable cache_data FitsCache 124 (cache_readable 124 refl) p.caches h.caches),
    (
      (refl, are_readable string IsUtf8 124 (λ _ fits. fits) p.command h.command),
      (
        (refl, are_readable pair_data FitsTexts 124 (pair_readable 124 refl) p.dimensions h.dimensions),
        (
          (refl, are_readable pair_data FitsTexts 124 (pair_readable 124 refl) p.env h.env),
          (
            omega (arith, h.times.0),
            (
              omega (arith, h.times.2),
              (
                tt,
                (
                  (refl, are_readable file_data FitsFile 124 (file_readable 124 refl) p.inputs h.inputs),
                  (
                    omega (arith, h.times.1),
                    ((refl, are_readable string IsUtf8 124 (λ _ fits. fits) p.outputs h.outputs), tt),
                  ),
                ),
              ),
            ),
          ),
        ),
      ),
    ),
  ),
)

abbrev run_data : ℕ → ℕ × ℕ → ℕ → ℕ → Properties → Data
run_data place run slice tolerance p = object (run_members place run slice tolerance p)

run_readable : (place : ℕ) (run : ℕ × ℕ) (slice tolerance : ℕ) (p : Properties) → IsPlace place → IsRun run → IsWord slice → IsWord tolerance → FitsProperties p → IsReadable 127 (run_data place run slice tolerance p)
unfolding run_members
run_readable place run slice tolerance p at is few long fits = (
  refl,
  refl,
  (
    omega (arith, long),
    (
      IsUtf8-are_ascii (codes "run") refl,
      (
        properties_readable p fits,
        (
          run_id_utf8 place run at is,
          (omega (arith, few), tt),
        ),
      ),
    ),
  ),
)

-- ---- they are read

pair_is : (pair : List ℕ × List ℕ) → pair_in (pair_data pair) ≡ Ok pair
unfolding pair_in text_in unknown_key present
pair_is pair = refl

cache_is : (cache : Cache) → cache_in (cache_data cache) ≡ Ok cache
unfolding cache_in text_in unknown_key present
cache_is cache = refl

input_is : (file : File) → input_in (file_data file) ≡ Ok (raw_file file)
unfolding input_in text_in required_text_in number_in unknown_key present
input_is file = refl

lists_are : (p : Properties) → FitsProperties p
    → lists_in (run_properties p) ≡ Ok (record { command = p.command; env = p.env; dimensions = p.dimensions; caches = p.caches; inputs = (raw_properties p).inputs; outputs = p.outputs })
unfolding lists_in list_in items_in present properties_with later_members
lists_are p h =
    rw (
      reads_list string text_item IsUtf8 (λ text fits place. refl) (codes "command") p.command h.command,
      reads_list pair_data (object_item pair_in) FitsTexts (λ pair fits. object_item_is pair_in _ pair (pair_is pair)) (codes "env") p.env h.env,
      reads_list pair_data (object_item pair_in) FitsTexts (λ pair fits. object_item_is pair_in _ pair (pair_is pair)) (codes "dimensions") p.dimensions h.dimensions,
      reads_list cache_data (object_item cache_in) FitsCache (λ cache fits. object_item_is cache_in _ cache (cache_is cache)) (codes "caches") p.caches h.caches,
      means_list file_data (object_item input_in) raw_file FitsFile (λ file fits. object_item_is input_in _ (raw_file file) (input_is file)) (codes "inputs") p.inputs h.inputs,
      reads_list string text_item IsUtf8 (λ text fits place. refl) (codes "outputs") p.outputs h.outputs,
    ) refl

times_are : (p : Properties)
    → times_in (run_properties p) ≡ Ok (record { execution_timeout_secs = pos p.execution_timeout_secs; io_timeout_secs = pos p.io_timeout_secs; grace_period_secs = pos p.grace_period_secs })
unfolding times_in grace_at number_in optional_number_in present properties_with later_members
times_are p = refl

fields_are : (p : Properties) → FitsProperties p → raw_properties_in (run_properties p) ≡ Ok (raw_properties p)
unfolding raw_properties_in flag_in unknown_key present properties_with later_members
fields_are p h = rw (lists_are p h, times_are p) refl

properties_are : (place : ℕ) (run : ℕ × ℕ) (slice tolerance : ℕ) (p : Properties) → FitsProperties p → properties_in (run_data place run slice tolerance p) ≡ Ok p
unfolding properties_in properties_at object_in present run_members properties_with later_members
properties_are place run slice tolerance p h = rw (fields_are p h) h.checked

numbers_are : (place : ℕ) (run : ℕ × ℕ) (slice tolerance : ℕ) (p : Properties) → IsWord slice → IsWord tolerance
    → (slice_in (run_data place run slice tolerance p) ≡ Ok slice) × (tolerance_in (run_data place run slice tolerance p) ≡ Ok tolerance)
unfolding slice_in tolerance_in whole_in optional_number_in present run_members
numbers_are place run slice tolerance p few long = (rw (word_is slice few) refl, rw (word_is tolerance long) refl)

run_is : (place : ℕ) (run : ℕ × ℕ) (slice tolerance : ℕ) (p : Properties) → IsPlace place → IsRun run
    → (checked_run (run_data place run slice tolerance p) ≡ Ok (run_data place run slice tolerance p)) × (named_run_in (run_data place run slice tolerance p) ≡ Ok (run_at (run_number place run)))
unfolding checked_run with_keys unknown_key named_run_in run_id_in required_text_in present run_members
run_is place run slice tolerance p at is = (refl, rw (run_text_is place run at is) refl)

-- the command is `run`
is_command : (place : ℕ) (run : ℕ × ℕ) (slice tolerance : ℕ) (p : Properties) → claimed_in (run_data place run slice tolerance p) ≡ run_in (run_data place run slice tolerance p)
unfolding claimed_in required_text_in present run_members
is_command place run slice tolerance p = refl

pub run_is_told : (place task try_no slice tolerance : ℕ) (p : Properties) (pieces : List (List ℕ)) → IsPlace place → IsRun (task, try_no) → IsWord slice → IsWord tolerance → FitsProperties p
    → IsTold route.Claim place (reply.Run task try_no slice tolerance p) pieces
unfolding told_of body_of run_in
run_is_told place task try_no slice tolerance p pieces at is few long fits =
    let run : ℕ × ℕ = (task, try_no) in
    let numbers = numbers_are place run slice tolerance p few long in
    let named = run_is place run slice tolerance p at is in
    ap (in_value claimed_in) (reading-compact_text (run_data place run slice tolerance p) (run_readable place run slice tolerance p at is few long fits))
    ∙ rw (
      is_command place run slice tolerance p,
      named.0,
      named.1,
      one_place_is place at (Some (run_at (run_number place run)).place ∷ []) (and_from _ _ (run_is_at place (Some run) is) refl) refl,
      numbers.0,
      numbers.1,
      properties_are place run slice tolerance p fits,
      task_is place task try_no is.0 (omega (arith, is.2)),
      try_is place task try_no (omega (arith, is.2)),
    ) refl

-- What the server reads in a bot's reports.
use Rattle.std.proofs.Common.{◌≡◌, ℕ, ◌+◌, ◌-◌, ◌*◌, ◌^◌, ◌<◌, ◌≤◌, ◌==◌, nat_lt, ℤ, pos, negsuc, Bool, true, false, List, [], ◌∷◌, suc, length, map, decimal, Option, Some, None, is_none, Ok, refl, ap, ◌∙◌, arith, All, le-leb, lt-ltb}
use Rattle.std.specs.Prelude.{codes}
use Rattle.std.specs.Str.{IsUtf8}
use Rattle.base64.specs.Engines.{standard}
use Rattle.base64.specs.GeneralPurpose.{encode_of}
use Rattle.json_values.specs.Values.{signed}
use Rattle.wire_laws.specs.Types.{File, PropRule, Last, End, Hands}
use Rattle.task_props.specs.Paths.{path_rule}
use Rattle.swarm_model.specs.declared.pool_settings.PoolSettings.{PoolSettings}
use Rattle.swarm_model.specs.declared.request.Request.TheVariants as ask
use Rattle.swarm_model.specs.Fits.{is_name}
use Rattle.json_fields.specs.Readings.{inside, ◌>>=◌}
use Rattle.json_fields.specs.Fields.{present, some_number_of, text_in, required_text_in, number_in, optional_number_in, flag_in, items_in, object_item}
use Rattle.json_fields.specs.Checks.{checked_item, checked_items}
use Rattle.json_fields.specs.Ids.{shown_number, run_id}
use Rattle.line_parts.specs.Finding.{IsInt}
use Rattle.bot_requests.specs.Bodies.{file_data, output_members, report_data, last_report_data, update_data}
use Rattle.bot_bodies.specs.declared.outputs.Output.{Output}
use Rattle.bot_bodies.specs.declared.reports.Report.{Report}
use Rattle.bot_bodies.specs.ExitCodes.{code_of}
use Rattle.bot_bodies.specs.Outputs.{raw_output_in, bytes_of, start_of, chunk_of, output_of}
use Rattle.bot_bodies.specs.Files.{file_in, file_of}
use Rattle.bot_bodies.specs.Reports.{raw_exit_in, raw_end_in, raw_report_in, end_of, report_of, report_in, update_by}
use Rattle.swarm_wire.specs.declared.asked.Asked.{Asked}
use Rattle.swarm_wire.specs.Asking.{asked_of, object_in, object_of, pool_at, update_of}
use Rattle.wire_laws.specs.Fitting.{IsPlace, IsRun, raw_file}
use Rattle.wire_laws.specs.Meant.{last_by, FitsEnd, FitsOutput, FitsOutputFile, FitsLast, chunk, ReportsAreMeant}
use Rattle.wire_laws.proofs.Readable.{IsReadable, are_readable, reading-compact_text}
use Rattle.wire_laws.proofs.DigestTexts.{digest_is, digest_utf8}
use Rattle.wire_laws.proofs.IdTexts.{run_id_is, run_id_utf8}
use Rattle.wire_laws.proofs.ReadIds.{place_is, task_is, try_is}
use Rattle.wire_laws.proofs.MemberLemmas.{within_range, size_is, object_item_is, each_is, means_list, map_same}
use Rattle.wire_laws.proofs.BlobReplies.{base64_utf8, base64_is}
use Rattle.wire_laws.proofs.Names.{name_is}

-- ---- the output

output_by : (b : Bool) (start : ℕ) (bytes : List ℕ) → (length bytes == 0) ≡ b → FitsOutput start bytes
    → output_of (record { text = encode_of standard bytes; start = pos start }) ≡ Ok (record { chunk = chunk_of start bytes; bytes = bytes })
unfolding output_of bytes_of start_of
output_by true start bytes e h = rw (base64_is bytes h.bytes, le-leb (length bytes) 32768 h.size) (rw e refl)
output_by false start bytes e h =
    rw (base64_is bytes h.bytes, le-leb (length bytes) 32768 h.size)
    (rw (e, within_range 0 (67108864 - length bytes) start (omega arith) (omega (arith, h.end_))) refl)

output_is : (start : ℕ) (bytes : List ℕ) → FitsOutput start bytes
    → output_of (record { text = encode_of standard bytes; start = pos start }) ≡ Ok (record { chunk = chunk_of start bytes; bytes = bytes })
output_is start bytes h = output_by (length bytes == 0) start bytes refl h

-- ---- the files

raw_file_is : (file : File) → file_in (file_data file) ≡ Ok (raw_file file)
unfolding file_in text_in required_text_in number_in present
raw_file_is file = refl

none_is : (o : Option PropRule) → is_none o ≡ true → o ≡ None
none_is None h = refl
none_is (Some rule) h = absurd (cc)

file_is : (file : File) → FitsOutputFile file → file_of (raw_file file) ≡ Ok file
unfolding file_of
file_is file h = rw (none_is (path_rule file.path) h.1, digest_is file.digest h.0.digest, size_is file.size h.0.size) refl

item_is : (file : File) → FitsOutputFile file → (place : ℕ) → checked_item file_of place (raw_file file) ≡ Ok file
item_is file h place = ap (inside (decimal place)) (file_is file h)

length-map : (files : List File) → length (map raw_file files) ≡ length files
length-map [] = refl
length-map (file ∷ files) = ap suc (length-map files)

files_are : (files : List File) → length files ≤ 64 → All FitsOutputFile files → checked_items file_of (codes "files") 64 (map raw_file files) ≡ Ok files
unfolding checked_items
files_are files few h =
    rw (length-map files, le-leb (length files) 64 few)
    (ap (inside (codes "files")) (each_is raw_file (checked_item file_of) (λ file. file) FitsOutputFile item_is 0 files h ∙ ap (λ (l : List File). Ok l) (map_same files)))

-- ---- the end

exit_is : (z : ℤ) → some_number_of (signed z) ≡ Ok (Some z)
exit_is (pos n) = refl
exit_is (negsuc n) = refl

code_is : (z : ℤ) → IsInt z → code_of (Some z) ≡ Ok (Some z)
unfolding code_of
code_is (pos n) h = rw (le-leb n 2147483647 (omega (arith, h))) refl
code_is (negsuc n) h = rw (le-leb n 2147483647 (omega (arith, h))) refl

end_is : (h : Hands) (end : End) → FitsEnd end → length h.files ≤ 64 → All FitsOutputFile h.files
    → end_of (record { exit = record { exit_code = Some end.exit_code; duration_ms = pos end.duration_ms; hard_timeout = end.hard_timeout; io_timeout = end.io_timeout }; dropped = pos end.dropped; files = map raw_file h.files }) ≡ Ok (record { exit_code = Some end.exit_code; duration_ms = end.duration_ms; hard_timeout = end.hard_timeout; io_timeout = end.io_timeout; dropped = end.dropped; files = h.files })
unfolding end_of
end_is h end fits few files =
    rw (
      code_is end.exit_code fits.exit_code,
      within_range 0 (2 ^ 40) end.duration_ms (omega arith) fits.duration_ms,
      within_range 0 (2 ^ 53) end.dropped (omega arith) fits.dropped,
      files_are h.files few files,
    ) refl

no_end_is : end_of (record { exit = record { exit_code = None; duration_ms = pos 0; hard_timeout = false; io_timeout = false }; dropped = pos 0; files = [] }) ≡ Ok (record { exit_code = None; duration_ms = 0; hard_timeout = false; io_timeout = false; dropped = 0; files = [] })
unfolding end_of code_of checked_items
no_end_is =
    rw (within_range 0 (2 ^ 40) 0 (omega arith) (omega arith), within_range 0 (2 ^ 53) 0 (omega arith) (omega arith)) refl

-- ---- the body

run_fields : (id run : List ℕ) (start : ℕ) (bytes : List ℕ)
    → raw_report_in (report_data id run start bytes) ≡ Ok (record { bot = id; run = run; output = record { text = encode_of standard bytes; start = pos start }; end = record { exit = record { exit_code = None; duration_ms = pos 0; hard_timeout = false; io_timeout = false }; dropped = pos 0; files = [] } })
unfolding raw_report_in raw_output_in raw_end_in raw_exit_in text_in required_text_in number_in optional_number_in flag_in items_in present output_members
run_fields id run start bytes = refl

last_fields : (h : Hands) (run : List ℕ) (start : ℕ) (bytes : List ℕ) (end : End) → All FitsOutputFile h.files
    → raw_report_in (last_report_data h.id run start bytes end h.files) ≡ Ok (record { bot = h.id; run = run; output = record { text = encode_of standard bytes; start = pos start }; end = record { exit = record { exit_code = Some end.exit_code; duration_ms = pos end.duration_ms; hard_timeout = end.hard_timeout; io_timeout = end.io_timeout }; dropped = pos end.dropped; files = map raw_file h.files } })
unfolding raw_report_in raw_output_in raw_end_in raw_exit_in text_in required_text_in number_in optional_number_in flag_in items_in present output_members
last_fields h run start bytes end files =
    rw (
      exit_is end.exit_code,
      means_list file_data (object_item file_in) raw_file FitsOutputFile (λ file fits. object_item_is file_in _ (raw_file file) (raw_file_is file)) (codes "files") h.files files,
    ) refl

file_readable : (n : ℕ) → nat_lt 0 n ≡ true → (file : File) → FitsOutputFile file → IsReadable n (file_data file)
file_readable n room file h = (room, refl, (digest_utf8 file.digest h.0.digest, (h.0.path, (omega (arith, h.0.size), tt))))

signed_readable : (z : ℤ) → IsInt z → IsReadable 126 (signed z)
signed_readable (pos n) h = omega (arith, h)
signed_readable (negsuc n) h = omega (arith, h)

run_readable : (id run : List ℕ) (start : ℕ) (bytes : List ℕ) → IsUtf8 id → IsUtf8 run → FitsOutput start bytes → IsReadable 127 (report_data id run start bytes)
unfolding output_members
run_readable id run start bytes named ran h = (refl, refl, (named, (base64_utf8 bytes, (omega (arith, h.end_), (ran, tt)))))

last_readable : (id run : List ℕ) (start : ℕ) (bytes : List ℕ) (end : End) (files : List File) → IsUtf8 id → IsUtf8 run → FitsOutput start bytes → FitsEnd end → All FitsOutputFile files
    → IsReadable 127 (last_report_data id run start bytes end files)
unfolding output_members
last_readable id run start bytes end files named ran h fits all = (
  refl,
  refl,
  (
    named,
    (
      omega (arith, fits.dropped),
      (
        omega (arith, fits.duration_ms),
        (
          signed_readable end.exit_code fits.exit_code,
          (
            (refl, are_readable file_data FitsOutputFile 125 (file_readable 125 refl) files all),
            (
              tt,
              (
                tt,
                (
                  base64_utf8 bytes,
                  (
                    omega (arith, h.end_),
                    (ran, tt),
                  ),
                ),
              ),
            ),
          ),
        ),
      ),
    ),
  ),
)

-- ---- the request

abbrev report_with : Hands → ℕ → Output → Option Last → Report
report_with h run output last = record { bot = h.id; run = run; output = output; last = last }

abbrev asked_at : ℕ → Report → Asked
asked_at place report = record { place = place; request = update_by report; bytes = report.output.bytes }

asks : (pools : List PoolSettings) (h : Hands) (place task try_no : ℕ) (output : Output) (last : Option Last) → IsRun (task, try_no) → place < length pools
    → (pool_at pools (shown_number place task * 16 + try_no) >>= (λ p. Ok (asked_at p (report_with h (shown_number place task * 16 + try_no) output last))))
    ≡ Ok (record { place = place; request = ask.Update h.id task try_no output.chunk last; bytes = output.bytes })
asks pools h place task try_no output last is there =
    rw (
      place_is place task try_no is.0 (omega (arith, is.2)),
      lt-ltb place (length pools) there,
      task_is place task try_no is.0 (omega (arith, is.2)),
      try_is place task try_no (omega (arith, is.2)),
    ) refl

run_report : (h : Hands) (place task try_no start : ℕ) (bytes : List ℕ) → is_name h.id ≡ true → IsPlace place → IsRun (task, try_no) → FitsOutput start bytes
    → report_in (report_data h.id (run_id place (task, try_no)) start bytes)
    ≡ Ok (report_with h (shown_number place task * 16 + try_no) (record { chunk = chunk_of start bytes; bytes = bytes }) None)
unfolding report_in report_of
run_report h place task try_no start bytes named at is out =
    rw (run_fields h.id (run_id place (task, try_no)) start bytes, name_is h.id named, run_id_is place (task, try_no) at is, output_is start bytes out, no_end_is) refl

last_report : (h : Hands) (place task try_no start : ℕ) (bytes : List ℕ) (end : End) → is_name h.id ≡ true → IsPlace place → IsRun (task, try_no) → FitsOutput start bytes → FitsLast h (Some end)
    → report_in (last_report_data h.id (run_id place (task, try_no)) start bytes end h.files)
    ≡ Ok (report_with h (shown_number place task * 16 + try_no) (record { chunk = chunk_of start bytes; bytes = bytes }) (Some (last_by h end)))
unfolding report_in report_of
last_report h place task try_no start bytes end named at is out fits =
    rw (
      last_fields h (run_id place (task, try_no)) start bytes end fits.2,
      name_is h.id named,
      run_id_is place (task, try_no) at is,
      output_is start bytes out,
      end_is h end fits.0 fits.1 fits.2,
    ) refl

pub report_is_meant : ReportsAreMeant
unfolding asked_of object_in update_of update_data
report_is_meant h place task try_no start size None settings parts named text at there is out fits =
    let run = run_id place (task, try_no) in
    let bytes = chunk h size in
    ap (λ o. object_of o >>= update_of settings.pools) (reading-compact_text (report_data h.id run start bytes) (run_readable h.id run start bytes text (run_id_utf8 place (task, try_no) at is) out))
    ∙ rw (run_report h place task try_no start bytes named at is out) (asks settings.pools h place task try_no (record { chunk = chunk_of start bytes; bytes = bytes }) None is there)
report_is_meant h place task try_no start size (Some end) settings parts named text at there is out fits =
    let run = run_id place (task, try_no) in
    let bytes = chunk h size in
    ap (λ o. object_of o >>= update_of settings.pools)
    (reading-compact_text (last_report_data h.id run start bytes end h.files) (last_readable h.id run start bytes end h.files text (run_id_utf8 place (task, try_no) at is) out fits.0 fits.2))
    ∙ rw (last_report h place task try_no start bytes end named at is out fits) (asks settings.pools h place task try_no (record { chunk = chunk_of start bytes; bytes = bytes }) (Some (last_by h end)) is there)

-- The report of a bot on its run.
use Rattle.std.specs.Prelude.{ℤ, ◌^◌, Option, Result, Ok, codes}
use Rattle.std.specs.Option.{option_map}
use Rattle.serde_json.specs.Data.{Data}
use Rattle.task_props.specs.declared.prop_fault.PropFault.{PropFault}
use Rattle.swarm_model.specs.declared.attempt.Last.{Last}
use Rattle.swarm_model.specs.declared.request.Request.{Request}
use Rattle.swarm_model.specs.declared.request.Request.TheVariants as ask
use Rattle.json_fields.specs.Readings.{at, ◌>>=◌}
use Rattle.json_fields.specs.Fields.{required_text_at, number_at, optional_number_at, flag_at}
use Rattle.json_fields.specs.Ranges.{whole_at}
use Rattle.json_fields.specs.Ids.{run_of, task_of_id, try_of_id}
use Rattle.bot_bodies.specs.declared.reports.RawExit.{RawExit}
use Rattle.bot_bodies.specs.declared.reports.RawEnd.{RawEnd}
use Rattle.bot_bodies.specs.declared.reports.RawReport.{RawReport}
use Rattle.bot_bodies.specs.declared.reports.End.{End}
use Rattle.bot_bodies.specs.declared.reports.Report.{Report}
use Rattle.bot_bodies.specs.Names.{name_at}
use Rattle.bot_bodies.specs.ExitCodes.{code_of}
use Rattle.bot_bodies.specs.Outputs.{raw_output_in, output_of}
use Rattle.bot_bodies.specs.Files.{files_in, files_of}

-- ---- fields

-- how the run ended; it has where there is an exit code
unfoldable pub raw_exit_in : Data → Result RawExit PropFault
raw_exit_in d = do
  code ← optional_number_at (codes "exit_code") d
  duration ← number_at (codes "duration_ms") d
  hard ← flag_at (codes "hard_timeout") d
  io ← flag_at (codes "io_timeout") d
  Ok (record { exit_code = code; duration_ms = duration; hard_timeout = hard; io_timeout = io })

-- and what is left of it
unfoldable pub raw_end_in : Data → Result RawEnd PropFault
raw_end_in d = do
  exit ← raw_exit_in d
  dropped ← number_at (codes "dropped") d
  files ← files_in d
  Ok (record { exit = exit; dropped = dropped; files = files })

unfoldable pub raw_report_in : Data → Result RawReport PropFault
raw_report_in d = do
  bot ← required_text_at (codes "bot_id") d
  run ← required_text_at (codes "task_id") d
  output ← raw_output_in d
  end ← raw_end_in d
  Ok (record { bot = bot; run = run; output = output; end = end })

-- ---- rules

unfoldable pub end_of : RawEnd → Result End PropFault
end_of raw = do
  code ← at (codes "exit_code") (code_of raw.exit.exit_code)
  duration ← whole_at (codes "duration_ms") 0 (2 ^ 40) raw.exit.duration_ms
  dropped ← whole_at (codes "dropped") 0 (2 ^ 53) raw.dropped
  files ← files_of raw.files
  Ok (record { exit_code = code; duration_ms = duration; hard_timeout = raw.exit.hard_timeout; io_timeout = raw.exit.io_timeout; dropped = dropped; files = files })

abbrev pub last_with : End → ℤ → Last
last_with end code = record {
  exit_code = code;
  duration_ms = end.duration_ms;
  hard_timeout = end.hard_timeout;
  io_timeout = end.io_timeout;
  dropped = end.dropped;
  files = end.files;
}

-- the run has ended where there is an exit code; what else is said of its end counts only then
abbrev pub last_of : End → Option Last
last_of end = option_map (last_with end) end.exit_code

unfoldable pub report_of : RawReport → Result Report PropFault
report_of raw = do
  bot ← name_at (codes "bot_id") raw.bot
  run ← at (codes "task_id") (run_of raw.run)
  output ← output_of raw.output
  end ← end_of raw.end
  Ok (record { bot = bot; run = run; output = output; last = last_of end })

-- all fields are read before the other rules are tried
unfoldable pub report_in : Data → Result Report PropFault
report_in d = do
  raw ← raw_report_in d
  report_of raw

-- ---- what it asks for

abbrev pub update_by : Report → Request
update_by report = ask.Update report.bot (task_of_id report.run) (try_of_id report.run) report.output.chunk report.last

-- What an example unfolds to compute what a body says.
use Rattle.std.specs.Prelude.{⊤}
use Rattle.base64.proofs.OnLiterals.{base64_on_literals}
use Rattle.json_fields.specs.Checks.{checked_items}
use Rattle.json_fields.specs.Fields.{present, text_in, required_text_in, number_in, optional_number_in, flag_in, list_in, items_in, unknown_key}
use Rattle.json_fields.specs.Ids.{id_of, run_of}
use Rattle.json_fields.specs.Ranges.{whole_in}
use Rattle.bot_bodies.specs.Names.{name_of}
use Rattle.bot_bodies.specs.ExitCodes.{code_of}
use Rattle.bot_bodies.specs.Outputs.{raw_output_in, bytes_of, start_of, output_of}
use Rattle.bot_bodies.specs.Reports.{raw_exit_in, raw_end_in, raw_report_in, end_of, report_of, report_in}

-- fields, and what is read of their texts and numbers
unfoldable pub fields_are_read : ⊤
unfolding present text_in required_text_in number_in optional_number_in flag_in list_in items_in unknown_key checked_items id_of run_of whole_in
fields_are_read = tt

-- reports of bots, with their base64
unfoldable pub reports_are_read : ⊤
unfolding fields_are_read base64_on_literals name_of code_of raw_output_in bytes_of start_of output_of raw_exit_in raw_end_in raw_report_in end_of report_of report_in
reports_are_read = tt

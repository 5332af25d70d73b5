-- A piece of the output of a run.
use Rattle.std.specs.Prelude.{ℕ, ℤ, ◌-◌, ◌==◌, nat_le, List, length, Option, Some, None, if◌then◌else◌, Result, Ok, Err, codes}
use Rattle.base64.specs.declared.decode.DecodeError.{DecodeError}
use Rattle.base64.specs.Engines.{standard}
use Rattle.base64.specs.GeneralPurpose.{decode_of}
use Rattle.sha2.specs.Sha256.{sha256}
use Rattle.serde_json.specs.Data.{Data}
use Rattle.task_props.specs.declared.prop_rule.PropRule.{PropRule}
use Rattle.task_props.specs.declared.prop_rule.PropRule.TheVariants.{Count, Grammar}
use Rattle.task_props.specs.declared.prop_fault.PropFault.{PropFault}
use Rattle.swarm_model.specs.declared.attempt.Chunk.{Chunk}
use Rattle.json_fields.specs.Readings.{at, ◌>>=◌}
use Rattle.json_fields.specs.Fields.{text_at, number_at}
use Rattle.json_fields.specs.Ranges.{whole_in}
use Rattle.bot_bodies.specs.declared.outputs.RawOutput.{RawOutput}
use Rattle.bot_bodies.specs.declared.outputs.Output.{Output}

unfoldable pub raw_output_in : Data → Result RawOutput PropFault
raw_output_in d = do
  text ← text_at (codes "output") d
  start ← number_at (codes "output_chunk_start") d
  Ok (record { text = text; start = start })

abbrev pub few_bytes : Result (List ℕ) DecodeError → Result (List ℕ) PropRule
few_bytes (Ok bytes) = if nat_le (length bytes) 32768 then Ok bytes else Err Count
few_bytes (Err e) = Err Grammar

-- the bytes of which the text is the standard base64, with its padding: at most 32768
unfoldable pub bytes_of : List ℕ → Result (List ℕ) PropRule
bytes_of text = few_bytes (decode_of standard text)

-- where the piece begins: it ends within 67108864 bytes; an empty one is none, and begins anywhere
unfoldable pub start_of : List ℕ → ℤ → Result ℕ PropRule
start_of bytes start = if length bytes == 0 then Ok 0 else whole_in 0 (67108864 - length bytes) start

-- the chunk that begins there, where there are bytes
abbrev pub chunk_of : ℕ → List ℕ → Option Chunk
chunk_of start bytes = if length bytes == 0 then None else Some (record { start = start; size = length bytes; digest = sha256 bytes })

unfoldable pub output_of : RawOutput → Result Output PropFault
output_of raw = do
  bytes ← at (codes "output") (bytes_of raw.text)
  start ← at (codes "output_chunk_start") (start_of bytes raw.start)
  Ok (record { chunk = chunk_of start bytes; bytes = bytes })

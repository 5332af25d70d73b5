-- Lines of a small base, and what an example unfolds to compute one.
use Rattle.std.specs.Prelude.{ℕ, ⊤, List, codes}
use Rattle.std.specs.Fmt.{digits}
use Rattle.hex.specs.Hex.{encode_with}
use Rattle.serde_json.proofs.OnLiterals.{serde_json_on_literals}
use Rattle.base_lines.specs.Attempts.{attempt_data}
use Rattle.base_lines.specs.Rows.{pool_data, bot_data, blob_data}
use Rattle.base_lines.specs.Lines.{row_line}

unfoldable pub base_lines_are_written : ⊤
unfolding digits encode_with serde_json_on_literals attempt_data pool_data bot_data blob_data row_line
base_lines_are_written = tt

abbrev pub pool_line : List ℕ
pool_line = codes "{\"k\":\"pool\",\"last\":1120,\"placed\":0}"

abbrev pub bot_line : List ℕ
bot_line =
    codes
    "{\"b\":1,\"contact\":1000,\"dead\":false,\"dims\":[[\"id\",[\"b1\"]],[\"pool\",[\"default\"]]],\"id\":\"b1\",\"k\":\"bot\",\"q\":\"\",\"session\":\"1\",\"streak\":0,\"terminating\":false}"

abbrev pub blob_line : List ℕ
blob_line =
    codes "{\"at\":0,\"deadline\":605800,\"digest\":\"5891b5b522d5df086d0ff0b110fbd9d21bb4fc7163af34d08286a2e846f6be03\",\"k\":\"blob\",\"n\":1,\"size\":6}"

abbrev pub run_text : List ℕ
run_text = codes "{\"b\":1,\"begun\":1000,\"chunks\":[],\"claim\":\"c1\",\"kill\":true,\"last\":null,\"tail\":null,\"try\":1}"

-- Lines of a small log, and what an example unfolds to compute one.
use Rattle.std.specs.Prelude.{ℕ, ⊤, List, [], ◌∷◌, codes}
use Rattle.std.specs.Fmt.{digits}
use Rattle.hex.specs.Hex.{encode_with}
use Rattle.serde_json.proofs.OnLiterals.{serde_json_on_literals}
use Rattle.entry_lines.specs.Kinds.{entry_data}
use Rattle.entry_lines.specs.Lines.{line}

unfoldable pub lines_are_written : ⊤
unfolding digits encode_with serde_json_on_literals entry_data line
lines_are_written = tt

-- what `sha256sum` says of the six bytes of `hello` and a line's end
abbrev pub hello_digest : List ℕ
hello_digest =
    0x58 ∷ 0x91 ∷ 0xB5 ∷ 0xB5 ∷ 0x22 ∷ 0xD5 ∷ 0xDF ∷ 0x08 ∷ 0x6D ∷ 0x0F ∷ 0xF0 ∷
    0xB1 ∷ 0x10 ∷ 0xFB ∷ 0xD9 ∷ 0xD2 ∷ 0x1B ∷ 0xB4 ∷ 0xFC ∷ 0x71 ∷ 0x63 ∷ 0xAF ∷
    0x34 ∷ 0xD0 ∷ 0x82 ∷ 0x86 ∷ 0xA2 ∷ 0xE8 ∷ 0x46 ∷ 0xF6 ∷ 0xBE ∷ 0x03 ∷ []

abbrev pub claim_line : List ℕ
claim_line = codes "{\"b\":1,\"claim\":\"c1\",\"k\":\"claim\",\"m\":1000,\"p\":0,\"t\":1}"

abbrev pub update_line : List ℕ
update_line =
    codes
    "{\"b\":1,\"chunk\":[0,6,\"5891b5b522d5df086d0ff0b110fbd9d21bb4fc7163af34d08286a2e846f6be03\"],\"k\":\"update\",\"last\":null,\"m\":1001,\"p\":0,\"t\":1,\"try\":1}"

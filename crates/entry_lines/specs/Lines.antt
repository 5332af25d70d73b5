-- The line of an entry, and the entry of a line.
use Rattle.std.specs.Prelude.{◌≡◌, ℕ, List, Option, Some, None, if◌then◌else◌}
use Rattle.serde_json.specs.Read.{read}
use Rattle.serde_json.specs.Written.{compact_text}
use Rattle.dimensions.specs.Alike.{same}
use Rattle.swarm_model.specs.declared.entry.Entry.{Entry}
use Rattle.line_parts.specs.Finding.{◌>>=◌}
use Rattle.entry_lines.specs.Kinds.{entry_data, entry_in, HoldsEntry}

-- compact JSON with the keys in order of bytes
unfoldable pub line : Entry → List ℕ
line e = compact_text (entry_data e)

-- the entry, where the text is its line
abbrev pub if_line : List ℕ → Entry → Option Entry
if_line text e = if same (line e) text then Some e else None

-- the entry that is read of a text, where the text is its line
unfoldable pub entry_of_line : List ℕ → Option Entry
entry_of_line text = read text >>= (λ d. entry_in d >>= if_line text)

-- a text of which an entry is read is the line of that entry
abbrev pub LinesAreDistinct : Type 0
LinesAreDistinct = (text : List ℕ) (e : Entry) → entry_of_line text ≡ Some e → line e ≡ text

-- of the line of an entry that entry is read
abbrev pub LinesReadBack : Type 0
LinesReadBack = (e : Entry) → HoldsEntry e → entry_of_line (line e) ≡ Some e

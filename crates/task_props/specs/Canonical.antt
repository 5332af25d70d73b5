-- The canonical text of properties: compact JSON, the keys in order of bytes, and its hash.
use Rattle.std.specs.Prelude.{◌≡◌, ℕ, ◌<◌, ◌^◌, List, [], ◌∷◌}
use Rattle.std.specs.List.{All}
use Rattle.hex.specs.Hex.{encode_lower}
use Rattle.serde_json.specs.Data.{Data, string, array}
use Rattle.serde_json.specs.View.{items_of}
use Rattle.serde_json.specs.Written.{compact_text}
use Rattle.json_values.specs.Values.{whole, list_data}
use Rattle.sha2.specs.Sha256.{sha256}
use Rattle.task_props.specs.Types.{Cache, File, Properties}
use Rattle.task_props.specs.Shown.{properties_with, HasWordTimes}

-- [key, value]
abbrev pub pair_data : List ℕ × List ℕ → Data
pair_data pair = array (items_of (string pair.0 ∷ string pair.1 ∷ []))

-- [name, path]
abbrev pub cache_data : Cache → Data
cache_data cache = array (items_of (string cache.name ∷ string cache.path ∷ []))

-- [path, digest, size]
abbrev pub input_data : File → Data
input_data file = array (items_of (string file.path ∷ string (encode_lower file.digest) ∷ whole file.size ∷ []))

abbrev pub canonical_data : Properties → Data
canonical_data p = properties_with (list_data cache_data p.caches) (list_data pair_data p.dimensions) (list_data pair_data p.env) (list_data input_data p.inputs) p

unfoldable pub canonical : Properties → List ℕ
canonical p = compact_text (canonical_data p)

-- the SHA-256 of the canonical text
unfoldable pub hash : Properties → List ℕ
hash p = sha256 (canonical p)

-- the digests of the inputs are bytes
abbrev pub HasByteDigests : Properties → Type 0
HasByteDigests p = All (λ file. All (λ byte. byte < 256) file.digest) p.inputs

-- the numbers fit their 32 bits
abbrev pub HasWords : Properties → Type 0
HasWords p = HasWordTimes p × All (λ file. file.size < 2 ^ 32) p.inputs

-- a canonical text is that of one properties alone, among those that the code can hold
abbrev pub CanonicalTells : Type 0
CanonicalTells =
    (a b : Properties) → HasByteDigests a → HasByteDigests b → HasWords a → HasWords b
    → canonical a ≡ canonical b → a ≡ b

-- The name of a batch, and the first line of its progress.
use Rattle.std.specs.Prelude.{◌≡◌, ◌≢◌, ℕ, ◌==◌, ◌||◌, ◌&&◌, Bool, true, List, ◌++◌, length, codes, Option, Some, None}
use Rattle.std.specs.List.{list_all}
use Rattle.std.specs.Char.{is_ascii_alphanumeric}
use Rattle.hex.specs.Hex.{encode_lower}
use Rattle.sha2.specs.Sha256.{sha256}
use Rattle.dimensions.specs.Rules.{has_length_to}
use Rattle.task_props.specs.Digests.{is_hex_digit}

-- an ASCII letter or digit, or '-'
abbrev pub is_name_byte : ℕ → Bool
is_name_byte byte = is_ascii_alphanumeric byte || byte == 45

-- 1 to 40 of them
abbrev pub is_batch_name : List ℕ → Bool
is_batch_name name = has_length_to 40 name && list_all is_name_byte name

-- what names a batch in its progress: the file's digest in hexadecimal, a space, and the batch's name
abbrev pub batch_head : List ℕ → List ℕ → List ℕ
batch_head text name = encode_lower (sha256 text) ++ (codes " " ++ name)

abbrev pub is_line_feed : ℕ → Bool
is_line_feed byte = byte == 10

-- 64 hexadecimal digits in lower case
abbrev pub is_digest_text : List ℕ → Bool
is_digest_text text = length text == 64 && list_all is_hex_digit text

-- what stands behind such digits and a space, where a text begins with them
abbrev pub IsBehindDigest : List ℕ → Option (List ℕ) → Type 0
IsBehindDigest text (Some rest) = (digest : List ℕ) × (is_digest_text digest ≡ true) × (text ≡ digest ++ (codes " " ++ rest))
IsBehindDigest text None = (digest rest : List ℕ) → is_digest_text digest ≡ true → text ≢ digest ++ (codes " " ++ rest)

-- the name that is the first line of a text, where that is the name of a batch
abbrev pub IsNameLine : List ℕ → Option (List ℕ) → Type 0
IsNameLine text (Some name) = (is_batch_name name ≡ true) × ((rest : List ℕ) × (text ≡ name ++ (codes "\n" ++ rest)))
IsNameLine text None = (name rest : List ℕ) → is_batch_name name ≡ true → text ≢ name ++ (codes "\n" ++ rest)

-- a progress whose first line has some digest, a space and this name
pub record IsProgressOf (name text : List ℕ) : Type 0 where
  pub digest : List ℕ
  pub rest : List ℕ
  pub is_digest : is_digest_text digest ≡ true
  pub is_name : is_batch_name name ≡ true
  pub whole : text ≡ digest ++ (codes " " ++ (name ++ (codes "\n" ++ rest)))

-- the name in the first line of a progress, where that is such a line
abbrev pub IsNameIn : List ℕ → Option (List ℕ) → Type 0
IsNameIn text (Some name) = IsProgressOf name text
IsNameIn text None = (name : List ℕ) → IsProgressOf name text → ⊥

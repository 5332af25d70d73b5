-- What is read of a JSON value, and of a field of an object.
use Rattle.std.specs.Prelude.{◌≡◌, ℕ, ◌<◌, ◌^◌, ℤ, pos, negsuc, nat_lt, List, length, Option, Some, None, Result, Ok, Err, if◌then◌else◌, ⊤}
use Rattle.std.specs.List.{All}
use Rattle.std.specs.Option.{option_and_then}
use Rattle.serde_json.specs.Data.{Data, number, unsigned, string}
use Rattle.serde_json.specs.Find.{get, as_number, as_u64, as_i64, as_str, of_integer}
use Rattle.hex.specs.declared.error.FromHexError.{FromHexError}
use Rattle.hex.specs.Hex.{encode_lower, decode_sized}
use Rattle.line_parts.specs.declared.line_fault.LineFault.{LineFault}
use Rattle.line_parts.specs.declared.line_fault.LineFault.TheVariants.{Memory, NotALine}

-- the reader answers what is read, or wants memory
abbrev pub FindsValue : {X Y : Type 0} → (X → Y) → Result X LineFault → Option Y → Type 0
FindsValue see (Ok x) reading = reading ≡ Some (see x)
FindsValue see (Err NotALine) reading = reading ≡ None
FindsValue see (Err Memory) reading = ⊤

abbrev pub Finds : {A : Type 0} → Result A LineFault → Option A → Type 0
Finds result reading = FindsValue (λ x. x) result reading

-- where something was read, what is read next
infixl 10 ◌>>=◌
abbrev pub ◌>>=◌ : {A B : Type 0} → Option A → (A → Option B) → Option B
Some x >>= f = f x
None >>= f = None

-- a field of an object
abbrev pub field : {A : Type 0} → (Data → Option A) → List ℕ → Data → Option A
field read key d = get key d >>= read

abbrev pub whole : ℕ → Data
whole n = number (unsigned n)

abbrev pub below : ℕ → ℕ → Option ℕ
below most n = if nat_lt n most then Some n else None

-- a whole number below another
unfoldable pub number_in : ℕ → Data → Option ℕ
number_in most d = option_and_then (below most) (option_and_then as_u64 (as_number d))

abbrev pub signed : ℤ → Data
signed z = number (of_integer z)

-- a number of 32 bits with its sign
abbrev pub IsInt : ℤ → Type 0
IsInt (pos n) = n < 2 ^ 31
IsInt (negsuc n) = n < 2 ^ 31

abbrev pub if_int : ℤ → Option ℤ
if_int (pos n) = if nat_lt n (2 ^ 31) then Some (pos n) else None
if_int (negsuc n) = if nat_lt n (2 ^ 31) then Some (negsuc n) else None

-- a whole number of 32 bits with its sign
unfoldable pub signed_in : Data → Option ℤ
signed_in d = option_and_then if_int (option_and_then as_i64 (as_number d))

abbrev pub digest_data : List ℕ → Data
digest_data digest = string (encode_lower digest)

abbrev pub if_decoded : Result (List ℕ) FromHexError → Option (List ℕ)
if_decoded (Ok digest) = Some digest
if_decoded (Err e) = None

-- 64 hexadecimal digits
unfoldable pub digest_in : Data → Option (List ℕ)
digest_in d = option_and_then (λ text. if_decoded (decode_sized text 32)) (as_str d)

abbrev pub IsDigest : List ℕ → Type 0
IsDigest digest = (length digest ≡ 32) × All (λ byte. byte < 256) digest

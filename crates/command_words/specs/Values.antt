-- The values of options, from what was found of the words.
use Rattle.std.specs.Prelude.{◌&&◌, nat_le, ℕ, Bool, List, [], codes, Option, Some, None, if◌then◌else◌, option_and_then, unwrap_or}
use Rattle.std.specs.Str.{bytes_eq}
use Rattle.std.specs.Str.Parse.{digits_value, without_leading_plus}
use Rattle.clap.specs.ValueTests.{is_unsigned_in}
use Rattle.clap.specs.Words.{Row, Text, first_of}

-- the number, where it lies from least to most
abbrev pub number_within : ℕ → ℕ → ℕ → Option ℕ
number_within least most number = if nat_le least number && nat_le number most then Some number else None

-- the number that a text writes in decimal, where it lies from least to most
abbrev pub number_in : ℕ → ℕ → Text → Option ℕ
number_in least most text = if is_unsigned_in least most text then Some (digits_value 10 (without_leading_plus text)) else None

-- the number of an option, by its name
abbrev pub number_at : Text → ℕ → ℕ → List Row → Option ℕ
number_at id least most rows = option_and_then (number_in least most) (first_of id rows)

-- a flag was given
abbrev pub flag_at : Text → List Row → Bool
flag_at id rows = bytes_eq (unwrap_or (first_of id rows) []) (codes "true")

-- the two, where both are there
abbrev pub both_of : {X Y : Type 0} → Option X → Option Y → Option (X × Y)
both_of (Some x) (Some y) = Some (x, y)
both_of _ _ = None

-- the server and the caller
abbrev pub client_in : List Row → Option (Text × Text)
client_in rows = both_of (first_of (codes "server") rows) (first_of (codes "caller") rows)

-- Digests, and how they are written.
use Rattle.std.specs.Prelude.{ℕ, Bool, ◌&&◌, ◌||◌, ◌==◌, nat_le, nat_lt, List, length, Option, None, if◌then◌else◌}
use Rattle.std.specs.List.{list_all}
use Rattle.std.specs.Char.{is_ascii_digit}
use Rattle.std.specs.Result.{result_ok}
use Rattle.hex.specs.Hex.{decode_sized}

abbrev pub is_byte : ℕ → Bool
is_byte n = nat_lt n 256

-- 32 bytes
abbrev pub is_digest : List ℕ → Bool
is_digest digest = length digest == 32 && list_all is_byte digest

-- a hexadecimal digit in lower case
abbrev pub is_hex_digit : ℕ → Bool
is_hex_digit c = is_ascii_digit c || (nat_le 97 c && nat_le c 102)

-- the digest of which a text is the 64 hexadecimal digits in lower case
unfoldable pub digest_in : List ℕ → Option (List ℕ)
digest_in text = if list_all is_hex_digit text then result_ok (decode_sized text 32) else None

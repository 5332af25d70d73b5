-- The digits of a digest are read as the digest.
use Rattle.std.proofs.Common.{◌≡◌, ℕ, zero, suc, ◌/◌, ◌%◌, ◌<◌, ◌&&◌, nat_lt, true, List, [], ◌∷◌, length, slice_index, Some, refl, arith, All}
use Rattle.std.specs.List.{list_all}
use Rattle.std.specs.Str.{IsUtf8}
use Rattle.std.proofs.lemmas.Bool.{and_parts, and_from, agree_below_at}
use Rattle.json.proofs.Printed.Utf8.{are_ascii, IsUtf8-are_ascii}
use Rattle.hex.specs.Hex.{IsBytes, lower_digits, encode_with, encode_lower}
use Rattle.hex.proofs.HexLemmas.{decode_sized-encode_lower}
use Rattle.task_props.specs.Digests.{is_hex_digit, digest_in}
use Rattle.line_parts.specs.Finding.{IsDigest}

bytes : (xs : List ℕ) → All (λ byte. byte < 256) xs → IsBytes xs
bytes [] h i = omega arith
bytes (x ∷ xs) h zero = h 0 x (omega arith)
bytes (x ∷ xs) h (suc i) = bytes xs (λ k d low. h (suc k) d (omega arith)) i

-- a digit that is written is one of those that are read, and ASCII

written : (d : ℕ) → d < 16 → (is_hex_digit (slice_index lower_digits d) && nat_lt (slice_index lower_digits d) 128) ≡ true
written d low = agree_below_at (λ d. is_hex_digit (slice_index lower_digits d) && nat_lt (slice_index lower_digits d) 128) (λ d. true) 16 d refl low

are_written : (xs : List ℕ) → IsBytes xs → (list_all is_hex_digit (encode_with lower_digits xs) ≡ true) × (are_ascii (encode_with lower_digits xs) ≡ true)
unfolding encode_with
are_written [] h = (refl, refl)
are_written (b ∷ rest) h =
    let fits : b < 256 = h 0 in
    let above : b / 16 < 16 = omega arith in
    let below : b % 16 < 16 = omega arith in
    let high = and_parts _ _ (written (b / 16) above) in
    let low = and_parts _ _ (written (b % 16) below) in
    let more = are_written rest (λ k. h (suc k)) in
    (and_from _ _ high.0 (and_from _ _ low.0 more.0), and_from _ _ high.1 (and_from _ _ low.1 more.1))

pub digest_utf8 : (digest : List ℕ) → IsDigest digest → IsUtf8 (encode_lower digest)
digest_utf8 digest h = IsUtf8-are_ascii (encode_lower digest) (are_written digest (bytes digest h.1)).1

pub digest_is : (digest : List ℕ) → IsDigest digest → digest_in (encode_lower digest) ≡ Some digest
unfolding digest_in
digest_is digest h =
    let fits = bytes digest h.1 in
    rw ((are_written digest fits).0, decode_sized-encode_lower digest 32 h.0 fits) refl

pub digest_digits : (digest : List ℕ) → IsDigest digest → list_all is_hex_digit (encode_lower digest) ≡ true
digest_digits digest h = (are_written digest (bytes digest h.1)).0

-- a digest has digits
pub hex_length : (digest : List ℕ) → IsDigest digest → 0 < length (encode_lower digest)
unfolding encode_with
hex_length [] h = absurd (omega (arith, h.0))
hex_length (b ∷ rest) h = omega arith

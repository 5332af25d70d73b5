-- Numbers and digests are read back as they were written.
use Rattle.std.proofs.Common.{◌≡◌, ℕ, zero, suc, ◌<◌, ◌≤◌, ◌^◌, List, [], ◌∷◌, ℤ, pos, negsuc, false, Some, refl, arith, lt-ltb, All}
use Rattle.hex.specs.Hex.{IsBytes}
use Rattle.hex.proofs.HexLemmas.{decode_sized-encode_lower}
use Rattle.serde_json.specs.Written.{has_float}
use Rattle.line_parts.specs.Finding.{whole, number_in, signed, signed_in, IsInt, digest_data, digest_in, IsDigest}

pub number_reads_back : (most n : ℕ) → n < most → number_in most (whole n) ≡ Some n
unfolding number_in
number_reads_back most n h = rw (lt-ltb n most h) refl

pub zero_le : (n : ℕ) → 0 ≤ n
zero_le n = omega arith

pub signed_reads_back : (z : ℤ) → IsInt z → signed_in (signed z) ≡ Some z
unfolding signed_in
signed_reads_back (pos n) h =
    let long : n < 2 ^ 63 = omega (arith, h) in
    rw (lt-ltb n (2 ^ 63) long, lt-ltb n (2 ^ 31) h) refl
signed_reads_back (negsuc n) h = rw (lt-ltb n (2 ^ 31) h) refl

pub signed_has_no_float : (z : ℤ) → has_float (signed z) ≡ false
signed_has_no_float (pos n) = refl
signed_has_no_float (negsuc n) = refl

bytes : (xs : List ℕ) → All (λ byte. byte < 256) xs → IsBytes xs
bytes [] h i = omega arith
bytes (x ∷ xs) h zero = h 0 x (omega arith)
bytes (x ∷ xs) h (suc i) = bytes xs (λ k d low. h (suc k) d (omega arith)) i

pub digest_reads_back : (digest : List ℕ) → IsDigest digest → digest_in (digest_data digest) ≡ Some digest
unfolding digest_in
digest_reads_back digest h = rw (decode_sized-encode_lower digest 32 h.0 (bytes digest h.1)) refl

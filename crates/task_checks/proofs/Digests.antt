-- What a text of hexadecimal digits writes is a digest.
use Rattle.std.proofs.Common.{◌≡◌, ℕ, ◌==◌, List, [], ◌∷◌, length, Bool, true, false, Option, Some, None, Result, Ok, Err, suc, refl, sym, ◌∙◌, ap, arith}
use Rattle.std.specs.Prelude.{is_none, unwrap_or, if◌then◌else◌}
use Rattle.std.specs.List.{list_all}
use Rattle.std.specs.Result.{result_ok}
use Rattle.std.proofs.lemmas.Bool.{lt-ltb}
use Rattle.hex.specs.Hex.{IsBytes, decode_sized}
use Rattle.hex.specs.declared.error.FromHexError.{FromHexError}
use Rattle.hex.proofs.HexLemmas.{decode_sized-ok, decode_sized-twice, decode_of-ok}
use Rattle.dimensions.proofs.Choosing.{when-none}
use Rattle.dimensions.proofs.Tests.{and-both}
use Rattle.task_props.specs.FieldRules.{digest_rule}
use Rattle.task_props.specs.Digests.{is_byte, is_digest, is_hex_digit, digest_in}
use Rattle.task_checks.specs.Reading.{digest_of}

all_bytes : (bytes : List ℕ) → IsBytes bytes → list_all is_byte bytes ≡ true
all_bytes [] h = refl
all_bytes (byte ∷ bytes) h = and-both (is_byte byte) _ (lt-ltb byte 256 (h 0)) (all_bytes bytes (λ i. h (suc i)))

decoded : (r : Result (List ℕ) FromHexError) (digest : List ℕ) → result_ok r ≡ Some digest → r ≡ Ok digest
decoded (Ok bytes) digest h = ap (λ o. Ok (unwrap_or o [])) h
decoded (Err e) digest h = absurd (cc)

where_true : {A : Type 0} (t : Bool) (o : Option A) (a : A) → (if t then o else None) ≡ Some a → o ≡ Some a
where_true true o a h = h
where_true false o a h = absurd (cc)

pub is_digest-digest_in : (text digest : List ℕ) → digest_in text ≡ Some digest → is_digest digest ≡ true
unfolding digest_in
is_digest-digest_in text digest h =
    let sized = decoded (decode_sized text 32) digest (where_true (list_all is_hex_digit text) _ digest h) in
    let twice = decode_sized-ok text 32 digest sized in
    let pairs = decode_of-ok text digest (sym (decode_sized-twice text 32 twice) ∙ sized) in
    let count : length digest ≡ 32 = omega (arith, twice, pairs.2) in
    and-both (length digest == 32) _ (rw count refl) (all_bytes digest pairs.3)

found_digest : (text : List ℕ) (found : Option (List ℕ)) → digest_in text ≡ found → is_none found ≡ false → is_digest (unwrap_or found []) ≡ true
found_digest text None e h = absurd (cc)
found_digest text (Some digest) e h = is_digest-digest_in text digest e

-- where a text keeps the rule, it writes a digest
pub is_digest-digest_of : (text : List ℕ) → digest_rule text ≡ None → is_digest (digest_of text) ≡ true
is_digest-digest_of text none = found_digest text (digest_in text) refl (when-none _ _ none)

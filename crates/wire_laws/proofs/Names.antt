-- The names of sessions and claims are names that the server takes.
use Rattle.std.proofs.Common.{◌≡◌, ℕ, ◌<◌, ◌≤◌, ◌&&◌, nat_le, not, Bool, true, false, List, [], ◌∷◌, ◌++◌, length, decimal, Ok, refl, sym, ◌∙◌, inl, inr, arith, length-append}
use Rattle.std.specs.Prelude.{codes}
use Rattle.std.specs.List.{list_all}
use Rattle.std.specs.Char.{digit_value}
use Rattle.std.specs.Str.{IsUtf8}
use Rattle.std.specs.Str.Parse.{AllDigits}
use Rattle.std.proofs.lemmas.Bool.{and_parts, and_from, and_cases, not-false, agree_below_at, le-leb, false≢true}
use Rattle.std.proofs.lemmas.Str.{IsUtf8-append, IsUtf8-from_ascii}
use Rattle.std.proofs.lemmas.Fmt.{decimal_is_IsNumeral, length-decimal-le, decimal_nonempty, IsAscii-decimal}
use Rattle.json.proofs.Printed.Utf8.{IsUtf8-are_ascii}
use Rattle.dimensions.specs.Rules.{is_key_byte, has_length_to}
use Rattle.swarm_model.specs.Fits.{is_name}
use Rattle.bot_bodies.specs.Names.{name_of}
use Rattle.bot_requests.specs.Bodies.{session_name, claim_name}
use Rattle.wire_laws.specs.Fitting.{IsLong}

abbrev are_key_bytes : List ℕ → Bool
are_key_bytes s = list_all is_key_byte s

digit_range : (d : ℕ) → digit_value d < 10 → (48 ≤ d) × (d ≤ 57)
digit_range d h = grind arith

digit_is_key_byte : (d : ℕ) → 48 ≤ d → d ≤ 57 → is_key_byte d ≡ true
digit_is_key_byte d low high =
    elim (and_cases (nat_le 48 d) (not (is_key_byte d)) (agree_below_at (λ c. nat_le 48 c && not (is_key_byte c)) (λ c. false) 58 d refl (omega (arith, high)))) [
      | inl e ↦ absurd (false≢true (sym e ∙ le-leb 48 d low))
      | inr e ↦ not-false (is_key_byte d) e
    ]

digits_are_key_bytes : (s : List ℕ) → AllDigits 10 s → are_key_bytes s ≡ true
digits_are_key_bytes [] h = refl
digits_are_key_bytes (c ∷ s) h = let range = digit_range c h.0 in and_from _ _ (digit_is_key_byte c range.0 range.1) (digits_are_key_bytes s h.1)

decimal_is_key : (n : ℕ) → IsLong n → are_key_bytes (decimal n) ≡ true
decimal_is_key n h = digits_are_key_bytes (decimal n) (decimal_is_IsNumeral n h).0.1

both : (s t : List ℕ) → are_key_bytes s ≡ true → are_key_bytes t ≡ true → are_key_bytes (s ++ t) ≡ true
both [] t h g = g
both (c ∷ s) t h g = let p = and_parts _ _ h in and_from _ _ p.0 (both s t p.1 g)

short : (n : ℕ) → IsLong n → length (decimal n) ≤ 20
short n h = length-decimal-le 20 n (omega arith) (omega (arith, h)) h

name_from : (s : List ℕ) → 1 ≤ length s → length s ≤ 64 → are_key_bytes s ≡ true → is_name s ≡ true
name_from s some few h = and_from _ _ (and_from _ _ (le-leb 1 (length s) some) (le-leb (length s) 64 few)) h

pub name_is : (s : List ℕ) → is_name s ≡ true → name_of s ≡ Ok s
unfolding name_of
name_is s h = let p = and_parts (has_length_to 64 s) (list_all is_key_byte s) h in rw (p.0, p.1) refl

pub session_is_name : (first session : ℕ) → IsLong first → IsLong session → is_name (session_name first session) ≡ true
unfolding session_name
session_is_name first session f s =
    let tail = codes "-" ++ decimal session in
    name_from (decimal first ++ tail)
    (omega (arith, length-append (decimal first) tail, decimal_nonempty first f))
    (omega (arith, length-append (decimal first) tail, length-append (codes "-") (decimal session), short first f, short session s))
    (both (decimal first) tail (decimal_is_key first f) (both (codes "-") (decimal session) refl (decimal_is_key session s)))

pub claim_is_name : (first session claim : ℕ) → IsLong first → IsLong session → IsLong claim → is_name (claim_name first session claim) ≡ true
unfolding claim_name
claim_is_name first session claim f s c =
    let last = codes "-" ++ decimal claim in
    let middle = decimal session ++ last in
    let tail = codes "-" ++ middle in
    name_from (decimal first ++ tail)
    (omega (arith, length-append (decimal first) tail, decimal_nonempty first f))
    (omega (
      arith,
      length-append (decimal first) tail,
      length-append (codes "-") middle,
      length-append (decimal session) last,
      length-append (codes "-") (decimal claim),
      short first f,
      short session s,
      short claim c,
    ))
    (both (decimal first) tail (decimal_is_key first f)
    (both (codes "-") middle refl (both (decimal session) last (decimal_is_key session s) (both (codes "-") (decimal claim) refl (decimal_is_key claim c)))))

utf8_decimal : (n : ℕ) → IsLong n → IsUtf8 (decimal n)
utf8_decimal n h = IsUtf8-from_ascii (decimal n) (IsAscii-decimal n h)

dash_utf8 : IsUtf8 (codes "-")
dash_utf8 = IsUtf8-are_ascii (codes "-") refl

pub session_utf8 : (first session : ℕ) → IsLong first → IsLong session → IsUtf8 (session_name first session)
unfolding session_name
session_utf8 first session f s =
    IsUtf8-append (decimal first) (codes "-" ++ decimal session) (utf8_decimal first f) (IsUtf8-append (codes "-") (decimal session) dash_utf8 (utf8_decimal session s))

pub claim_utf8 : (first session claim : ℕ) → IsLong first → IsLong session → IsLong claim → IsUtf8 (claim_name first session claim)
unfolding claim_name
claim_utf8 first session claim f s c =
    IsUtf8-append (decimal first) (codes "-" ++ (decimal session ++ (codes "-" ++ decimal claim))) (utf8_decimal first f)
    (IsUtf8-append (codes "-") (decimal session ++ (codes "-" ++ decimal claim)) dash_utf8
    (IsUtf8-append (decimal session) (codes "-" ++ decimal claim) (utf8_decimal session s) (IsUtf8-append (codes "-") (decimal claim) dash_utf8 (utf8_decimal claim c))))

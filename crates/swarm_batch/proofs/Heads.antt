-- The first line of a progress.
use Rattle.std.proofs.Common.{◌≡◌, ℕ, suc, cond, ◌+◌, ◌<◌, ◌≤◌, ◌==◌, Bool, true, false, List, [], ◌∷◌, ◌++◌, length, take, drop, get_or, Option, Some, None, refl, sym, ap, ◌∙◌, length-take-le, nat_lt, option_map, Bor, arith, true≢false}
use Rattle.std.specs.Prelude.{codes, nat_eq}
use Rattle.std.specs.List.{list_all}
use Rattle.std.specs.List.{position, position_or_len}
use Rattle.std.specs.Option.{MatchOption}
use Rattle.std.specs.Cmp.Lexicographic.{pointwise}
use Rattle.std.proofs.Math.Seq.{take-append_seam, drop-cons}
use Rattle.std.proofs.lemmas.List.Elements.{All-from_get_or}
use Rattle.std.proofs.lemmas.List.Folds.{list_any_none}
use Rattle.std.proofs.lemmas.List.Quantifiers.{position-Some}
use Rattle.std.proofs.lemmas.Option.{none-some}
use Rattle.std.proofs.lemmas.List.{get_or-take}
use Rattle.std.proofs.lemmas.List.{take-append-drop, append_cancel_left}
use Rattle.std.proofs.lemmas.Bool.{and_parts, and_from, eqb-true, eq-eqb, ne_eqb}
use Rattle.swarm_batch.specs.Names.{is_name_byte, is_batch_name, is_line_feed, is_digest_text, IsBehindDigest, IsNameLine, IsNameIn}
use Rattle.task_props.specs.Digests.{is_hex_digit}
use Rattle.swarm_batch.proofs.Splitting.{Lacks, split_first, lacks_split}
use Rattle.swarm_batch.proofs.Walking.{stripped, not_stripped}

name_byte : (c : ℕ) → is_name_byte c ≡ true → (c == 10) ≡ false
name_byte c h = ne_eqb c 10 (λ e. true≢false (sym h ∙ ap is_name_byte e))

bytes_lack : (cs : List ℕ) → list_all is_name_byte cs ≡ true → Lacks 10 cs
bytes_lack [] h = refl
bytes_lack (c ∷ cs) h =
    let parts = and_parts (is_name_byte c) (list_all is_name_byte cs) h in
    let one = name_byte c parts.0 in
    let rest = bytes_lack cs parts.1 in
    grind (arith, one, rest)

-- no line ends in a name
pub name_lacks : (name : List ℕ) → is_batch_name name ≡ true → Lacks 10 name
name_lacks name h = bytes_lack name (and_parts _ (list_all is_name_byte name) h).1

pub name_found : (text name : List ℕ) (rest : List ℕ) → IsBehindDigest text (Some rest) → IsNameLine rest (Some name) → IsNameIn text (Some name)
name_found text name rest behind line = record {
  digest = behind.0;
  rest = line.1.0;
  is_digest = behind.1;
  is_name = line.0;
  whole = behind.2 ∙ ap (λ (t : List ℕ). behind.0 ++ (codes " " ++ t)) line.1.1;
}

pub no_digest : (text : List ℕ) → IsBehindDigest text None → IsNameIn text None
no_digest text none name is = none is.digest (name ++ (codes "\n" ++ is.rest)) is.is_digest is.whole

hex_byte : (c : ℕ) → is_hex_digit c ≡ true → (c == 32) ≡ false
hex_byte c h = ne_eqb c 32 (λ e. true≢false (sym h ∙ ap is_hex_digit e))

digits_lack : (cs : List ℕ) → list_all is_hex_digit cs ≡ true → Lacks 32 cs
digits_lack [] h = refl
digits_lack (c ∷ cs) h =
    let parts = and_parts (is_hex_digit c) (list_all is_hex_digit cs) h in
    let one = hex_byte c parts.0 in
    let rest = digits_lack cs parts.1 in
    grind (arith, one, rest)

digest_lacks : (text : List ℕ) → is_digest_text text ≡ true → Lacks 32 text
digest_lacks text h = digits_lack text (and_parts (length text == 64) (list_all is_hex_digit text) h).1

pub no_name : (text rest : List ℕ) → IsBehindDigest text (Some rest) → IsNameLine rest None → IsNameIn text None
no_name text rest behind none name is =
    none name is.rest is.is_name (split_first 32 behind.0 is.digest rest (name ++ (codes "\n" ++ is.rest)) (digest_lacks behind.0 behind.1) (digest_lacks is.digest is.is_digest) (sym behind.2 ∙ is.whole)).1

-- ---- the parts of the first line

digest_length : (digest : List ℕ) → is_digest_text digest ≡ true → length digest ≡ 64
digest_length digest h = eqb-true (length digest) 64 (and_parts (length digest == 64) (list_all is_hex_digit digest) h).0

first_digits : (text digest rest : List ℕ) → is_digest_text digest ≡ true → text ≡ digest ++ (codes " " ++ rest) → (take 64 text ≡ digest) × (drop 64 text ≡ codes " " ++ rest)
first_digits text digest rest h e =
    let size = digest_length digest h in
    let front : take 64 text ≡ digest = ap (λ (n : ℕ). take n text) (sym size) ∙ ap (take (length digest)) e ∙ take-append_seam digest (codes " " ++ rest) in
    let whole : digest ++ drop 64 text ≡ digest ++ (codes " " ++ rest) = ap (λ (t : List ℕ). t ++ drop 64 text) (sym front) ∙ take-append-drop 64 text ∙ e in
    (front, append_cancel_left digest (drop 64 text) (codes " " ++ rest) whole)

pub behind : (text digest rest space : List ℕ) (r : Option (Bor (List ℕ))) → 64 ≤ length text → digest ≡ take 64 text → rest ≡ drop 64 text → space ≡ codes " " → list_all is_hex_digit digest ≡ true
    → MatchOption r (pointwise nat_eq (take (length space) rest) space ≡ false) (λ x. (pointwise nat_eq (take (length space) rest) space ≡ true) × (x.now ≡ drop (length space) rest) × (length x.now + length space ≡ length rest))
    → IsBehindDigest text (option_map (λ x. x.now) r)
behind text digest rest space (Some x) long front back is hex h =
    let size : length digest ≡ 64 = ap length front ∙ length-take-le 64 text long in (
      digest,
      and_from (length digest == 64) (list_all is_hex_digit digest) (eq-eqb (length digest) 64 size) hex,
      sym (take-append-drop 64 text) ∙ ap (λ (t : List ℕ). t ++ drop 64 text) (sym front)
          ∙ ap (λ (t : List ℕ). digest ++ t) (sym back ∙ stripped rest space x.now h.0 h.1 ∙ ap (λ (t : List ℕ). t ++ x.now) is),
    )
behind text digest rest space None long front back is hex h = λ d other good e.
    not_stripped rest space other h (back ∙ (first_digits text d other good e).1 ∙ ap (λ (t : List ℕ). t ++ other) (sym is))

pub not_digits : (text : List ℕ) → list_all is_hex_digit (take 64 text) ≡ false → IsBehindDigest text None
not_digits text h digest rest is e =
    true≢false (sym (ap (list_all is_hex_digit) (first_digits text digest rest is e).0 ∙ (and_parts (length digest == 64) (list_all is_hex_digit digest) is).1) ∙ h)

pub name_of : (text rest : List ℕ) (o : Option (List ℕ)) → IsBehindDigest text (Some rest) → IsNameLine rest o → IsNameIn text o
name_of text rest (Some name) behind line = name_found text name rest behind line
name_of text rest None behind line = no_name text rest behind line

-- ---- a line's end

none_at : (xs : List ℕ) → nat_lt (position_or_len is_line_feed xs) (length xs) ≡ false → Lacks 10 xs
none_at [] h = refl
none_at (x ∷ xs) h = by_first (none_at xs) (is_line_feed x) refl
  where
    by_first : (nat_lt (position_or_len is_line_feed xs) (length xs) ≡ false → Lacks 10 xs) → (b : Bool) → is_line_feed x ≡ b → Lacks 10 (x ∷ xs)
    by_first later true e = absurd (grind (arith, h, e))
    by_first later false e = (let rest : nat_lt (position_or_len is_line_feed xs) (length xs) ≡ false = grind (arith, h, e) in let more = later rest in grind (arith, e, more))

pub no_line_end : (xs : List ℕ) (o : Option ℕ) → o ≡ position is_line_feed xs → o ≡ None → IsNameLine xs None
no_line_end xs o is none name rest h e = has_end (lacks (nat_lt (position_or_len is_line_feed xs) (length xs)) refl (sym is ∙ none))
  where
    lacks : (b : Bool) → nat_lt (position_or_len is_line_feed xs) (length xs) ≡ b → cond b (Some (position_or_len is_line_feed xs)) None ≡ None → Lacks 10 xs
    lacks true k n = elim (none-some (position_or_len is_line_feed xs) (sym n)) [ ]
    lacks false k n = none_at xs k

    has_end : Lacks 10 xs → ⊥
    has_end l = lacks_split 10 xs name rest l e

ended_at : (xs : List ℕ) (end : ℕ) → position is_line_feed xs ≡ Some end → (end < length xs) × (get_or xs end 0 ≡ 10) × Lacks 10 (take end xs)
ended_at xs end is =
    let at = position-Some is_line_feed xs end 0 is in (
      at.0,
      eqb-true (get_or xs end 0) 10 at.1,
      list_any_none (λ (x : ℕ). x == 10) (take end xs) (All-from_get_or (λ (x : ℕ). (x == 10) ≡ false) (take end xs) 0 (λ i low.
          let short : length (take end xs) ≡ end = length-take-le end xs (omega (arith, at.0)) in
          let below : i < end = omega (arith, low, short) in
          ap (λ (x : ℕ). x == 10) (get_or-take end xs i 0 below) ∙ at.2 i below)),
    )

line_whole : (xs : List ℕ) (end : ℕ) → end < length xs → get_or xs end 0 ≡ 10 → xs ≡ take end xs ++ (10 ∷ drop (suc end) xs)
line_whole xs end low is = sym (take-append-drop end xs) ∙ ap (λ (t : List ℕ). take end xs ++ t) (drop-cons xs end 0 low ∙ ap (λ (x : ℕ). x ∷ drop (suc end) xs) is)

pub line_named : (xs : List ℕ) (o : Option ℕ) (end : ℕ) → o ≡ position is_line_feed xs → o ≡ Some end → is_batch_name (take end xs) ≡ true → IsNameLine xs (Some (take end xs))
line_named xs o end is e h = let at = ended_at xs end (sym is ∙ e) in (h, (drop (suc end) xs, line_whole xs end at.0 at.1))

pub line_unnamed : (xs : List ℕ) (o : Option ℕ) (end : ℕ) → o ≡ position is_line_feed xs → o ≡ Some end → is_batch_name (take end xs) ≡ false → IsNameLine xs None
line_unnamed xs o end is e h name rest good whole =
    let at = ended_at xs end (sym is ∙ e) in
    let same = split_first 10 (take end xs) name (drop (suc end) xs) rest at.2 (name_lacks name good) (sym (line_whole xs end at.0 at.1) ∙ whole) in
    true≢false (sym (ap is_batch_name same.0 ∙ good) ∙ h)

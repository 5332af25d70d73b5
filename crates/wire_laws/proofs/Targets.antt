-- What the server finds at the targets of a bot.
use Rattle.std.proofs.Common.{◌≡◌, ℕ, suc, ◌+◌, ◌<◌, ◌≤◌, ◌&&◌, ◌||◌, nat_le, not, cond, Bool, true, false, List, [], ◌∷◌, ◌++◌, length, take, drop, Some, refl, ap, ◌∙◌, arith, take_at, inl, inr}
use Rattle.std.specs.Prelude.{codes}
use Rattle.std.specs.List.{list_any, list_all, position_or_len, before_first, after_first}
use Rattle.std.proofs.lemmas.Bool.{and_parts, and_from, and_cases, and_right, or_parts, or_from, or_right, not_from_false, not-true, both_ways, cases_lt, lt-leb, ne_eqb, agree_below_at}
use Rattle.std.proofs.lemmas.List.Folds.{list_any-append}
use Rattle.hex.specs.Hex.{encode_lower}
use Rattle.dimensions.specs.Rules.{is_empty}
use Rattle.task_props.specs.Digests.{is_hex_digit}
use Rattle.line_parts.specs.Finding.{IsDigest}
use Rattle.routes.specs.declared.route.Route.TheVariants as route
use Rattle.routes.specs.declared.resource.Resource.TheVariants.{Call, Blob}
use Rattle.routes.specs.Routes.{is_slash, is_question_mark, is_part, blob_path as path_below, pool_part, digest_part, resource_of, blob_resource}
use Rattle.bot_requests.specs.Requests.{blob_path}
use Rattle.wire_laws.proofs.DigestTexts.{digest_digits, hex_length}

-- a target that names a call
pub handshake_found : resource_of (codes "/bot/handshake") ≡ Some (Call route.Handshake)
unfolding resource_of
handshake_found = refl

pub poll_found : resource_of (codes "/bot/poll") ≡ Some (Call route.Poll)
unfolding resource_of
poll_found = refl

pub claim_found : resource_of (codes "/bot/claim") ≡ Some (Call route.Claim)
unfolding resource_of
claim_found = refl

pub update_found : resource_of (codes "/bot/task_update") ≡ Some (Call route.TaskUpdate)
unfolding resource_of
update_found = refl

-- ---- the target of a blob

slash_after : (xs ys : List ℕ) → list_any is_slash xs ≡ false → position_or_len is_slash (xs ++ 47 ∷ ys) ≡ length xs
slash_after [] ys h = refl
slash_after (x ∷ xs) ys h =
    let p = or_parts (is_slash x) _ h in
    ap (λ b. cond (not b) (1 + position_or_len is_slash (xs ++ 47 ∷ ys)) 0) p.0 ∙ omega (arith, slash_after xs ys p.1)

before_is : (xs ys : List ℕ) → list_any is_slash xs ≡ false → before_first is_slash (xs ++ 47 ∷ ys) ≡ xs
before_is xs ys h = ap (λ n. take n (xs ++ 47 ∷ ys)) (slash_after xs ys h) ∙ take_at xs (47 ∷ ys) (length xs) refl

past : (xs : List ℕ) (c : ℕ) (ys : List ℕ) → drop (length xs + 1) (xs ++ c ∷ ys) ≡ ys
past [] c ys = refl
past (x ∷ xs) c ys = let e : length (x ∷ xs) + 1 ≡ suc (length xs + 1) = omega arith in ap (λ n. drop n (x ∷ (xs ++ c ∷ ys))) e ∙ past xs c ys

after_is : (xs ys : List ℕ) → list_any is_slash xs ≡ false → after_first is_slash (xs ++ 47 ∷ ys) ≡ ys
after_is xs ys h = ap (λ n. drop (n + 1) (xs ++ 47 ∷ ys)) (slash_after xs ys h) ∙ past xs 47 ys

-- hexadecimal digits are no slash and no question mark
abbrev is_mark : ℕ → Bool
is_mark c = is_slash c || is_question_mark c

digit_is_no_mark : (c : ℕ) → is_hex_digit c ≡ true → is_mark c ≡ false
digit_is_no_mark c h =
    let low : c < 103 = elim (cases_lt c 103) [ inl l ↦ l | inr high ↦ absurd (both_ways (is_hex_digit c) (beyond c high) h) ] in
    elim (and_cases (is_hex_digit c) (is_mark c) (agree_below_at (λ d. is_hex_digit d && is_mark d) (λ d. false) 103 c refl low)) [
      | inl e ↦ absurd (both_ways (is_hex_digit c) e h)
      | inr e ↦ e
    ]
  where
    beyond : (c : ℕ) → 103 ≤ c → is_hex_digit c ≡ false
    beyond c high =
        or_from _ _ (and_right (nat_le 48 c) _ (lt-leb c 57 (omega (arith, high)))) (and_right (nat_le 97 c) _ (lt-leb c 102 (omega (arith, high))))

no_marks : (s : List ℕ) → list_all is_hex_digit s ≡ true → (list_any is_slash s ≡ false) × (list_any is_question_mark s ≡ false)
no_marks [] h = (refl, refl)
no_marks (c ∷ s) h =
    let p = and_parts (is_hex_digit c) _ h in
    let one = or_parts _ _ (digit_is_no_mark c p.0) in
    let more = no_marks s p.1 in
    (or_from _ _ one.0 more.0, or_from _ _ one.1 more.1)

has_slash : (xs ys : List ℕ) → list_any is_slash (xs ++ 47 ∷ ys) ≡ true
has_slash [] ys = refl
has_slash (x ∷ xs) ys = or_right (is_slash x) _ (has_slash xs ys)

module _ (pool digest : List ℕ) (named : is_part pool ≡ true) (plain : list_any is_question_mark pool ≡ false) (h : IsDigest digest) where
  abbrev hex : List ℕ
  hex = encode_lower digest

  no_slash : list_any is_slash pool ≡ false
  no_slash = not-true _ (and_parts _ _ named).1

  pub pool_is : pool_part (blob_path pool digest) ≡ pool
  unfolding blob_path
  pool_is = before_is pool hex no_slash

  pub digest_part_is : digest_part (blob_path pool digest) ≡ hex
  unfolding blob_path
  digest_part_is = after_is pool hex no_slash

  hex_is_part : is_part hex ≡ true
  hex_is_part =
      and_from _ _ (not_from_false _ (ne_eqb (length hex) 0 (λ e. absurd (omega (arith, e, h.0, hex_length digest h))))) (not_from_false _ (no_marks hex (digest_digits digest h)).0)

  path_is : path_below (blob_path pool digest) ≡ Some (pool ++ 47 ∷ hex)
  unfolding blob_path
  path_is = refl

  blob_is : blob_resource (pool ++ 47 ∷ hex) ≡ Some Blob
  blob_is =
      rw (and_right (not (is_empty (pool ++ 47 ∷ hex))) _ (ap not (has_slash pool hex)), before_is pool hex no_slash, after_is pool hex no_slash, named, hex_is_part) refl

  no_question : list_any is_question_mark (blob_path pool digest) ≡ false
  unfolding blob_path
  no_question = list_any-append is_question_mark pool (47 ∷ hex) ∙ or_from _ _ plain (no_marks hex (digest_digits digest h)).1

  pub blob_found : resource_of (blob_path pool digest) ≡ Some Blob
  unfolding resource_of
  blob_found = rw (no_question, path_is, blob_is) refl

-- The number of a text, as the standard's parser reads it.
use Rattle.std.proofs.Common.{◌≡◌, ◌&&◌, ◌^◌, nat_le, nat_lt, ℕ, Bool, cond, true, false, refl, sym, List, Some, None, Result, Ok, Err}
use Rattle.std.proofs.Math.Nat.{le_refl}
use Rattle.std.specs.Str.Parse.{ParsesUnsigned, digits_value, without_leading_plus}
use Rattle.clap.specs.ValueTests.{is_numeral, is_unsigned_in}
use Rattle.clap.specs.declared.builder.value_parser.ValueParser.TheVariants as vp
use Rattle.clap.proofs.ValueTestLemmas.{Accepts-accepts, accepts-Accepts}
use Rattle.clap.proofs.WalkLemmas.{both}
use Rattle.command_words.specs.Values.{number_in, number_within}

pub number_of_ok : {E : Type 0} (least most n : ℕ) (text : List ℕ) (r : Result ℕ E) → ParsesUnsigned 64 10 text r → r ≡ Ok n
    → number_within least most n ≡ number_in least most text
number_of_ok least most n text (Err e) h is = absurd cc
number_of_ok least most n text (Ok m) h is =
    let ds = without_leading_plus text in
    let v = digits_value 10 ds in
    let all : (is_numeral ds && (nat_lt v (2 ^ 64) && (nat_le v v && nat_le v v))) ≡ true =
    Accepts-accepts false (vp.Unsigned v v) text (h.0.0, h.0.1, le_refl v, le_refl v) in
    let a = both (is_numeral ds) (nat_lt v (2 ^ 64) && (nat_le v v && nat_le v v)) all in
    let b = both (nat_lt v (2 ^ 64)) (nat_le v v && nat_le v v) a.1 in
    let same : m ≡ v = h.1 in
    let equal : n ≡ v = cc in
    rw (equal, a.0, b.0) refl

pub number_of_err : {E : Type 0} (least most : ℕ) (text : List ℕ) (e : E) (r : Result ℕ E) → ParsesUnsigned 64 10 text r → r ≡ Err e
    → None ≡ number_in least most text
number_of_err least most text e (Ok n) h is = absurd cc
number_of_err least most text e (Err f) h is = go (is_unsigned_in least most text) refl
  where
    go : (b : Bool) → b ≡ is_unsigned_in least most text → None ≡ cond b (Some (digits_value 10 (without_leading_plus text))) None
    go true is =
        let a = accepts-Accepts false (vp.Unsigned least most) text (sym is) in
        absurd (h (a.0, a.1))
    go false is = refl

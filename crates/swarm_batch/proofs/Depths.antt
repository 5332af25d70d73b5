-- How deep an object nests with a text more.
use Rattle.std.proofs.Common.{◌≡◌, ◌≤◌, ℕ, List, Some, Ordering, Less, Equal, Greater, Bool, true, false, refl, sym, arith}
use Rattle.std.specs.Prelude.{Result, Ok, Err, String, string_bytes, IfOk}
use Rattle.std.proofs.lemmas.Str.{IsUtf8-string_bytes}
use Rattle.json_fields.proofs.BodyLemmas.{reading_some}
use Rattle.std.specs.Ordering.{match_ordering}
use Rattle.std.specs.Str.{is_utf8}
use Rattle.serde_json.specs.Data.{Data, Members, no_members, member, null, boolean, number, string, array, object, put, depth, members_depth}
use Rattle.serde_json.specs.Read.{max_depth, read}
use Rattle.serde_json.proofs.Nesting.{depth-read}
use Rattle.json_fields.specs.Readings.{reading}
use Rattle.swarm_batch.specs.Named.{named, uuid_key}

match_depth : (o : Ordering) (a b c : Members) (n : ℕ) → members_depth a ≤ n → members_depth b ≤ n → members_depth c ≤ n → members_depth (match_ordering o a b c) ≤ n
match_depth Less a b c n p q r = p
match_depth Equal a b c n p q r = q
match_depth Greater a b c n p q r = r

put_depth : (k : List ℕ) (d : Data) (ms : Members) (n : ℕ) → depth d ≤ n → members_depth ms ≤ n → members_depth (put k d ms) ≤ n
put_depth k d no_members n p q = omega arith
put_depth k d (member l e ms) n p q =
    match_depth _ (member k d (member l e ms)) (member l d ms) (member l e (put k d ms)) n (omega arith) (omega arith) (omega (arith, put_depth k d ms n p (omega arith)))

read_in : (body : List ℕ) (d : Data) (b : Bool) → is_utf8 body ≡ b → reading body ≡ Some d → read body ≡ Some d
read_in body d true u e = rw u at e
read_in body d false u e = grind (arith, u, e)

-- what was read nests no deeper with the uuid
pub named_depth : (body uuid : List ℕ) (d e : Data) → reading body ≡ Some d → named uuid d ≡ Some e → depth e ≤ max_depth
named_depth body uuid d e r n = by_data d n (depth-read body d (read_in body d _ refl r))
  where
    by_data : (d : Data) → named uuid d ≡ Some e → depth d ≤ max_depth → depth e ≤ max_depth
    by_data null n h = grind (arith, n)
    by_data (boolean b) n h = grind (arith, n)
    by_data (number m) n h = grind (arith, n)
    by_data (string s) n h = grind (arith, n)
    by_data (array ds) n h = grind (arith, n)
    by_data (object ms) n h =
        let deep : members_depth (put uuid_key (string uuid) ms) ≤ 126 = put_depth uuid_key (string uuid) ms 126 (omega arith) (omega arith) in
        grind (arith, n, deep)

-- a text that is written of a value is read back
pub read_back : {Z E : Type 0} (d : Data) (r : Result (String Z) E) → depth d ≤ max_depth → IfOk r (λ s. depth d ≤ max_depth → read (string_bytes s) ≡ Some d)
    → IfOk r (λ text. reading (string_bytes text) ≡ Some d)
read_back d (Ok s) le h = sym (reading_some (string_bytes s) d (IsUtf8-string_bytes s) (h le))
read_back d (Err e) le h = tt

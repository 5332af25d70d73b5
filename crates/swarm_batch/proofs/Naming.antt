-- What is read of an object with a member more.
use Rattle.std.proofs.Common.{◌≡◌, ℕ, List, Option, Some, Ordering, Less, Equal, Greater, Bool, true, false, is_eq, nat_cmp, bytes_eq, option_and_then, refl, sym, ap, ◌∙◌, true≢false, subst}
use Rattle.std.proofs.lemmas.Option.{none-some, same_Some}
use Rattle.std.proofs.lemmas.Map.Text.{is_eq-slice_cmp}
use Rattle.std.proofs.lemmas.Slice.Eq.{bytes_eq-Decides}
use Rattle.std.specs.Cmp.Lexicographic.{slice_cmp}
use Rattle.std.specs.Ordering.{match_ordering}
use Rattle.serde_json.specs.Data.{Data, Members, no_members, member, null, boolean, number, string, array, object, put}
use Rattle.serde_json.proofs.Views.{get_member-put}
use Rattle.json_fields.specs.Fields.{present, unless_null}
use Rattle.swarm_batch.specs.Named.{uuid_key, IsNamed, ChangesNothingElse}
use Rattle.serde_json.specs.Find.{get_member}

either : (o : Ordering) (a b : Option Data) → is_eq o ≡ false → match_ordering o a b a ≡ a
either Less a b e = refl
either Equal a b e = absurd (true≢false e)
either Greater a b e = refl

differ : (xs ys : List ℕ) (b : Bool) → bytes_eq xs ys ≡ b → (xs ≡ ys → ⊥) → b ≡ false
differ xs ys true e other = absurd (other ((bytes_eq-Decides xs ys).0 e))
differ xs ys false e other = refl

-- another key is passed over
pub passed : (q k : List ℕ) (d : Data) (ms : Members) → (q ≡ k → ⊥) → get_member q (member k d ms) ≡ get_member q ms
passed q k d ms other = either (slice_cmp nat_cmp q k) _ _ (is_eq-slice_cmp q k ∙ differ q k _ refl other)

equal_is : (k l : List ℕ) (o : Ordering) → slice_cmp nat_cmp k l ≡ o → is_eq o ≡ true → k ≡ l
equal_is k l o is e = (bytes_eq-Decides k l).0 (sym (is_eq-slice_cmp k l) ∙ ap is_eq is ∙ e)

put_at : (o : Ordering) (q k l : List ℕ) (d e : Data) (ms : Members) → slice_cmp nat_cmp k l ≡ o → (q ≡ k → ⊥) → get_member q (put k d ms) ≡ get_member q ms
    → get_member q (match_ordering o (member k d (member l e ms)) (member l d ms) (member l e (put k d ms))) ≡ get_member q (member l e ms)
put_at Less q k l d e ms is other later = passed q k d (member l e ms) other
put_at Equal q k l d e ms is other later =
    let not_l : q ≡ l → ⊥ = λ h. other (h ∙ sym (equal_is k l Equal is refl)) in
    passed q l d ms not_l ∙ sym (passed q l e ms not_l)
put_at Greater q k l d e ms is other later = ap (λ (o : Option Data). match_ordering (slice_cmp nat_cmp q l) o (Some e) o) later

-- what is put at a key changes nothing at another
pub get_member-put-other : (q k : List ℕ) (d : Data) (ms : Members) → (q ≡ k → ⊥) → get_member q (put k d ms) ≡ get_member q ms
get_member-put-other q k d no_members other = passed q k d no_members other
get_member-put-other q k d (member l e ms) other = put_at _ q k l d e ms refl other (get_member-put-other q k d ms other)

there : (uuid : List ℕ) (ms : Members) → present uuid_key (object (put uuid_key (string uuid) ms)) ≡ Some (string uuid)
unfolding present
there uuid ms = ap (λ (o : Option Data). option_and_then unless_null o) (get_member-put uuid_key (string uuid) ms)

pub naming_law : ChangesNothingElse
unfolding present
naming_law uuid null e n = elim (none-some e n) [ ]
naming_law uuid (boolean b) e n = elim (none-some e n) [ ]
naming_law uuid (number m) e n = elim (none-some e n) [ ]
naming_law uuid (string s) e n = elim (none-some e n) [ ]
naming_law uuid (array ds) e n = elim (none-some e n) [ ]
naming_law uuid (object ms) e n =
    subst (λ (x : Data). IsNamed uuid (object ms) x) (same_Some _ _ n) (record {
      uuid_is = there uuid ms;
      others = λ key other. ap (λ (o : Option Data). option_and_then unless_null o) (get_member-put-other key uuid_key (string uuid) ms other);
    })

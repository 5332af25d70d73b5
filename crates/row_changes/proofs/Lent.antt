-- The element that `get` lends, and an option of a loan that is none.
use Rattle.std.proofs.Common.{◌≡◌, ℕ, List, length, refl, sym, Option, Some, None, slice_get, true, false}
use mathlib.Core.Bool.{true≢false}
use Rattle.std.specs.Prelude.{is_some, MatchOption}
use Rattle.std.specs.Option.{option_copied}
use Rattle.std.specs.Slice.{IsItemAt}
use Rattle.std.specs.Borrow.{Bor}
use Rattle.std.proofs.lemmas.Option.{slice_get_read, slice_get_past}

pub lent_item : {X : Type 0} (xs : List X) (i : ℕ) (r : Option (Bor X)) → IsItemAt xs i r → option_copied r ≡ slice_get xs i
lent_item xs i None h = sym (slice_get_past xs i h.3)
lent_item xs i (Some x) h = sym (slice_get_read xs (length xs) i x.now refl h.3.0 h.1)

pub lent_none : {X : Type 0} (r : Option (Bor X)) → is_some r ≡ false → option_copied r ≡ None
lent_none None h = refl
lent_none (Some x) h = absurd (cc)

pub lent_some : {X : Type 0} (P : Type 0) (Q : X → Type 0) (r : Option (Bor X)) (o : Option X) → option_copied r ≡ o → is_some r ≡ true → MatchOption o P Q → (x : X) × (o ≡ Some x) × Q x
lent_some P Q None o is some all = absurd (true≢false (sym some))
lent_some P Q (Some x) None is some all = absurd (cc)
lent_some P Q (Some x) (Some y) is some all = (y, refl, all)

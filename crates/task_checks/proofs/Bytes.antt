-- Whether a byte of a text passes a test is told by a search for the first one.
use Rattle.std.proofs.Common.{◌≡◌, ℕ, ◌<◌, suc, ◌||◌, List, [], ◌∷◌, length, Bool, true, false, Option, None, Some, refl, ap, ◌∙◌, arith}
use Rattle.std.specs.Prelude.{slice_index, is_some}
use Rattle.std.specs.List.{list_any}
use Rattle.std.proofs.lemmas.List.Folds.{list_any_at}
use Rattle.memchr.specs.Find.{IsFirstByte}

not_true : (b : Bool) → (b ≡ true → ⊥) → b ≡ false
not_true true h = absurd (h refl)
not_true false h = refl

none_passes : (test : ℕ → Bool) (bytes : List ℕ) → ((k : ℕ) → k < length bytes → test (slice_index bytes k) ≡ true → ⊥) → list_any test bytes ≡ false
none_passes test [] h = refl
none_passes test (byte ∷ bytes) h =
    ap (λ b. b || list_any test bytes) (not_true (test byte) (h 0 (omega arith))) ∙ none_passes test bytes (λ k l. h (suc k) (omega (arith, l)))

pub any_passes : (test : ℕ → Bool) (bytes : List ℕ) (found : Option ℕ) → IsFirstByte test bytes found → list_any test bytes ≡ is_some found
any_passes test bytes None h = none_passes test bytes (λ k l. h k (omega arith) l)
any_passes test bytes (Some k) h = list_any_at test bytes k 0 h.0.high h.1

-- How digests compare.
use Rattle.std.proofs.Common.{◌≡◌, ℕ, List, Bool, true, false, refl, ap, ◌∙◌}
use Rattle.std.proofs.Common.{◌≢◌}
use Rattle.std.specs.declared.cmp.Ordering.TheVariants.{Less, Equal, Greater}
use Rattle.std.specs.Ordering.{is_lt, is_eq, ordering_reverse}
use Rattle.std.specs.Cmp.Lexicographic.{nat_list_cmp_total, texts_ties, bytes_decides}
use Rattle.std.proofs.lemmas.Cmp.{tied_itself}
use Rattle.blob_rows.specs.Digests.{same_digest, digest_cmp}

pub equal_text : (a b : List ℕ) → digest_cmp a b ≡ Equal → a ≡ b
equal_text a b e = (bytes_decides a b).0 (texts_ties a b ∙ ap is_eq e)

pub same_text : (a b : List ℕ) → a ≡ b → same_digest a b ≡ true
same_text a b e = (bytes_decides a b).1 e

by_same : (t : Bool) (a b : List ℕ) → same_digest a b ≡ t → a ≢ b → t ≡ false
by_same true a b is other = absurd (other ((bytes_decides a b).0 is))
by_same false a b is other = refl

pub other_text : (a b : List ℕ) → a ≢ b → same_digest a b ≡ false
other_text a b other = by_same (same_digest a b) a b refl other

itself : (a b : List ℕ) → a ≡ b → digest_cmp a b ≡ Equal
itself a b e = ap (λ (t : List ℕ). digest_cmp t b) e ∙ tied_itself nat_list_cmp_total b

pub less_other : (a b : List ℕ) → digest_cmp a b ≡ Less → a ≢ b
less_other a b less e = let h = itself a b e in absurd (cc)

pub greater_other : (a b : List ℕ) → digest_cmp a b ≡ Greater → a ≢ b
greater_other a b greater e = let h = itself a b e in absurd (cc)

pub greater_less : (a b : List ℕ) → digest_cmp a b ≡ Greater → digest_cmp b a ≡ Less
greater_less a b greater = nat_list_cmp_total.antisymm b a ∙ ap ordering_reverse greater

pub less_greater : (a b : List ℕ) → digest_cmp a b ≡ Less → digest_cmp b a ≡ Greater
less_greater a b less = nat_list_cmp_total.antisymm b a ∙ ap ordering_reverse less

pub less_not : (a b : List ℕ) → digest_cmp a b ≡ Less → is_lt (digest_cmp b a) ≡ false
less_not a b less = ap is_lt (less_greater a b less)

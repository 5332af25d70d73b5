-- What a changed link, and one more link, mean for the counts of uses.
use Rattle.std.proofs.Common.{◌≡◌, ◌≢◌, ℕ, List, [], ◌∷◌, ◌++◌, ap, refl, sym, ◌∙◌, subst, Option, Some, None, ◌⊎◌, inl, inr}
use mathlib.Core.Bool.{true≢false}
use Rattle.std.specs.Prelude.{IsSome}
use Rattle.std.specs.Option.{option_map_or}
use Rattle.std.specs.Cmp.Lexicographic.{bytes_decides}
use Rattle.std.proofs.lemmas.Bool.{cases_Bool}
use Rattle.dimensions.specs.Alike.{same}
use Rattle.pool_index.specs.declared.use_link.UseLink.{UseLink}
use Rattle.pool_index.specs.SortedLinks.{Key, digest_key, Sets}
use Rattle.pool_index.specs.Uses.{key_of, use_of, uses_of, IsListed, SameUses, StaysListed, HasUses}
use Rattle.pool_index.proofs.LinkValues.{push_own, push_other}

decide : (a b : List ℕ) → (a ≡ b) ⊎ (a ≢ b)
decide a b = elim (cases_Bool (same a b)) [
  | inl t ↦ inl ((bytes_decides a b).0 t)
  | inr f ↦ inr (λ e. true≢false (sym ((bytes_decides a b).1 e) ∙ f))
]

abbrev count_in : Option UseLink → ℕ
count_in found = option_map_or (λ link. link.uses) found 0

other_digest : (a b : List ℕ) → a ≢ b → digest_key a ≢ digest_key b
other_digest a b differs is = differs (ap (λ (k : Key). k.1) is)

module _ (digest : List ℕ) (link : UseLink) (old new : List UseLink) (set : Sets key_of (digest_key digest) link old new) where
  pub set_uses : HasUses digest link.uses old new
  set_uses = record { own = ap count_in set.own; others = λ other differs. ap count_in (set.others (digest_key other) (other_digest other digest differs)) }

  pub set_kept : StaysListed old new
  set_kept = record {
    listed = λ other there. elim (decide other digest) [
      | inl is ↦ subst (λ (d : List ℕ). IsListed new d) (sym is) (subst IsSome (sym set.own) refl)
      | inr differs ↦ subst IsSome (sym (set.others (digest_key other) (other_digest other digest differs))) there
    ];
  }

module _ (links : List UseLink) (link : UseLink) (none : use_of links link.digest ≡ None) where
  own : use_of (links ++ link ∷ []) link.digest ≡ Some link
  own = push_own key_of links link (digest_key link.digest) refl none

  others : (other : List ℕ) → other ≢ link.digest → use_of (links ++ link ∷ []) other ≡ use_of links other
  others other differs = push_other key_of links link (digest_key other) (other_digest link.digest other (λ is. differs (sym is)))

  pub push_same : link.uses ≡ 0 → SameUses links (links ++ link ∷ [])
  push_same zero = record {
    same_uses = λ other. elim (decide other link.digest) [
      | inl is ↦ subst (λ (d : List ℕ). uses_of (links ++ link ∷ []) d ≡ uses_of links d) (sym is) (ap count_in own ∙ zero ∙ sym (ap count_in none))
      | inr differs ↦ ap count_in (others other differs)
    ];
  }

  pub push_kept : StaysListed links (links ++ link ∷ [])
  push_kept = record {
    listed = λ other there. elim (decide other link.digest) [
      | inl is ↦ subst (λ (d : List ℕ). IsListed (links ++ link ∷ []) d) (sym is) (subst IsSome (sym own) refl)
      | inr differs ↦ subst IsSome (sym (others other differs)) there
    ];
  }

  pub push_listed : IsListed (links ++ link ∷ []) link.digest
  push_listed = subst IsSome (sym own) refl

-- ---- several steps

pub same_then : (a b c : List UseLink) → SameUses a b → SameUses b c → SameUses a c
same_then a b c first second = record { same_uses = λ digest. second.same_uses digest ∙ first.same_uses digest }

pub kept_then : (a b c : List UseLink) → StaysListed a b → StaysListed b c → StaysListed a c
kept_then a b c first second = record { listed = λ digest there. second.listed digest (first.listed digest there) }

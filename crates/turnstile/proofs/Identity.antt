-- A pass of one turnstile is one of each turnstile of its identity.
use Rattle.std.proofs.Common.{◌≡◌, ℕ, List, [], ◌∷◌, ap, ◌∙◌}
use Rattle.atomic_table.specs.Seated.{TableId}
use Rattle.turnstile.specs.declared.pass.Pass.{Pass}
use Rattle.turnstile.specs.declared.turnstile.Turnstile.{Turnstile}
use Rattle.turnstile.specs.Passes.{IsFrom, IsPassOf, fixed_of, identity_of}

-- the identity, read back
named : List ℕ → TableId
named (words ∷ slots ∷ views_name ∷ atom ∷ block ∷ offset ∷ slot_names) = record {
  words = words;
  slots = slots;
  views_name = views_name;
  atom = atom;
  block = block;
  offset = offset;
  slot_names = slot_names;
}
named other = record { words = 0; slots = 0; views_name = 0; atom = 0; block = 0; offset = 0; slot_names = [] }

module _ {V I F : Type 0} where
  pub IsFrom-identity : (t u : Turnstile V I F) (p : Pass V I F) → identity_of t ≡ identity_of u → IsFrom t p → IsFrom u p
  unfolding named
  IsFrom-identity t u p same from = from ∙ ap named same

  pub IsPassOf-identity : (fixed : V → F) (t u : Turnstile V I F) (p : Pass V I F) → identity_of t ≡ identity_of u → fixed_of fixed t ≡ fixed_of fixed u
      → IsPassOf fixed t p → IsPassOf fixed u p
  IsPassOf-identity fixed t u p same lasts of = record {
    table = IsFrom-identity t u p same of.table;
    holds_none = of.holds_none;
    no_ticket = of.no_ticket;
    no_turn = of.no_turn;
    no_halves = of.no_halves;
    first = of.first ∙ ap (λ b. b ∷ []) lasts;
    tallies = of.tallies;
  }

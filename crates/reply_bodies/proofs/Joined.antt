-- The parts of an output, joined.
use Rattle.std.proofs.Common.{◌≡◌, ℕ, List, [], ◌∷◌, ◌⊎◌, inl, inr, length, arith, refl}
use Rattle.swarm_model.specs.declared.reply.Part.{Part}
use Rattle.reply_bodies.specs.Bodies.{joined}

-- where no part or no piece is left, nothing more is joined
pub joined_end : (parts : List Part) (pieces : List (List ℕ)) → (length parts ≡ 0) ⊎ (length pieces ≡ 0) → joined parts pieces ≡ []
joined_end [] pieces h = refl
joined_end (part ∷ parts) [] h = refl
joined_end (part ∷ parts) (piece ∷ pieces) (inl h) = absurd (omega (arith, h))
joined_end (part ∷ parts) (piece ∷ pieces) (inr h) = absurd (omega (arith, h))

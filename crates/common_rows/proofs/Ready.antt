-- What was made ready is what is done.
use Rattle.std.proofs.Common.{◌≡◌, Option, Some, None, IfSome, subst}
use Rattle.std.specs.Option.{option_map}
use Rattle.swarm_model.specs.declared.entry.Entry.{Entry}

-- what lies ready for an entry that is kept
pub of_ready : {X : Type 0} (P : Entry → Type 0) (value : X → Entry) (o : Option X) (entry : Entry) → IfSome o (λ x. P (value x)) → option_map value o ≡ Some entry → P entry
of_ready P value None entry all is = absurd (cc (is))
of_ready P value (Some x) entry all is = let same : value x ≡ entry = cc (is) in subst P same all

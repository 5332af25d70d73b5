-- How an answer is put together.
use Rattle.std.proofs.Common.{◌≡◌, Bool, true, false, Option, Some, None, refl}
use Rattle.std.specs.Option.{option_map}
use Rattle.dimensions.specs.Choosing.{when}
use Rattle.pool_laws.specs.Types.{Decision, Rule}
use Rattle.swarm_model.specs.Words.{◌otherwise◌}
use Rattle.swarm_model.specs.Answers.{or_refuse, refusal}

module _ (P : Decision → Type 0) where
  -- one answer where a test holds, and another where it does not
  pub by_when : (b : Bool) (x y : Decision) → (b ≡ true → P x) → (b ≡ false → P y) → P (when b x otherwise y)
  by_when true x y p q = p refl
  by_when false x y p q = q refl

  -- one answer where there is a value, and another where there is none
  pub by_map : {A : Type 0} (f : A → Decision) (o : Option A) (y : Decision) → ((x : A) → o ≡ Some x → P (f x)) → (o ≡ None → P y) → P (option_map f o otherwise y)
  by_map f None y p q = q refl
  by_map f (Some x) y p q = p x refl

  -- a refusal where there is no value
  pub by_with : {A : Type 0} (o : Option A) (why : Rule) (next : A → Decision) → P (refusal why) → ((x : A) → o ≡ Some x → P (next x)) → P (or_refuse o why next)
  by_with None why next none p = none
  by_with (Some x) why next none p = p x refl

-- Tests, and the facts that they decide.
use Rattle.std.proofs.Common.{◌≡◌, ℕ, ◌≤◌, ◌<◌, ◌&&◌, not, Bool, true, false, nat_le, nat_lt, Decides, MatchBool, List, All, refl, sym, Option, Some, None, IfSome, is_none}
use Rattle.std.specs.Prelude.{IsTrue, IsFalse, Result, Ok, Err, IfOk}
use Rattle.std.specs.List.{list_all}
use Rattle.std.specs.Option.{option_map_or}
use Rattle.std.proofs.lemmas.Bool.{leb-true, le-leb, ltb-true, lt-ltb, not-true, not_from_false, and_parts, and_from}
use Rattle.std.proofs.lemmas.Bool.Decides.{Decides-by_and}

pub le_decides : (a b : ℕ) → Decides (nat_le a b) (a ≤ b)
le_decides a b = (leb-true a b, le-leb a b)

pub lt_decides : (a b : ℕ) → Decides (nat_lt a b) (a < b)
lt_decides a b = (ltb-true a b, lt-ltb a b)

pub true_decides : (b : Bool) → Decides b (IsTrue b)
true_decides b = (λ e. e, λ e. e)

pub false_decides : (b : Bool) → Decides (not b) (IsFalse b)
false_decides b = (not-true b, not_from_false b)

pub none_decides : {X : Type 0} (o : Option X) → Decides (is_none o) (o ≡ None)
none_decides None = (λ e. refl, λ e. refl)
none_decides (Some x) = (λ e. absurd (cc (e)), λ e. absurd (cc (e)))

module _ {X : Type 0} (p : X → Bool) (P : X → Type 0) (each : (x : X) → Decides (p x) (P x)) where
  -- of the value, where there is one
  pub some_decides : (o : Option X) → Decides (option_map_or p o true) (IfSome o P)
  some_decides None = (λ e. tt, λ h. refl)
  some_decides (Some x) = each x

  -- of each element
  pub all_decides : (xs : List X) → Decides (list_all p xs) (All P xs)
  all_decides xs = Decides-by_and p P (list_all p) each refl (λ _ _. refl) xs

-- both of two facts
pub both_decide : (P Q : Type 0) (x y : Bool) → Decides x P → Decides y Q → Decides (x && y) (P × Q)
both_decide P Q x y p q =
    (λ e. let parts = and_parts x y e in (p.0 parts.0, q.0 parts.1), λ h. and_from x y (p.1 h.0) (q.1 h.1))

-- a fact in other words
pub decides_as : (P Q : Type 0) (x : Bool) → (P → Q) → (Q → P) → Decides x P → Decides x Q
decides_as P Q x there back p = (λ e. there (p.0 e), λ q. p.1 (back q))

-- ---- facts of the value, where there is one

module _ {X : Type 0} (P Q : X → Type 0) where
  pub some_as : ((x : X) → P x → Q x) → (o : Option X) → IfSome o P → IfSome o Q
  some_as there None h = tt
  some_as there (Some x) h = there x h

  pub some_both : (o : Option X) → IfSome o P → IfSome o Q → IfSome o (λ x. P x × Q x)
  some_both None p q = tt
  some_both (Some x) p q = (p, q)

-- ---- answers of functions

-- an answer is a test that decides
pub told_by : (P : Type 0) (t r : Bool) → Decides t P → r ≡ t → MatchBool r P (P → ⊥)
told_by P t true d e = d.0 (sym e)
told_by P t false d e = λ h. absurd (let yes = d.1 h in cc (yes, e))

-- what is told of one fact is told of another that holds just as well
pub told_as : (P Q : Type 0) (r : Bool) → (P → Q) → (Q → P) → MatchBool r P (P → ⊥) → MatchBool r Q (Q → ⊥)
told_as P Q true there back h = there h
told_as P Q false there back h = λ q. h (back q)

-- so it is where memory may be wanting
pub told_as_ok : {E : Type 0} (P Q : Type 0) (r : Result Bool E) → (P → Q) → (Q → P) → IfOk r (λ (b : Bool). MatchBool b P (P → ⊥)) → IfOk r (λ (b : Bool). MatchBool b Q (Q → ⊥))
told_as_ok P Q (Ok b) there back h = told_as P Q b there back h
told_as_ok P Q (Err e) there back h = tt

-- what a test says that passed, and one that did not
pub met : (P : Type 0) (t : Bool) → Decides t P → true ≡ t → P
met P t d e = d.0 (sym e)

pub missed : (P : Type 0) (t : Bool) → Decides t P → false ≡ t → P → ⊥
missed P t d e h = absurd (let yes = d.1 h in cc (yes, e))

-- what an answer says that was true, and one that was false
pub kept : (P : Type 0) (r : Bool) → MatchBool r P (P → ⊥) → r ≡ true → P
kept P true h e = h
kept P false h e = absurd (cc (e))

pub broken : (P : Type 0) (r : Bool) → MatchBool r P (P → ⊥) → r ≡ false → P → ⊥
broken P true h e = absurd (cc (e))
broken P false h e = h

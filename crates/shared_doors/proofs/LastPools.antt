-- Pools closed one after another, from the last.
use Rattle.std.proofs.Common.{◌≡◌, ℕ, ◌<◌, List, [], ◌∷◌, ◌++◌, map, length, get_or, reverse, refl, arith, ap, sym, subst, ◌∙◌, Option, Some, None}
use Rattle.std.specs.List.{All}
use Rattle.std.proofs.lemmas.List.{append_assoc, length_push, length-append, reverse-append}
use Rattle.shared_doors.specs.Types.{Entry, Pass, Turnstile}
use Rattle.swarm_model.specs.MachineState.{MachineState}
use Rattle.turnstile.specs.Passes.{IsPassOf, fixed_of, opening}
use Rattle.shared_doors.specs.declared.view.Lasting.{Lasting}
use Rattle.shared_doors.specs.Joined.{AreClosed, IsAloneView, IsClosed}
use Rattle.shared_doors.specs.Lasting.{IsStanding}
use Rattle.shared_doors.specs.Views.{AreOf, look, view_at, views}
use Rattle.shared_doors.proofs.ByPlace.{here, seen_at}

-- the item behind some stands after them
pub at_split : {A : Type 0} (xs ys : List A) (x d : A) (zs : List A) → zs ≡ (xs ++ x ∷ []) ++ ys → get_or zs (length xs) d ≡ x
at_split xs ys x d zs is = ap (λ l. get_or l (length xs) d) is ∙ at xs
  where
    at : (ws : List _) → get_or ((ws ++ x ∷ []) ++ ys) (length ws) d ≡ x
    at [] = refl
    at (w ∷ ws) = at ws

pub one_less : {A : Type 0} (xs ys : List A) (x : A) (zs old : List A) → zs ≡ old ++ ys → old ≡ xs ++ x ∷ [] → zs ≡ (xs ++ x ∷ []) ++ ys
one_less xs ys x zs old is popped = is ∙ ap (λ l. l ++ ys) popped

pub behind : {A : Type 0} (xs ys : List A) (x : A) (zs : List A) → zs ≡ (xs ++ x ∷ []) ++ ys → zs ≡ xs ++ x ∷ ys
behind xs ys x zs is = is ∙ append_assoc xs (x ∷ []) ys

pub low_split : {A : Type 0} (xs ys : List A) (x : A) (zs : List A) → zs ≡ (xs ++ x ∷ []) ++ ys → length xs < length zs
low_split xs ys x zs is = omega (arith, ap length is, length-append (xs ++ x ∷ []) ys, length_push xs x)

-- The last of the turnstiles that are left, and the last of the passes.
module _ {V : Type 0} (fixed : V → Lasting) (ts xs us : List (Turnstile V Entry Lasting)) (items ys qs : List (Option (Pass V Entry Lasting))) (t : Turnstile V Entry Lasting) (o : Option (Pass V Entry Lasting)) (p : Pass V Entry Lasting)
    (own : AreOf fixed ts items) (is_t : ts ≡ (xs ++ t ∷ []) ++ us) (is_p : items ≡ (ys ++ o ∷ []) ++ qs) (is : o ≡ Some p) (even : length ys ≡ length xs) where
  low : length xs < length ts
  low = low_split xs us t ts is_t

  stands : get_or items (length xs) None ≡ Some p
  stands = ap (λ n. get_or items n None) (sym even) ∙ at_split ys qs o None items is_p ∙ is

  pub last_own : IsPassOf fixed t p
  last_own = own.each (length xs) t p low (sym (at_split xs us t t ts is_t)) (here fixed ts items (length xs) p own low stands)

  pub last_standing : All (λ (u : Turnstile V Entry Lasting). IsStanding (fixed_of fixed u)) ts → IsStanding (fixed_of fixed t)
  last_standing all = subst (λ (u : Turnstile V Entry Lasting). IsStanding (fixed_of fixed u)) (at_split xs us t t ts is_t) (all (length xs) t low)

  pub last_alone : ((n : ℕ) → n < length ts → IsAloneView (view_at (views items) n)) → IsAloneView (look p)
  last_alone alone = subst IsAloneView (seen_at fixed ts items (length xs) p own low stands) (alone (length xs) low)

-- a machine more stands first once their order is turned
pub turned : {A B : Type 0} (f : A → B) (xs more : List A) (x : A) → more ≡ xs ++ x ∷ [] → map f (reverse more) ≡ f x ∷ map f (reverse xs)
turned f xs more x is = ap (λ l. map f (reverse l)) is ∙ ap (map f) (reverse-append xs (x ∷ []))

module _ {V : Type 0} (fixed : V → Lasting) (log : V → List Entry) where
  pub closed_more : (us : List (Turnstile V Entry Lasting)) (qs : List (Option (Pass V Entry Lasting))) (t : Turnstile V Entry Lasting) (o : Option (Pass V Entry Lasting)) (p : Pass V Entry Lasting) (k : MachineState) (done all : List MachineState)
      → o ≡ Some p → all ≡ k ∷ done → IsClosed (fixed_of fixed t).settings (opening log t) (look p) k → AreClosed fixed log us (views qs) done
      → AreClosed fixed log (t ∷ us) (views (o ∷ qs)) all
  closed_more us qs t o p k done all is turned one rest =
      subst (AreClosed fixed log (t ∷ us) (views (o ∷ qs))) (sym turned)
      (subst (λ x. AreClosed fixed log (t ∷ us) (views (x ∷ qs)) (k ∷ done)) (sym is) (one, rest))

pub none_left : {A : Type 0} (xs ys zs : List A) → length xs ≡ 0 → zs ≡ xs ++ ys → zs ≡ ys
none_left [] ys zs none is = is
none_left (x ∷ xs) ys zs none is = absurd (omega (arith, none))

pub no_items : {A : Type 0} (xs : List A) → length xs ≡ 0 → xs ≡ []
no_items [] none = refl
no_items (x ∷ xs) none = absurd (omega (arith, none))

-- The pass at one place among several.
use Rattle.std.proofs.Common.{◌≡◌, ◌≢◌, ℕ, zero, suc, ◌+◌, ◌<◌, ◌≤◌, List, [], ◌∷◌, ◌++◌, length, get_or, set, refl, arith, ap, sym, subst, ◌∙◌, Option, Some, None, IsTrue, is_some}
use Rattle.std.specs.List.{All}
use Rattle.std.proofs.lemmas.List.Elements.{All-set}
use Rattle.std.proofs.lemmas.List.{map-set, get_or-map, get_or-set_other, get_or-set_same, get_or_default, get_or_push, length-set, length-append, map-append}
use mathlib.Core.Logic.{dite}
use native.Mathlib.Decide.{ℕ_discrete}
use Rattle.shared_doors.specs.Types.{Entry, Pass, Turnstile}
use Rattle.turnstile.specs.Passes.{IsPassOf}
use Rattle.shared_doors.specs.declared.view.Lasting.{Lasting}
use Rattle.shared_doors.specs.declared.view.PoolView.{PoolView}
use Rattle.shared_doors.specs.Joined.{Splits}
use Rattle.shared_doors.specs.Views.{AreOf, EachBelow, IsOneOf, look, nothing, view_at, view_or, views}

pub set_twice : {A : Type 0} (xs : List A) (i : ℕ) (a b : A) → set (set xs i a) i b ≡ set xs i b
set_twice [] i a b = refl
set_twice (x ∷ xs) zero a b = refl
set_twice (x ∷ xs) (suc i) a b = ap (λ ys. x ∷ ys) (set_twice xs i a b)

pub some_is : {A : Type 0} (a b : A) → Some a ≡ Some b → a ≡ b
some_is a b e = ap (or_else a) e
  where
    or_else : {A : Type 0} → A → Option A → A
    or_else x None = x
    or_else x (Some y) = y

module _ {V : Type 0} (fixed : V → Lasting) (ts : List (Turnstile V Entry Lasting)) (items : List (Option (Pass V Entry Lasting))) (place : ℕ) where
  -- a pass is at each place
  pub there : AreOf fixed ts items → place < length ts → IsTrue (is_some (get_or items place None))
  there own low = own.whole place None (omega (arith, low, own.count))

  pub low_pass : AreOf fixed ts items → place < length ts → place < length items
  low_pass own low = omega (arith, low, own.count)

  pub here : (pass : Pass V Entry Lasting) → AreOf fixed ts items → place < length ts → get_or items place None ≡ Some pass → Some pass ≡ get_or items place (Some pass)
  here pass own low is = sym (get_or_default items place (Some pass) None (low_pass own low) ∙ is)

  -- it is of the turnstile there
  pub one_of : (pass : Pass V Entry Lasting) → AreOf fixed ts items → place < length ts → get_or items place None ≡ Some pass → IsOneOf fixed ts place pass
  one_of pass own low is = λ t at. own.each place t pass low at (here pass own low is)

  pub seen_at : (pass : Pass V Entry Lasting) → AreOf fixed ts items → place < length ts → get_or items place None ≡ Some pass → view_at (views items) place ≡ look pass
  seen_at pass own low is = get_or-map view_or items place None nothing (low_pass own low) ∙ ap view_or is

  -- another pass of that turnstile is put in its place, where something else stood meanwhile
  module _ (out : Option (Pass V Entry Lasting)) (next : Pass V Entry Lasting) where
    back : set (set items place out) place (Some next) ≡ set items place (Some next)
    back = set_twice items place out (Some next)

    pub views_back : views (set (set items place out) place (Some next)) ≡ set (views items) place (look next)
    views_back = ap views back ∙ map-set view_or items place (Some next)

    set_own : (t : Turnstile V Entry Lasting) → AreOf fixed ts items → place < length ts → t ≡ get_or ts place t → IsPassOf fixed t next → AreOf fixed ts (set items place (Some next))
    set_own t own low at mine = record {
      count = length-set items place (Some next) ∙ own.count;
      whole = All-set (λ o. IsTrue (is_some o)) items place (Some next) refl own.whole;
      each = λ i u p inside is_u is_p. dite (ℕ_discrete i place)
          (λ same.
          let there : Some p ≡ Some next = is_p ∙ (ap (λ n. get_or (set items place (Some next)) n (Some p)) same ∙ get_or-set_same items place (Some next) (Some p) (omega (arith, low, own.count))) in
          let whose : u ≡ t = is_u ∙ (ap (λ n. get_or ts n u) same ∙ (get_or_default ts place u t low ∙ sym at)) in
          subst (IsPassOf fixed u) (sym (some_is p next there)) (subst (λ z. IsPassOf fixed z next) (sym whose) mine))
          (λ other. own.each i u p inside is_u (is_p ∙ get_or-set_other items place i (Some next) (Some p) other));
    }

    pub own_stays : (t : Turnstile V Entry Lasting) → AreOf fixed ts items → place < length ts → t ≡ get_or ts place t → IsPassOf fixed t next → AreOf fixed ts (set (set items place out) place (Some next))
    own_stays t own low at mine = subst (AreOf fixed ts) (sym back) (set_own t own low at mine)

    -- what holds of the one pass of that turnstile holds whichever name it has
    pub one_of_next : (t : Turnstile V Entry Lasting) → place < length ts → t ≡ get_or ts place t → IsPassOf fixed t next → IsOneOf fixed ts place next
    one_of_next t low at mine = λ u is_u. subst (λ z. IsPassOf fixed z next) (at ∙ get_or_default ts place t u low ∙ sym is_u) mine

-- ---- what is known by place

pub stays_at : (cur next : List PoolView) (place : ℕ) (w : PoolView) → next ≡ set cur place w → (p : ℕ) → p ≢ place → view_at next p ≡ view_at cur p
stays_at cur next place w is p other = ap (λ vs. view_at vs p) is ∙ get_or-set_other cur place p w nothing other

pub changed_at : (cur next : List PoolView) (place : ℕ) (w : PoolView) → place < length cur → next ≡ set cur place w → view_at next place ≡ w
changed_at cur next place w low is = ap (λ vs. view_at vs place) is ∙ get_or-set_same cur place w nothing low

-- what holds at the places below holds at one more
pub more_places : (P : ℕ → PoolView → Type 0) (cur next : List PoolView) (place : ℕ) (w : PoolView) → place < length cur → next ≡ set cur place w → P place w
    → ((p : ℕ) → p < place → P p (view_at cur p)) → (p : ℕ) → p < place + 1 → P p (view_at next p)
more_places P cur next place w low is one below p inside = dite (ℕ_discrete p place)
    (λ same. subst (λ n. P n (view_at next n)) (sym same) (subst (P place) (sym (changed_at cur next place w low is)) one))
    (λ other. subst (P p) (sym (stays_at cur next place w is p other)) (below p (omega (arith, inside, other))))

pub at_front : {A : Type 0} (xs ys : List A) (d : A) (i : ℕ) → i < length xs → get_or (xs ++ ys) i d ≡ get_or xs i d
at_front [] ys d i low = absurd (omega arith)
at_front (x ∷ xs) ys d zero low = refl
at_front (x ∷ xs) ys d (suc i) low = at_front xs ys d i (omega (arith, low))

-- what holds of all holds of the first of them
pub all_front : {A : Type 0} (P : A → Type 0) (xs ys zs : List A) → zs ≡ xs ++ ys → All P zs → All P xs
all_front P xs ys zs is all = λ i d low. subst P (ap (λ l. get_or l i d) is ∙ at_front xs ys d i low) (all i d (omega (arith, low, ap length is, length-append xs ys)))

pub at_push : {A : Type 0} (xs : List A) (x d : A) (i : ℕ) → i < length xs → get_or (xs ++ x ∷ []) i d ≡ get_or xs i d
at_push [] x d i low = absurd (omega arith)
at_push (y ∷ xs) x d zero low = refl
at_push (y ∷ xs) x d (suc i) low = at_push xs x d i (omega (arith, low))

module _ {V : Type 0} where
  pub push_views : (items more : List (Option (Pass V Entry Lasting))) (q : Pass V Entry Lasting) → more ≡ items ++ Some q ∷ [] → views more ≡ views items ++ look q ∷ []
  push_views items more q is = ap views is ∙ map-append view_or items (Some q ∷ [])

  pub each_push : (fixed : V → Lasting) (ts : List (Turnstile V Entry Lasting)) (items more : List (Option (Pass V Entry Lasting))) (q : Pass V Entry Lasting) (n : ℕ)
      → more ≡ items ++ Some q ∷ [] → length items ≡ n → EachBelow n fixed ts items → IsOneOf fixed ts n q → EachBelow (n + 1) fixed ts more
  each_push fixed ts items more q n is counted each one i t p inside at here = dite (ℕ_discrete i n)
      (λ same.
      let there : Some p ≡ Some q = here ∙ ap (λ l. get_or l i (Some p)) is ∙ get_or_push items (Some q) (Some p) i (counted ∙ sym same) in
      subst (IsPassOf fixed t) (sym (some_is p q there)) (one t (subst (λ m. t ≡ get_or ts m t) same at)))
      (λ other. each i t p (omega (arith, inside, other)) at (here ∙ ap (λ l. get_or l i (Some p)) is ∙ at_push items (Some q) (Some p) i (omega (arith, inside, other, counted))))

-- one place more is split
pub split_more : (start cur next given more : List PoolView) (place : ℕ) (w g : PoolView)
    → place ≡ length given → place < length cur → next ≡ set cur place w → more ≡ given ++ g ∷ []
    → view_at cur place ≡ view_at start place → Splits (view_at cur place) w g
    → ((p : ℕ) → p < place → Splits (view_at start p) (view_at cur p) (view_at given p))
    → (p : ℕ) → p < place + 1 → Splits (view_at start p) (view_at next p) (view_at more p)
split_more start cur next given more place w g counted low is pushed same one below =
    let last : view_at more place ≡ g = ap (λ vs. view_at vs place) pushed ∙ get_or_push given g nothing place (sym counted) in
    more_places (λ p v. Splits (view_at start p) v (view_at more p)) cur next place w low is
    (subst (λ x. Splits (view_at start place) w x) (sym last) (subst (λ x. Splits x w g) same one))
    (λ p inside. subst (λ x. Splits (view_at start p) (view_at cur p) x)
    (sym (ap (λ vs. view_at vs p) pushed ∙ at_push given g nothing p (omega (arith, inside, counted)))) (below p inside))

-- the places above stay
pub rest_stays : (start cur next : List PoolView) (place : ℕ) (w : PoolView) → next ≡ set cur place w
    → ((p : ℕ) → place ≤ p → view_at cur p ≡ view_at start p) → (p : ℕ) → place + 1 ≤ p → view_at next p ≡ view_at start p
rest_stays start cur next place w is rest p above =
    stays_at cur next place w is p (λ same. absurd (omega (arith, above, same))) ∙ rest p (omega (arith, above))

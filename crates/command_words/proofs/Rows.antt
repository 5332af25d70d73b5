-- Rows of values that passed: what a parse without a fault leaves.
use Rattle.std.proofs.Common.{◌≡◌, ◌∙◌, ◌&&◌, ◌||◌, Bool, cond, true, false, not, true≢false, refl, sym, ap, subst, List, [], ◌∷◌, ◌++◌, Option, Some, None, IfSome}
use Rattle.std.specs.Prelude.{⊤, find, fold, slice_get, option_and_then}
use Rattle.std.specs.List.{list_all, list_any}
use Rattle.std.specs.Option.{option_map_or}
use Rattle.std.specs.Str.{bytes_eq}
use Rattle.std.proofs.lemmas.Slice.Eq.{bytes_eq-Decides}
use Rattle.std.proofs.lemmas.List.Folds.{list_all-append}
use Rattle.clap.specs.Facts.{explicit_source, unwrap_or_range}
use Rattle.clap.specs.Values.{is_request}
use Rattle.clap.specs.Walk.{Row, Rule, Text, action_of, arg_by_id, at_row, default_rows, first_of, has_row, more_values, reading_by, with_default, with_values, without}
use Rattle.clap.specs.Takes.{is_given, value_passes, values_pass}
use Rattle.clap.specs.declared.builder.action.ArgAction.{ArgAction}
use Rattle.clap.specs.declared.builder.action.ArgAction.TheVariants.{Set, SetTrue}
use Rattle.clap.specs.declared.parser.matches.ValueSource.{ValueSource}
use Rattle.clap.specs.declared.builder.value_parser.Reading.{Reading}

-- the list has an element
abbrev pub nonempty : {X : Type 0} → List X → Bool
nonempty [] = false
nonempty (x ∷ xs) = true

-- each element of a list, as a tuple
abbrev pub Each : {X : Type 0} → (X → Type 0) → List X → Type 0
Each P [] = ⊤
Each P (x ∷ xs) = P x × Each P xs

pub by_cases : {X : Type 0} (P : X → Type 0) (b : Bool) (x y : X) → (b ≡ true → P x) → (b ≡ false → P y) → P (cond b x y)
by_cases P true x y f g = f refl
by_cases P false x y f g = g refl

pub found_of_each : {X : Type 0} (P : X → Type 0) (p : X → Bool) (xs : List X) → Each P xs → IfSome (find p xs) P
found_of_each P p [] e = tt
found_of_each P p (x ∷ xs) e = by_cases (λ o. IfSome o P) (p x) (Some x) (find p xs) (λ _. e.0) (λ _. found_of_each P p xs e.1)

pub Each-append : {X : Type 0} (P : X → Type 0) (xs ys : List X) → Each P xs → Each P ys → Each P (xs ++ ys)
Each-append P [] ys a b = b
Each-append P (x ∷ xs) ys a b = (a.0, Each-append P xs ys a.1 b)

-- ---- what an argument asks of the values of a use

-- a use has a value: one that is given, or one that stands for it; or it asks for help
abbrev pub Gives : ArgAction → Rule → Type 0
Gives Set a = (unwrap_or_range a.range).start_inclusive ≡ 1
Gives SetTrue a = nonempty a.missing ≡ true
Gives x a = is_request x ≡ true

-- an argument of a command, which no other has the id of, and whose defaults pass
pub record Own (c : List Rule) (a : Rule) : Type 0 where
  pub found : arg_by_id c a.id ≡ Some a
  pub gives : Gives (action_of a) a
  pub defaults : values_pass a a.defaults ≡ true

-- the row has a value, and its values pass its argument
abbrev pub Good : List Rule → Row → Type 0
Good c r = (nonempty r.values ≡ true) × IfSome (arg_by_id c r.id) (λ a. values_pass a r.values ≡ true)

module _ (c : List Rule) where
  abbrev pub Goods : List Row → Type 0
  Goods rows = Each (Good c) rows

  pub at_row-good : (id : Text) (change : Row → List Row) (missing : List Row) → ((r : Row) → r.id ≡ id → Good c r → Goods (change r)) → Goods missing
      → (rows : List Row) → Goods rows → Goods (at_row id change missing rows)
  at_row-good id change missing f m [] g = m
  at_row-good id change missing f m (r ∷ rs) g =
      by_cases Goods (bytes_eq r.id id) (change r ++ rs) (r ∷ at_row id change missing rs)
      (λ e. Each-append (Good c) (change r) rs (f r ((bytes_eq-Decides r.id id).0 e) g.0) g.1)
      (λ _. (g.0, at_row-good id change missing f m rs g.1))

  pub without-good : (id : Text) (rows : List Row) → Goods rows → Goods (without id rows)
  without-good id rows g = at_row-good id (λ _. []) [] (λ r e h. tt) tt rows g

  appended : (xs ys : List Text) → nonempty ys ≡ true → nonempty (xs ++ ys) ≡ true
  appended [] ys e = e
  appended (x ∷ xs) ys e = refl

  both_pass : (p : Text → Bool) (xs ys : List Text) → list_all p xs ≡ true → list_all p ys ≡ true → list_all p (xs ++ ys) ≡ true
  both_pass p xs ys a b = rw (list_all-append p xs ys, a, b) refl

  more_pass : (o : Option Rule) (xs ys : List Text) (a : Rule) → o ≡ Some a → values_pass a ys ≡ true
      → IfSome o (λ b. values_pass b xs ≡ true) → IfSome o (λ b. values_pass b (xs ++ ys) ≡ true)
  more_pass None xs ys a e p q = tt
  more_pass (Some b) xs ys a e p q =
      subst (λ o. IfSome o (λ d. values_pass d (xs ++ ys) ≡ true)) (sym e)
      (both_pass (value_passes a) xs ys (subst (λ o. IfSome o (λ d. values_pass d xs ≡ true)) e q) p)

  pub with_values-good : (a : Rule) (how : Reading) (s : ValueSource) (values : List Text) (rows : List Row) → Own c a → nonempty values ≡ true
      → values_pass a values ≡ true → Goods rows → Goods (with_values a.id how s values rows)
  with_values-good a how s values rows own some pass g =
      at_row-good a.id (more_values s values) _
      (λ r e h. ((appended r.values values some, more_pass (arg_by_id c r.id) r.values values a (ap (arg_by_id c) e ∙ own.found) pass h.1), tt))
      ((some, subst (λ o. IfSome o (λ d. values_pass d values ≡ true)) (sym own.found) pass), tt)
      rows g

  pub default-good : (rows : List Row) (a : Rule) → Own c a → Goods rows → Goods (with_default rows a)
  default-good rows a own g = by_cases Goods (has_row a.id rows) rows (default_rows a.id (reading_by a) a.defaults rows) (λ _. g) (λ _. go a.defaults own.defaults)
    where
      go : (ds : List Text) → values_pass a ds ≡ true → Goods (default_rows a.id (reading_by a) ds rows)
      go [] p = g
      go (d ∷ ds) p = with_values-good a _ _ (d ∷ ds) rows own refl p g

  pub defaults-good : (xs : List Rule) (rows : List Row) → Each (Own c) xs → Goods rows → Goods (fold with_default rows xs)
  defaults-good [] rows all g = g
  defaults-good (a ∷ xs) rows all g = defaults-good xs (with_default rows a) all.1 (default-good rows a all.0 g)

  -- a row that is there has a value, and it passes
  pub value_at : (id : Text) (a : Rule) → arg_by_id c id ≡ Some a → (rows : List Row) → Goods rows → has_row id rows ≡ true
      → (v : Text) × (first_of id rows ≡ Some v) × (value_passes a v ≡ true)
  value_at id a found [] g e = absurd (true≢false (sym e))
  value_at id a found (r ∷ rs) g e = go (λ h. value_at id a found rs g.1 h) (bytes_eq r.id id) refl e
    where
      Wanted : Option Row → Type 0
      Wanted o = (v : Text) × (option_and_then (λ r. slice_get r.values 0) o ≡ Some v) × (value_passes a v ≡ true)

      first : (vs : List Text) → nonempty vs ≡ true → values_pass a vs ≡ true → (v : Text) × (slice_get vs 0 ≡ Some v) × (value_passes a v ≡ true)
      first [] n p = absurd (true≢false (sym n))
      first (v ∷ vs) n p = (v, refl, head (value_passes a v) _ p)
        where
          head : (b d : Bool) → (b && d) ≡ true → b ≡ true
          head true d e = refl
          head false d e = e

      go : (has_row id rs ≡ true → Wanted (find (λ x. bytes_eq x.id id) rs)) → (b : Bool) → b ≡ bytes_eq r.id id → (b || has_row id rs) ≡ true → Wanted (cond b (Some r) (find (λ x. bytes_eq x.id id) rs))
      go later true is e =
          let same : r.id ≡ id = (bytes_eq-Decides r.id id).0 (sym is) in
          first r.values g.0.0 (subst (λ o. IfSome o (λ d. values_pass d r.values ≡ true)) (ap (arg_by_id c) same ∙ found) g.0.1)
      go later false is e = later e

-- ---- which rows are there

or_step : (b x y : Bool) → (b || x) ≡ true → (x ≡ true → y ≡ true) → (b || y) ≡ true
or_step true x y e f = refl
or_step false x y e f = f e

or_right : (b x : Bool) → x ≡ true → (b || x) ≡ true
or_right true x e = refl
or_right false x e = e

pub kept_values : (id other : Text) (how : Reading) (s : ValueSource) (values : List Text) (rows : List Row) → has_row id rows ≡ true
    → has_row id (with_values other how s values rows) ≡ true
kept_values id other how s values [] e = absurd (true≢false (sym e))
kept_values id other how s values (r ∷ rs) e =
    by_cases (λ l. has_row id l ≡ true) (bytes_eq r.id other) _ _ (λ _. e)
    (λ _. or_step (bytes_eq r.id id) (has_row id rs) _ e (kept_values id other how s values rs))

pub new_values : (id : Text) (how : Reading) (s : ValueSource) (values : List Text) (rows : List Row) → has_row id (with_values id how s values rows) ≡ true
new_values id how s values [] = rw ((bytes_eq-Decides id id).1 refl) refl
new_values id how s values (r ∷ rs) =
    by_cases (λ l. has_row id l ≡ true) (bytes_eq r.id id) _ _ (λ e. rw e refl)
    (λ _. or_right (bytes_eq r.id id) _ (new_values id how s values rs))

pub kept_default : (id : Text) (rows : List Row) (a : Rule) → has_row id rows ≡ true → has_row id (with_default rows a) ≡ true
kept_default id rows a e = by_cases (λ l. has_row id l ≡ true) (has_row a.id rows) _ _ (λ _. e) (λ _. go a.defaults)
  where
    go : (ds : List Text) → has_row id (default_rows a.id (reading_by a) ds rows) ≡ true
    go [] = e
    go (d ∷ ds) = kept_values id a.id _ _ (d ∷ ds) rows e

pub kept_defaults : (id : Text) (xs : List Rule) (rows : List Row) → has_row id rows ≡ true → has_row id (fold with_default rows xs) ≡ true
kept_defaults id [] rows e = e
kept_defaults id (a ∷ xs) rows e = kept_defaults id xs (with_default rows a) (kept_default id rows a e)

pub new_default : (rows : List Row) (a : Rule) → nonempty a.defaults ≡ true → has_row a.id (with_default rows a) ≡ true
new_default rows a some = by_cases (λ l. has_row a.id l ≡ true) (has_row a.id rows) _ _ (λ e. e) (λ _. go a.defaults some)
  where
    go : (ds : List Text) → nonempty ds ≡ true → has_row a.id (default_rows a.id (reading_by a) ds rows) ≡ true
    go [] n = absurd (true≢false (sym n))
    go (d ∷ ds) n = new_values a.id _ _ (d ∷ ds) rows

-- each argument with a default has a row in the end
pub defaults_there : (xs : List Rule) (rows : List Row) → Each (λ a. nonempty a.defaults ≡ true → has_row a.id (fold with_default rows xs) ≡ true) xs
defaults_there [] rows = tt
defaults_there (a ∷ xs) rows =
    (λ some. kept_defaults a.id xs (with_default rows a) (new_default rows a some), defaults_there xs (with_default rows a))

-- an argument that was given has a row
pub given_row : (id : Text) (rows : List Row) → is_given id rows ≡ true → has_row id rows ≡ true
given_row id [] e = e
given_row id (r ∷ rs) e = go (λ h. given_row id rs h) (bytes_eq r.id id) e
  where
    go : (is_given id rs ≡ true → has_row id rs ≡ true) → (b : Bool) → option_map_or (λ (x : Row). explicit_source x.source) (cond b (Some r) (find (λ x. bytes_eq x.id id) rs)) false ≡ true → (b || has_row id rs) ≡ true
    go later true e = refl
    go later false e = later e

-- where no required argument is missing, each has a row
pub required_there : (rows : List Row) (xs : List Rule) → list_any (λ a. a.required && not (is_given a.id rows)) xs ≡ false
    → Each (λ a. a.required ≡ true → has_row a.id rows ≡ true) xs
required_there rows [] e = tt
required_there rows (a ∷ xs) e = (λ r. given_row a.id rows (given a.required (is_given a.id rows) r (neither _ _ e).0), required_there rows xs (neither _ _ e).1)
  where
    neither : (b d : Bool) → (b || d) ≡ false → (b ≡ false) × (d ≡ false)
    neither true d e = absurd (true≢false e)
    neither false d e = (refl, e)

    given : (q g : Bool) → q ≡ true → (q && not g) ≡ false → g ≡ true
    given q true r e = refl
    given q false r e = absurd (true≢false (sym (rw r refl) ∙ e))

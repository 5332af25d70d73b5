-- How many bots pass a test, before an entry and after it.
use Rattle.std.proofs.Common.{◌≡◌, ℕ, ◌+◌, ◌<◌, ◌≤◌, List, [], ◌∷◌, ◌++◌, map, refl, sym, ap, ◌∙◌, Option, Some, None, Bool, true, false, cond, arith, eqb-true}
use Rattle.std.specs.Prelude.{◌==◌, ◌||◌, nat_lt, if◌then◌else◌}
use Rattle.std.specs.List.{count_by, list_any}
use Rattle.std.specs.Option.{option_map, option_map_or}
use Rattle.std.proofs.lemmas.Bool.Decides.{nat_tests}
use Rattle.std.proofs.lemmas.List.Sums.{sum_by-append}
use Rattle.dimensions.proofs.Counting.{count-cons, count-pass, count-skip}
use Rattle.swarm_model.specs.declared.bot_row.BotRow.{BotRow}
use Rattle.swarm_model.specs.Numbers.{AreNumbered}
use Rattle.swarm_model.specs.Effects.{no_of_bot}
use Rattle.bot_registry.specs.Acting.{row_of}

-- ---- none or some

positive : (n : ℕ) → nat_lt 0 (1 + n) ≡ true
positive n = grind (arith, nat_tests)

-- some element passes where their number is not zero
pub some_counted : {X : Type 0} (p : X → Bool) (xs : List X) → nat_lt 0 (count_by p xs) ≡ list_any p xs
some_counted p [] = refl
some_counted p (x ∷ xs) = by_test (p x) refl (some_counted p xs)
  where
    by_test : (t : Bool) → p x ≡ t → nat_lt 0 (count_by p xs) ≡ list_any p xs → nat_lt 0 (count_by p (x ∷ xs)) ≡ list_any p (x ∷ xs)
    by_test true h rest = ap (nat_lt 0) (count-pass p x xs h) ∙ positive (count_by p xs) ∙ sym (ap (λ (t : Bool). t || list_any p xs) h)
    by_test false h rest = ap (nat_lt 0) (count-skip p x xs h) ∙ rest ∙ sym (ap (λ (t : Bool). t || list_any p xs) h)

-- ---- the row of a number

-- one for an element that passes
abbrev pub one_of : (BotRow → Bool) → Option BotRow → ℕ
one_of p row = option_map_or (λ bot. if p bot then 1 else 0) row 0

-- the row of a number is among those that are counted
pub one_counted : (p : BotRow → Bool) (rows : List BotRow) (number : ℕ) → one_of p (row_of rows number) ≤ count_by p rows
one_counted p [] number = omega arith
one_counted p (row ∷ rows) number = by_test (row.no == number) (one_counted p rows number)
  where
    by_test : (t : Bool) → one_of p (row_of rows number) ≤ count_by p rows → one_of p (cond t (Some row) (row_of rows number)) ≤ count_by p (row ∷ rows)
    by_test true rest = omega (arith, count-cons p row rows)
    by_test false rest = omega (arith, rest, count-cons p row rows)

other_number : (a b : ℕ) → b < a → (a == b) ≡ false
other_number a b h = grind (arith, nat_tests)

module _ (f : BotRow → BotRow) (number : ℕ) (keeps : (bot : BotRow) → (f bot).no ≡ bot.no) (only : (bot : BotRow) → (bot.no == number) ≡ false → f bot ≡ bot) where
  -- rows with higher numbers stay
  rest_stays : (n : ℕ) (rows : List BotRow) → AreNumbered no_of_bot n rows → number < n → map f rows ≡ rows
  rest_stays n [] numbered below = refl
  rest_stays n (row ∷ rows) numbered below =
      let head = only row (other_number row.no number (omega (arith, numbered.0))) in
      let tail = rest_stays (n + 1) rows numbered.1 (omega arith) in cc

  -- a change of the row of a number changes the number of those that pass by that row alone
  pub counted_change : (p : BotRow → Bool) (n : ℕ) (rows : List BotRow) → AreNumbered no_of_bot n rows →
      count_by p (map f rows) + one_of p (row_of rows number) ≡ count_by p rows + one_of p (option_map f (row_of rows number))
  counted_change p n [] numbered = refl
  counted_change p n (row ∷ rows) numbered = by_test (row.no == number) refl (counted_change p (n + 1) rows numbered.1)
    where
      by_test : (t : Bool) → (row.no == number) ≡ t →
          count_by p (map f rows) + one_of p (row_of rows number) ≡ count_by p rows + one_of p (option_map f (row_of rows number)) →
          count_by p (f row ∷ map f rows) + one_of p (cond t (Some row) (row_of rows number)) ≡ count_by p (row ∷ rows) + one_of p (option_map f (cond t (Some row) (row_of rows number)))
      by_test true h rest =
          let is : row.no ≡ number = eqb-true row.no number h in
          let same = rest_stays (n + 1) rows numbered.1 (omega (arith, numbered.0)) in
          let count : count_by p (map f rows) ≡ count_by p rows = ap (count_by p) same in
          omega (arith, count, count-cons p (f row) (map f rows), count-cons p row rows)
      by_test false h rest =
          let one : cond {A = ℕ} (p (f row)) 1 0 ≡ cond {A = ℕ} (p row) 1 0 = ap (λ (bot : BotRow). cond {A = ℕ} (p bot) 1 0) (only row h) in
          omega (arith, rest, one, count-cons p (f row) (map f rows), count-cons p row rows)

-- the row of a number after a change that leaves the numbers
pub row_of-map : (f : BotRow → BotRow) (number : ℕ) → ((bot : BotRow) → (f bot).no ≡ bot.no) → (rows : List BotRow) → row_of (map f rows) number ≡ option_map f (row_of rows number)
row_of-map f number keeps [] = refl
row_of-map f number keeps (row ∷ rows) =
    ap (λ (n : ℕ). cond (n == number) (Some (f row)) (row_of (map f rows) number)) (keeps row) ∙ by_test (row.no == number) (row_of-map f number keeps rows)
  where
    by_test : (t : Bool) → row_of (map f rows) number ≡ option_map f (row_of rows number) →
        cond t (Some (f row)) (row_of (map f rows) number) ≡ option_map f (cond t (Some row) (row_of rows number))
    by_test true rest = refl
    by_test false rest = rest

-- ---- one row more

pub count-push : (p : BotRow → Bool) (rows : List BotRow) (row : BotRow) → count_by p (rows ++ row ∷ []) ≡ count_by p rows + one_of p (Some row)
count-push p rows row = omega (arith, sum_by-append (λ (bot : BotRow). cond {A = ℕ} (p bot) 1 0) rows (row ∷ []), count-cons p row [])

same_number : (n : ℕ) → (n == n) ≡ true
same_number n = grind (arith, nat_tests)

pub row_of-push : (rows : List BotRow) (row : BotRow) → row_of rows row.no ≡ None → row_of (rows ++ row ∷ []) row.no ≡ Some row
row_of-push [] row none = ap (λ (t : Bool). cond t (Some row) None) (same_number row.no)
row_of-push (first ∷ rows) row none = by_test (first.no == row.no) none (row_of-push rows row)
  where
    by_test : (t : Bool) → cond t (Some first) (row_of rows row.no) ≡ None → (row_of rows row.no ≡ None → row_of (rows ++ row ∷ []) row.no ≡ Some row) →
        cond t (Some first) (row_of (rows ++ row ∷ []) row.no) ≡ Some row
    by_test true none rest = absurd (cc)
    by_test false none rest = rest none

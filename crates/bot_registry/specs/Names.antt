-- The numbers of the rows, by name.
use Rattle.std.specs.Prelude.{◌≡◌, ◌≢◌, ℕ, Bool, true, false, ◌-◌, [], List, slice_index_or}
use Rattle.std.specs.List.{AllPairs}
use Rattle.std.specs.List.Sorted.{IsPermutation, IsSortedBy}
use Rattle.std.specs.Ordering.{is_le}
use Rattle.dimensions.specs.Order.{is_text_below, text_cmp}
use Rattle.swarm_model.specs.declared.bot_row.BotRow.{BotRow}

abbrev pub name_of : BotRow → List ℕ
name_of bot = bot.name

-- the name of the bot of a number, where all names are in the order of their numbers
abbrev pub name_at : List (List ℕ) → ℕ → List ℕ
name_at names number = slice_index_or names (number - 1) []

abbrev pub is_name_below : List (List ℕ) → ℕ → ℕ → Bool
is_name_below names a b = is_text_below (name_at names a) (name_at names b)

-- the name of the number is this one or comes before it, or comes after it
abbrev pub IsUpTo : List (List ℕ) → List ℕ → ℕ → Type 0
IsUpTo names name number = is_le (text_cmp (name_at names number) name) ≡ true

abbrev pub IsPast : List (List ℕ) → List ℕ → ℕ → Type 0
IsPast names name number = is_le (text_cmp (name_at names number) name) ≡ false

-- the numbers are sorted by their names, which are apart
pub record AreByName (numbers : List ℕ) (names : List (List ℕ)) (sorted : List ℕ) : Type 0 where
  pub order : IsSortedBy (is_name_below names) sorted
  pub all : IsPermutation numbers sorted
  pub apart : AllPairs (λ a b. a ≢ b) names

-- Rows that are numbered from 1, and what is known of a row.
use Rattle.std.specs.Prelude.{◌≡◌, ℕ, ◌+◌, ◌^◌, ◌<◌, ◌≤◌, ◌==◌, List, length, Option}
use Rattle.std.specs.List.{find, All}
use Rattle.swarm_model.specs.declared.task_row.TaskRow.{TaskRow}
use Rattle.swarm_model.specs.declared.bot_row.BotRow.{BotRow}

-- the row of a number
abbrev pub row_of : {R : Type 0} → (R → ℕ) → ℕ → List R → Option R
row_of number_of number rows = find (λ row. number_of row == number) rows

-- a place among the rows, where the row of a number stands
pub record StandsAt {R : Type 0} (rows : List R) (number place : ℕ) : Type 0 where
  pub within : place < length rows
  pub number_is : number ≡ place + 1

-- what holds of the row of a number, where there is one
abbrev pub HoldsAt : {R : Type 0} → (R → ℕ) → ℕ → (R → Type 0) → List R → Type 0
HoldsAt number_of number P rows = All (λ row. number_of row ≡ number → P row) rows

-- a request names at most eight slices
abbrev pub HasFewSlices : TaskRow → Type 0
HasFewSlices task = length task.request.task_slices ≤ 8

-- a moment to which a slice's seconds can be added
abbrev pub IsEarly : TaskRow → Type 0
IsEarly task = task.since ≤ 2 ^ 40

-- a moment to which the seconds of a timeout can be added
abbrev pub IsHeard : BotRow → Type 0
IsHeard bot = bot.contact ≤ 2 ^ 40

-- How many tasks are in each state, where one row changes.
use Rattle.std.specs.Prelude.{◌≡◌, ℕ, Bool, false, ◌+◌, ◌-◌, List, map, Option, if◌then◌else◌}
use Rattle.std.specs.Option.{option_map_or}
use Rattle.swarm_model.specs.declared.task_state.TaskState.{TaskState}
use Rattle.swarm_model.specs.Finding.{is_state}
use Rattle.swarm_model.specs.History.{states}

-- the row, where there is one, is in the state
abbrev pub is_in : Option TaskState → TaskState → Bool
is_in row state = option_map_or (λ own. is_state own state) row false

abbrev pub one_if : Bool → ℕ
one_if test = if test then 1 else 0

-- the count of a state after a row came from one state, or was not there, to another
abbrev pub shifted : Option TaskState → Option TaskState → TaskState → ℕ → ℕ
shifted from to state count = count + one_if (is_in to state) - one_if (is_in from state)

-- the counts in the order of the states, so shifted
abbrev pub AreShifted : Option TaskState → Option TaskState → List ℕ → List ℕ → Type 0
AreShifted from to old new = (count : TaskState → ℕ) → old ≡ map count states → new ≡ map (λ state. shifted from to state (count state)) states

-- Counts in the order of the states.
use Rattle.std.proofs.Common.{◌≡◌, ℕ, ◌<◌, true, List, [], ◌∷◌, map, length, get_or, slice_index_or, count_by, refl, arith}
use Rattle.std.specs.List.{All}
use Rattle.std.proofs.lemmas.List.Elements.{All-map}
use Rattle.std.proofs.lemmas.List.Sums.{count_by-le-length}
use Rattle.dimensions.proofs.Counting.{count-pass}
use Rattle.swarm_machine.specs.Types.{TaskState, Pending, Running, Expired, TimedOut, BotDied, Canceled, Completed, Killed, NoResource, PoolState}
use Rattle.swarm_model.specs.Finding.{state_place, has_state}
use Rattle.swarm_model.specs.History.{states, count_in, tally}

-- all items are counted
pub count_all : {X : Type 0} (xs : List X) → count_by (λ x. true) xs ≡ length xs
count_all [] = refl
count_all {X = X} (x ∷ xs) = let rest = count_all xs in let first = count-pass {X = X} (λ y. true) x xs refl in omega (arith, rest, first)

-- the count of a state stands at the place of the state
pub count_at : (count : TaskState → ℕ) (state : TaskState) → slice_index_or (map count states) (state_place state) 0 ≡ count state
count_at count Pending = refl
count_at count Running = refl
count_at count Expired = refl
count_at count TimedOut = refl
count_at count BotDied = refl
count_at count Canceled = refl
count_at count Completed = refl
count_at count Killed = refl
count_at count NoResource = refl

-- where there are few rows, each count is small
pub counts_are_small : (s : PoolState) (most : ℕ) → length s.tasks < most → All (λ (count : ℕ). count < most) (tally s)
counts_are_small s most few =
    All-map (λ (count : ℕ). count < most) (count_in s) states (λ k d low. let all = count_by-le-length (has_state (get_or states k d)) s.tasks in omega (arith, all, few))

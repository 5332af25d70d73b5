-- The nodes of a tournament tree in an array.
use Rattle.std.specs.Prelude.{◌≡◌, ◌≢◌, ℕ, ◌+◌, ◌*◌, ◌<◌, ◌≤◌, List, Option}
use Rattle.swarm_model.specs.declared.deadline.Deadline.{Deadline}
use Rattle.pool_index.specs.Deadlines.{deadline_at, earlier_of}

-- each inner node, but for one, is the earlier of its two children
abbrev pub IsTreeExcept : ℕ → ℕ → List (Option Deadline) → Type 0
IsTreeExcept one width nodes =
    (i : ℕ) → 1 ≤ i → i < width → i ≢ one → deadline_at nodes i ≡ earlier_of (deadline_at nodes (2 * i)) (deadline_at nodes (2 * i + 1))

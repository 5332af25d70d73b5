-- What holds of rows from which a pool may open, and of their weight.
use Rattle.std.specs.Prelude.{◌≡◌, ℕ, ◌+◌, ◌≤◌, ◌^◌, List, length}
use Rattle.std.specs.List.{sum_by}
use Rattle.pool_laws.specs.Types.{PoolSettings, PoolState, Entry}
use Rattle.swarm_model.specs.Entries.{weight}
use Rattle.swarm_model.specs.Effects.{after, opening}
use Rattle.swarm_model.specs.History.{replay, MayFollow, IsCaused}
use Rattle.swarm_model.specs.Soundness.{IsSound}
use Rattle.swarm_model.specs.StateWeight.{state_weight}
use Rattle.swarm_model.specs.BaseRules.{AreBaseRows, IsBase}

-- a pool without rows weighs nothing
abbrev pub OpeningWeighsNothing : Type 0
OpeningWeighsNothing = (settings : PoolSettings) → state_weight (opening settings) ≡ 0

-- no entry adds more to the rows than it weighs
abbrev pub WeightAfter : Type 0
WeightAfter = (s : PoolState) (entry : Entry) → IsSound s → state_weight (after s entry) ≤ state_weight s + weight entry

-- so the rows to which a log leads weigh no more than those from which it begins, and the log
abbrev pub WeightIsBounded : Type 0
WeightIsBounded =
    (base : PoolState) (log : List Entry) → IsSound base → IsCaused base log → state_weight (replay base log) ≤ state_weight base + sum_by weight log

-- each entry keeps the rows such rows
abbrev pub KeepsBaseRows : Type 0
KeepsBaseRows = (s : PoolState) (entry : Entry) → IsSound s → AreBaseRows s → MayFollow s entry → AreBaseRows (after s entry)

-- so a log that a pool may have from a base leads to a base, where it is light and short enough
abbrev pub LeadsToABase : Type 0
LeadsToABase =
    (settings : PoolSettings) (count : ℕ) (base : PoolState) (log : List Entry) → IsBase settings count base → IsCaused base log
    → state_weight base + sum_by weight log ≤ settings.most_weight → count + length log ≤ 2 ^ 31
    → IsBase settings (count + length log) (replay base log)

-- the empty rows are a base, after as many entries as a count may be
abbrev pub OpeningIsABase : Type 0
OpeningIsABase = (settings : PoolSettings) (count : ℕ) → count ≤ 2 ^ 31 → IsBase settings count (opening settings)

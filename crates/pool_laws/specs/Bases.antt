-- What holds of a log that begins from the rows of a base.
use Rattle.std.specs.Prelude.{◌≡◌, ℕ, List, ◌++◌, Some}
use Rattle.std.specs.List.{All, sum_by}
use Rattle.pool_laws.specs.Types.{TaskRow, PoolState, Entry}
use Rattle.swarm_model.specs.declared.entry.EntryKind.TheVariants as kind
use Rattle.swarm_model.specs.Finding.{task_of}
use Rattle.swarm_model.specs.Claims.{IsRightClaim}
use Rattle.swarm_model.specs.History.{replay, tally, IsCaused, IsLegal, MayFollow}
use Rattle.swarm_model.specs.Soundness.{IsSound}
use Rattle.swarm_model.specs.Before.{before, verdict_since, accepted_since, verdict_tally_since, HasRightRunsSince}

-- the state of each task is the one that the base and the log tell
abbrev pub StatesFromABase : Type 0
StatesFromABase =
    (base : PoolState) (log : List Entry) (t : ℕ) (task : TaskRow) → IsSound base → IsCaused base log
    → task_of (replay base log) t ≡ Some task → verdict_since base log t ≡ task.state

-- each claim is right for what the base tells of its task, followed by the log
abbrev pub ClaimsFromABase : Type 0
ClaimsFromABase =
    (base : PoolState) (log : List Entry) (entry : Entry) (b t : ℕ) (claim : List ℕ) → IsSound base → IsCaused base log
    → MayFollow (replay base log) entry → entry.kind ≡ kind.Claim b t claim
    → IsRightClaim (replay base log) (before base t ++ log) entry.moment b t

-- so it is for each task
abbrev pub RunsFromABase : Type 0
RunsFromABase =
    (base : PoolState) (log : List Entry) → IsSound base → IsCaused base log
    → All (HasRightRunsSince base (replay base log) log) (replay base log).tasks

-- the tally counts what the base and the log tell
abbrev pub TallyFromABase : Type 0
TallyFromABase =
    (base : PoolState) (log : List Entry) → IsSound base → IsCaused base log → tally (replay base log) ≡ verdict_tally_since base log

-- and adds up to the tasks of the base and those that were accepted since
abbrev pub TallyAddsUpFromABase : Type 0
TallyAddsUpFromABase =
    (base : PoolState) (log : List Entry) → IsSound base → IsCaused base log
    → sum_by (λ count. count) (tally (replay base log)) ≡ accepted_since base log

-- where a log is cut, its rest is legal from the rows at the cut
abbrev pub RestIsLegal : Type 0
RestIsLegal = (base : PoolState) (first rest : List Entry) → IsSound base → IsLegal base (first ++ rest) → IsLegal (replay base first) rest

-- and those rows, followed by the rest, tell the same of each task
abbrev pub RestTellsTheSame : Type 0
RestTellsTheSame =
    (base : PoolState) (first rest : List Entry) (t : ℕ) → IsSound base → IsCaused base (first ++ rest)
    → verdict_since base (first ++ rest) t ≡ verdict_since (replay base first) rest t

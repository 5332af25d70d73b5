-- A base with a task whose run was lost, that came to its next slice, and runs there.
use Rattle.std.specs.Prelude.{true, List, [], ◌∷◌, None, codes}
use Rattle.pool_laws.specs.Types.{NewTask, Pending, PoolState, Entry}
use Rattle.swarm_model.specs.declared.entry.EntryKind.TheVariants as kind
use Rattle.swarm_model.specs.declared.entry.Outcome.TheVariants as outcome
use Rattle.swarm_model.specs.Answers.{entry_at}
use Rattle.swarm_model.specs.Effects.{opening}
use Rattle.swarm_model.specs.Examples.{small_task, properties}
use Rattle.swarm_model.specs.History.{IsCaused, replay}
use Rattle.pool_laws.specs.Worked.{small_dims, other_dims, repeatable, retrying}

-- a task of two slices, each a minute long; a lost run of the first may be tried again
abbrev pub two_slices : NewTask
two_slices =
    record (small_task 60) {
      task_slices =
          (record { expiration_secs = 60; wait_for_capacity = true; properties = repeatable })
          ∷ (record { expiration_secs = 60; wait_for_capacity = true; properties = properties })
          ∷ [];
    }

-- the bot that claimed it begins anew, so its run is lost; it waits once more until its slice ends; another bot claims it, and is asked to stop
abbrev pub moved_log : List Entry
moved_log =
    entry_at 1000 0 (kind.New 1 (codes "ana") two_slices Pending 0 None)
    ∷ entry_at 1001 0 (kind.Handshake 1 (codes "bot-1") (codes "session-1") small_dims [])
    ∷ entry_at 1001 0 (kind.Handshake 2 (codes "bot-2") (codes "session-1") other_dims [])
    ∷ entry_at 1002 0 (kind.Claim 1 1 (codes "claim-1"))
    ∷ entry_at 1003 0 (kind.Handshake 1 (codes "bot-1") (codes "session-2") small_dims [])
    ∷ entry_at 1063 0 (kind.Slice 1 (outcome.Slice 1))
    ∷ entry_at 1064 0 (kind.Claim 2 1 (codes "claim-2"))
    ∷ entry_at 1065 0 (kind.Kill 1)
    ∷ []

-- it is a log that a pool may have
abbrev pub TaskMoves : Type 0
TaskMoves = IsCaused (opening retrying) moved_log

-- the pool that it leads to
abbrev pub moved_base : PoolState
moved_base = replay (opening retrying) moved_log

-- what the row of the task stands for there: what happened to it, at no moment
abbrev pub told_before : List Entry
told_before =
    entry_at 0 0 (kind.New 1 (codes "ana") two_slices Pending 0 None)
    ∷ entry_at 0 0 (kind.Claim 1 1 (codes "claim-1"))
    ∷ entry_at 0 0 (kind.Silence 1)
    ∷ entry_at 0 0 (kind.Slice 1 (outcome.Slice 1))
    ∷ entry_at 0 0 (kind.Claim 2 1 (codes "claim-2"))
    ∷ entry_at 0 0 (kind.Kill 1)
    ∷ []

-- What holds of a pool without its blobs.
use Rattle.std.specs.Prelude.{◌≡◌, IsTrue}
use Rattle.swarm_model.specs.declared.pool_state.PoolState.{PoolState}
use Rattle.swarm_model.specs.Soundness.{IsSound}
use Rattle.pool_views.specs.Views.{Query, reads_rows, reply_of}
use Rattle.row_copies.specs.Kept.{rows_alone}

-- what only reads tasks and bots is answered the same
abbrev pub RepliesReadRowsAlone : Type 0
RepliesReadRowsAlone = (s : PoolState) (query : Query) → IsTrue (reads_rows query.request) → reply_of (rows_alone s) query ≡ reply_of s query

-- it is as sound as the whole pool
abbrev pub RowsAloneAreSound : Type 0
RowsAloneAreSound = (s : PoolState) → IsSound s → IsSound (rows_alone s)

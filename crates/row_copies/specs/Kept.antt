-- What a copy of the rows stands for.
use Rattle.std.specs.Prelude.{[], ◌∷◌, ◌++◌, map}
use Rattle.swarm_model.specs.declared.pool_state.PoolState.{PoolState}
use Rattle.swarm_model.specs.declared.entry.Entry.{Entry}
use Rattle.swarm_model.specs.Effects.{after}
use Rattle.row_copies.specs.declared.row_copy.RowCopy.{RowCopy}
use Rattle.row_copies.specs.declared.kept.Kept.{Kept}

-- a pool without its blobs
abbrev pub rows_alone : PoolState → PoolState
rows_alone s = record s { blobs = []; placed = 0 }

-- the rows
abbrev pub now_of : RowCopy → PoolState
now_of copy = record { settings = copy.settings; last = copy.last; tasks = copy.tasks.rows; bots = copy.bots.rows; blobs = []; placed = 0 }

abbrev pub kept_of : RowCopy → Kept
kept_of copy = record { base = copy.base.value; now = now_of copy; log = map (λ s. s.value) copy.log.items }

-- one entry more
abbrev pub followed : Kept → Entry → Kept
followed kept e = record { base = kept.base; now = rows_alone (after kept.now e); log = kept.log ++ e ∷ [] }

-- before any entry
abbrev pub begun : PoolState → Kept
begun base = record { base = base; now = rows_alone base; log = [] }

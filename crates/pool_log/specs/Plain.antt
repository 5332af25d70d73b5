-- What contracts see of a pool with a log, and of its rows.
use Rattle.std.specs.Prelude.{List, Option}
use Rattle.content_store.specs.Contents.{Content, bytes_of}
use Rattle.swarm_model.specs.declared.pool_state.PoolState.{PoolState}
use Rattle.swarm_model.specs.declared.entry.Entry.{Entry}
use Rattle.swarm_model.specs.Bases.{Base}
use Rattle.swarm_model.specs.MachineState.{MachineState}

-- the state that the rows stand for, the entry for which all lies ready, and the contents that are held
pub record RowsState : Type 0 where
  pub pool : PoolState
  pub ready : Option Entry
  pub held : List Content

-- where the log begins, the rows, the log, the entry that is made ready, and the contents that are held
pub record KeptPool : Type 0 where
  pub start : Base
  pub pool : PoolState
  pub log : List Entry
  pub ready : Option Entry
  pub held : List Content

-- the same as a machine keeps it, with the bytes that are held by their digests
abbrev pub machine_of : KeptPool → MachineState
machine_of kept = record { start = kept.start; pool = kept.pool; log = kept.log; ready = kept.ready; held = bytes_of kept.held }

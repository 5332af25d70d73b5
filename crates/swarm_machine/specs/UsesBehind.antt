-- The uses of digests in a pool, and what they need to follow an entry.
use Rattle.std.specs.Prelude.{◌≡◌, ℕ, ◌+◌, ◌<◌, ◌^◌, List}
use Rattle.swarm_machine.specs.Types.{PoolState, Entry, UseLink}
use Rattle.swarm_model.specs.Effects.{after}
use Rattle.swarm_model.specs.History.{MayFollow}
use Rattle.swarm_model.specs.Soundness.{IsSound}
use Rattle.pool_changes.specs.Blobs.{fresh_in}
use Rattle.pool_index.specs.Uses.{uses_of}
use Rattle.index_laws.specs.TaskUses.{uses_in, uses_to_come}
use Rattle.index_laws.specs.Touched.{touched_task}
use Rattle.common_rows.specs.declared.rows.Rows.{Rows}
use Rattle.swarm_machine.specs.declared.indexes.Touched.{Touched}
use Rattle.common_rows.specs.Rows.{state_of}
use Rattle.swarm_machine.specs.Uses.{AreListedFor}

-- the uses that are counted are those of the rows
pub record AreUses (links : List UseLink) (s : PoolState) : Type 0 where
  pub counted : (digest : List ℕ) → uses_of links digest ≡ uses_in s digest

-- no digest has 2^32 uses after an entry
abbrev pub HasFewUses : PoolState → Entry → Type 0
HasFewUses s e = (digest : List ℕ) → uses_in s digest + uses_to_come s.tasks e.kind digest < 2 ^ 32

-- the rows are those after an entry, and the uses are those of the rows before it
pub record UsesAreBehind (links : List UseLink) (entry : Entry) (touched : Touched) (rows : Rows) : Type 0 where
  pub before : PoolState
  pub sound : IsSound before
  pub follows : MayFollow before entry
  pub is_after : state_of rows ≡ after before entry
  pub task : touched.task ≡ touched_task before entry.kind
  pub fresh : touched.fresh ≡ fresh_in before entry.kind
  pub uses_of_rows : AreUses links before
  pub few : HasFewUses before entry
  pub listed : AreListedFor links entry.kind

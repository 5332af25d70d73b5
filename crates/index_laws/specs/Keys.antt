-- Keys of task rows, by which an index knows them.
use Rattle.std.specs.Prelude.{◌≡◌, ◌↔◌, ◌⊎◌, List, Option, Some}
use Rattle.std.specs.List.{Contains}
use Rattle.swarm_model.specs.declared.task_row.TaskRow.{TaskRow}

-- one of the rows is known by the key
pub record IsKnown {K : Type 0} (by : TaskRow → K → Type 0) (tasks : List TaskRow) (k : K) : Type 0 where
  pub task : TaskRow
  pub among : Contains tasks task
  pub keyed : by task k

-- a row has one key at most, and this is it
abbrev pub IsKey : {K : Type 0} → (TaskRow → Option K) → TaskRow → K → Type 0
IsKey {K = K} key task k = key task ≡ Some k

-- one of the rows has the key
abbrev pub HasKey : {K : Type 0} → (TaskRow → Option K) → List TaskRow → K → Type 0
HasKey {K = K} key tasks k = IsKnown (IsKey key) tasks k

-- the new rows are known by the keys of the old ones, and by the one to come
abbrev pub KeysGrow : {K : Type 0} → (TaskRow → K → Type 0) → Option K → List TaskRow → List TaskRow → Type 0
KeysGrow {K = K} by come old new = (k : K) → IsKnown by new k ↔ (IsKnown by old k ⊎ (come ≡ Some k))

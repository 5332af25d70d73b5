-- What an entry needs of a copy, and what lies ready for it.
use Rattle.std.specs.Prelude.{◌≡◌, ◌<◌, Some, vec_len, vec_capacity}
use Rattle.swarm_model.specs.declared.entry.EntryKind.{EntryKind}
use Rattle.row_changes.specs.Parts.{bot_parts, task_parts}
use Rattle.bot_registry.specs.Acting.{Follows}
use Rattle.common_rows.specs.Suiting.{SuitsTasks}
use Rattle.row_copies.specs.declared.row_copy.RowCopy.{RowCopy}

-- the rows can take it
pub record Suits (copy : RowCopy) (k : EntryKind) : Type 0 where
  pub tasks : SuitsTasks copy.tasks.rows k
  pub bots : Follows copy.bots k

-- what it moves into the rows lies ready, and there is room for it
pub record IsReadyFor (copy : RowCopy) (k : EntryKind) : Type 0 where
  pub tasks : copy.tasks.ready ≡ Some (task_parts k)
  pub bots : copy.bots.ready ≡ Some (bot_parts k)
  pub room : vec_len copy.log < vec_capacity copy.log

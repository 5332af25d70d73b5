use Rattle.index_laws.proofs.AddedRows.{rows_grow_by_one}
use Rattle.index_laws.proofs.rows.rows_grow_by_one.Goals as goal

pub returns : goal.returns
returns c = rows_grow_by_one

-- Each entry is looked up.
use Rattle.std.proofs.Common.{refl}
use Rattle.pool_laws.proofs.Worked.{blob_is_kept}
use Rattle.pool_laws.proofs.laws.a_blob_is_kept.Goals as goal

pub returns : goal.returns
returns c = record { happens = blob_is_kept; removed = refl }

-- No entry changes a row that is final.
use Rattle.pool_laws.proofs.Finals.{final_stays}
use Rattle.pool_laws.proofs.laws.finals_stay.Goals as goal

pub returns : goal.returns
returns c = final_stays

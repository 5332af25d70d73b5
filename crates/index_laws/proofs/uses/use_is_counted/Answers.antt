use Rattle.index_laws.proofs.UseIsCounted.{use_is_counted}
use Rattle.index_laws.proofs.uses.use_is_counted.Goals as goal

pub returns : goal.returns
returns c = use_is_counted

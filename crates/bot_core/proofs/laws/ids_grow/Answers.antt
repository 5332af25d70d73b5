use Rattle.bot_core.proofs.IdLemmas.{all_grow}
use Rattle.bot_core.proofs.laws.ids_grow.Goals as goal

pub returns : goal.returns
returns c = all_grow

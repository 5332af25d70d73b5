use Rattle.bot_core.proofs.OpenRunLemmas.{asks_none_while_open}
use Rattle.bot_core.proofs.laws.cleans_up_each_run.Goals as goal

pub returns : goal.returns
returns c = asks_none_while_open

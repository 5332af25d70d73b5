use Rattle.bot_core.proofs.HistoryLemmas.{all_stop}
use Rattle.bot_core.proofs.laws.stops_where_asked.Goals as goal

pub returns : goal.returns
returns c = all_stop

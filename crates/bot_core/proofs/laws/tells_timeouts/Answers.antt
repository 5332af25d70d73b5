use Rattle.bot_core.proofs.HistoryLemmas.{all_tell}
use Rattle.bot_core.proofs.laws.tells_timeouts.Goals as goal

pub returns : goal.returns
returns c = all_tell

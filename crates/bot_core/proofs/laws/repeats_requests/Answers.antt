use Rattle.bot_core.proofs.RepeatLemmas.{repeated}
use Rattle.bot_core.proofs.laws.repeats_requests.Goals as goal

pub returns : goal.returns
returns c = repeated

use Rattle.bot_core.proofs.SignalLemmas.{all_in_order}
use Rattle.bot_core.proofs.laws.kills_after_term_and_grace.Goals as goal

pub returns : goal.returns
returns c = all_in_order

use Rattle.bot_core.proofs.OutputLemmas.{all_carry}
use Rattle.bot_core.proofs.laws.sends_what_was_written.Goals as goal

pub returns : goal.returns
returns c = all_carry

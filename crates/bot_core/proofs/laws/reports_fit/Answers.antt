use Rattle.bot_core.proofs.FitLemmas.{all_fit}
use Rattle.bot_core.proofs.laws.reports_fit.Goals as goal

pub returns : goal.returns
returns c = all_fit

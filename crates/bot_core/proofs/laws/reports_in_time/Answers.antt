use Rattle.bot_core.proofs.HistoryLemmas.{all_report}
use Rattle.bot_core.proofs.laws.reports_in_time.Goals as goal

pub returns : goal.returns
returns c = all_report

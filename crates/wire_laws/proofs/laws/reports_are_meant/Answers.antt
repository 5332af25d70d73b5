use Rattle.wire_laws.proofs.ReportMeanings.{report_is_meant}
use Rattle.wire_laws.proofs.laws.reports_are_meant.Goals as goal

pub returns : goal.returns
returns c = report_is_meant

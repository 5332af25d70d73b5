use Rattle.std.proofs.Common.{rules}
use Rattle.tcp_links.proofs.deadline_link.DeadlineLinkLink.read.Goals as goal

pub returns-then-is_late : goal.returns-then-is_late
returns-then-is_late g c = search rules

-- At no place another pass is out.
use Rattle.std.proofs.Common.{rules, IsTrue}
use Rattle.shared_doors.proofs.server.Server.close.Goals as goal

pub close_all-requires-clause-alone : goal.close_all-requires-clause-alone
close_all-requires-clause-alone g c = let there : IsTrue c.alone.result = search rules in c.alone.ensures.alone there

pub returns-clause-alone : goal.returns-clause-alone
returns-clause-alone g c = let there : IsTrue c.alone.result = search rules in c.alone.ensures.alone there

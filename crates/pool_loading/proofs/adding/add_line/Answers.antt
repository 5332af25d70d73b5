-- An entry that may not follow is not legal, and neither is one for which the log has no room.
use Rattle.pool_loading.proofs.Refusing.{refuses_entry, refuses_more}
use Rattle.pool_loading.proofs.adding.add_line.Goals as goal

pub returns-then-not-branch-clause-refused : goal.returns-then-not-branch-clause-refused
returns-then-not-branch-clause-refused g c =
    λ _. refuses_entry c.args.line.now (g.M.Machine.kept c.args.machine.now) c.in-Ok.entry c.in-Ok.ensures c.requires.history c.in_ok-may_follow.field-0 (cc) c.in_ok-may_follow.ensures.1

pub returns-in-Err-LogFull-clause-refused : goal.returns-in-Err-LogFull-clause-refused
returns-in-Err-LogFull-clause-refused g c =
    λ _. refuses_more c.args.line.now (g.M.Machine.kept c.args.machine.now) c.in-Ok.entry c.in-Ok.ensures (c.reserve.ensures.full.0 (cc))

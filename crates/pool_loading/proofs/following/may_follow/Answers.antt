-- An entry that is no deadline's may follow where it is answered to the request for which it stands.
use Rattle.std.proofs.Common.{arith}
use Rattle.pool_loading.proofs.Deciding.{follows_asked}
use Rattle.pool_loading.proofs.following.may_follow.Goals as goal

pub returns-in_ok-asked : goal.returns-in_ok-asked
returns-in_ok-asked g c =
    follows_asked (g.M.Machine.kept c.args.machine.now).pool c.args.entry.now (omega arith) (omega arith) (cc) c.is_asked.result c.is_asked.ensures

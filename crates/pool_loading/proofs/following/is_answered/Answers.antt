-- By what is due, whether the request fits, and what its answer adds.
use Rattle.pool_loading.specs.Asking.{as_asked}
use Rattle.pool_loading.proofs.Deciding.{not_where_due, not_where_unfit, where_added}
use Rattle.pool_loading.proofs.following.is_answered.Goals as goal

pub returns-then-is_any_due : goal.returns-then-is_any_due
returns-then-is_any_due g c =
    not_where_due (g.M.Machine.kept c.args.machine.now).pool c.args.entry.now (as_asked c.args.asked.now) (cc)

pub returns-then-not-fits : goal.returns-then-not-fits
returns-then-not-fits g c =
    not_where_unfit (g.M.Machine.kept c.args.machine.now).pool c.args.entry.now (as_asked c.args.asked.now) (cc)

pub returns : goal.returns
returns g c =
    where_added (g.M.Machine.kept c.args.machine.now).pool c.args.entry.now (as_asked c.args.asked.now) (cc) (cc) c.is_added.result c.is_added.ensures

-- By the request for which the entry stands.
use Rattle.std.proofs.Common.{ap, sym, ◌∙◌}
use Rattle.std.specs.Option.{option_map}
use Rattle.swarm_model.specs.Entries.{asks}
use Rattle.swarm_model.specs.History.{IsAnswered}
use Rattle.pool_loading.specs.Asking.{as_asked}
use Rattle.pool_loading.proofs.Deciding.{by_asked, not_asked}
use Rattle.pool_loading.proofs.following.is_asked.Goals as goal

pub returns-in-Some : goal.returns-in-Some
returns-in-Some g c =
    let s = (g.M.Machine.kept c.args.machine.now).pool in
    by_asked (asks s c.args.entry.now.kind) (IsAnswered s c.args.entry.now) c.in-Some.asked (sym (ap (option_map as_asked) c.in-Some.is) ∙ c.requires.asked) c.is_answered.result c.is_answered.ensures

pub returns-in-None : goal.returns-in-None
returns-in-None g c =
    let s = (g.M.Machine.kept c.args.machine.now).pool in
    not_asked (asks s c.args.entry.now.kind) (IsAnswered s c.args.entry.now) (sym (ap (option_map as_asked) c.in-None.is) ∙ c.requires.asked)

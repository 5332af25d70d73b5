-- The test of dimensions decides whether they are the same.
use Rattle.std.proofs.Common.{sym, ◌∙◌}
use Rattle.bot_registry.proofs.Alike.{bots_alike}
use Rattle.bot_registry.proofs.demand.is_none_or_same.Goals as goal

pub returns-in-Some : goal.returns-in-Some
returns-in-Some c = λ same. rw c.in-Some.is (bots_alike c.in-Some.dims c.args.bot.now.dims (sym c.eq.ensures ∙ same))

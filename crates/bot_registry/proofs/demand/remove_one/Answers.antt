-- A fit bot is among those that are counted, and can be taken out.
use Rattle.std.proofs.Common.{sym, ◌∙◌}
use Rattle.bot_registry.proofs.Demands.{can_remove, may_include, removed}
use Rattle.bot_registry.proofs.demand.remove_one.Goals as goal

pub recount-requires : goal.recount-requires
recount-requires c =
    can_remove c.in-Some.bot.now (sym c.is_fit-fit.ensures ∙ c.if-fit.true) c.args.demands.now
    (may_include c.args.rows.now c.args.number c.in-Some.bot.now (sym c.in-Some.ensures) c.args.demands.now c.requires.counted)

pub returns-then-not-keeps_dims-clause-counted : goal.returns-then-not-keeps_dims-clause-counted
returns-then-not-keeps_dims-clause-counted c =
    rw c.recount.ensures
    (removed c.args.rows.now c.args.number c.in-Some.bot.now (sym c.in-Some.ensures) (sym c.is_fit-fit.ensures ∙ c.if-fit.true) c.args.demands.now c.requires.counted)

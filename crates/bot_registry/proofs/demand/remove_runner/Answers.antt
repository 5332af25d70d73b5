-- A fit bot that runs the task is taken out.
use Rattle.std.proofs.Common.{sym, ◌∙◌}
use Rattle.bot_registry.proofs.Demands.{runner_removed}
use Rattle.bot_registry.proofs.demand.remove_runner.Goals as goal

pub returns-then-is_fit : goal.returns-then-is_fit
returns-then-is_fit c = λ others all.
    rw c.recount.ensures
    (runner_removed c.args.task c.args.bot.now (sym c.runs_task.ensures ∙ c.if-runs_task.true) (sym c.is_fit.ensures ∙ c.if-is_fit.true) others c.args.demands.now all)

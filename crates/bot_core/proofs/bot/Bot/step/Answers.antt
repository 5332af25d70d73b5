use Rattle.std.proofs.Common.{◌∙◌, sym, subst}
use Rattle.bot_core.specs.declared.bot_state.BotState.{BotState}
use Rattle.bot_core.specs.Bounds.{InBounds}
use Rattle.bot_core.proofs.StateBounds.{stepped_keeps}
use Rattle.bot_core.proofs.bot.Bot.step.Goals as goal

pub invariant_of-self : goal.invariant_of-self
invariant_of-self c =
    subst (λ (t : BotState). InBounds t) (sym c.issue_action-self-inside.ensures)
    (stepped_keeps c.self.inside.state c.in-Some.next c.args.event c.args.moment c.self.invariant (sym c.next_state.ensures ∙ c.in-Some.is))

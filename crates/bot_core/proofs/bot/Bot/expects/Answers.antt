use Rattle.std.proofs.Common.{Option, is_some, ◌∙◌, ap}
use Rattle.bot_core.specs.declared.bot_state.BotState.{BotState}
use Rattle.bot_core.specs.Table.{stepped}
use Rattle.bot_core.proofs.StateBounds.{stepped_takes}
use Rattle.bot_core.proofs.bot.Bot.expects.Goals as goal

pub returns : goal.returns
returns c m =
    c.is_some.ensures
    ∙ ap (λ (o : Option BotState). is_some o) c.next_state.ensures
    ∙ stepped_takes c.self.inside.state c.args.event.now m 0
    ∙ ap (λ (s : BotState). is_some (stepped s c.args.event.now m)) c.self.view_is

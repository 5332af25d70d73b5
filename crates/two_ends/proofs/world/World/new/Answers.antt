-- The world of a bot that has begun stands.
use Rattle.std.proofs.Common.{◌≡◌, [], None, Some, refl, ap, ◌∙◌, subst}
use Rattle.bot_core.specs.declared.bot_event.BotEvent.TheVariants as event
use Rattle.bot_core.specs.declared.bot_state.BotState.{BotState}
use Rattle.bot_core.specs.Table.{stepped}
use Rattle.bot_worlds.specs.World.{sent_after}
use Rattle.bot_worlds.proofs.Standing.{begins_stands}
use Rattle.two_ends.proofs.Standings.{is_begun, is_start}
use Rattle.two_ends.proofs.world.World.new.Goals as goal

pub invariant_of-result : goal.invariant_of-result
invariant_of-result g c =
    let kept = g.M.Machine.kept c.args.machine in
    let bot = c.step-action.new.self in
    let request = c.in_ok-request.request in
    record {
      stands =
          begins_stands c.args.limits c.args.moment kept.start kept.log c.args.name c.args.dims _ c.see_steps.ensures (is_start kept c.args.name c.length-length.ensures.history c.requires.unknown)
          (record {
            bot = bot;
            steps = subst (λ (s : BotState). stepped s event.Begin c.args.moment ≡ Some bot) c.new-bot.ensures c.step-action.ensures.state;
            is =
                is_begun kept.start kept.log c.args.name c.args.dims bot c.step-action.result request c.add_request.new.sent.items c.new.result.items c.new-2.result.items c.new-3.result.items
                c.asking_after-asking.result c.step-action.ensures.action c.in_ok-request.ensures (c.add_request.ensures ∙ ap (sent_after request None) c.in_ok-sent.ensures.items) c.new.ensures.items
                c.new-2.ensures.items c.new-3.ensures.items (c.asking_after-asking.ensures bot [] c.step-action.ensures.action refl);
          });
      filled = c.requires.filled;
      action = c.step-action.ensures.action;
    }

use Rattle.std.proofs.Common.{◌≡◌, [], ◌∷◌, ◌++◌, Some, subst}
use Rattle.bot_core.specs.declared.bot_event.BotEvent.TheVariants as event
use Rattle.bot_core.specs.Table.{stepped}
use Rattle.bot_turns.specs.Turns.{BotWorld, bot_world}
use Rattle.bot_turns.proofs.RunLemmas.{tells_moment, taken_first, taken_next, ready_first}
use Rattle.bot_turns.proofs.running.take_turns.Goals as goal

pub loop-action-init : goal.loop-action-init
loop-action-init g c =
    let w : BotWorld = bot_world c.args.hands.now (g.W.Dialer.state c.args.dialer.now) (g.R.Runner.state c.args.runner.now) (g.C.Clock.ahead c.args.clock.now) (g.C.Clock.waited c.args.clock.now) in
    let v : BotWorld = bot_world c.args.hands.now (g.W.Dialer.state c.args.dialer.now) (g.R.Runner.state c.args.runner.now) (g.C.Clock.ahead c.now-moment.new.self) (g.C.Clock.waited c.now-moment.new.self) in
    let begins = subst (λ b. stepped b event.Begin c.now-moment.result ≡ Some c.step-action.new.self) c.new-bot.ensures c.step-action.ensures.state in (
      (
        [],
        taken_first c.args.limits w v c.step-action.new.self c.now-moment.result
            (tells_moment c.args.hands.now (g.W.Dialer.state c.args.dialer.now) (g.R.Runner.state c.args.runner.now) (g.C.Clock.ahead c.args.clock.now) (g.C.Clock.ahead c.now-moment.new.self) (g.C.Clock.waited c.args.clock.now) (g.C.Clock.waited c.now-moment.new.self) c.now-moment.result c.now-moment.ensures.moments c.now-moment.ensures.waited)
            begins,
      ),
      ready_first c.args.limits c.step-action.new.self c.now-moment.result c.args.hands.now begins,
      c.step-action.ensures.action,
      λ i. i,
    )

pub loop-action-preserved : goal.loop-action-preserved
loop-action-preserved g c =
    let t = c.in_ok-action.ensures.turn in (
      (
        c.loop-action.invariant.0.0 ++ (t.0, t.1) ∷ [],
        taken_next c.args.limits
            (bot_world c.args.hands.now (g.W.Dialer.state c.args.dialer.now) (g.R.Runner.state c.args.runner.now) (g.C.Clock.ahead c.args.clock.now) (g.C.Clock.waited c.args.clock.now))
            c.loop-action.invariant.0.0 t.0 t.1 c.loop-action.bot c.take_turn.new.bot
            (bot_world c.loop-action.hands (g.W.Dialer.state c.loop-action.dialer) (g.R.Runner.state c.loop-action.runner) (g.C.Clock.ahead c.loop-action.clock) (g.C.Clock.waited c.loop-action.clock))
            (bot_world c.take_turn.new.hands (g.W.Dialer.state c.take_turn.new.dialer) (g.R.Runner.state c.take_turn.new.runner) (g.C.Clock.ahead c.take_turn.new.clock) (g.C.Clock.waited c.take_turn.new.clock))
            c.loop-action.invariant.0.1 t.2,
      ),
      c.in_ok-action.ensures.ready,
      c.in_ok-action.ensures.action,
      λ i. c.take_turn.ensures.tells (c.loop-action.invariant.3 i),
    )

use Rattle.bot_turns.specs.Turns.{BotWorld, bot_world}
use Rattle.bot_turns.proofs.RunLemmas.{event_comes_on, takes_turn, ready_after}
use Rattle.bot_turns.proofs.running.take_turn.Goals as goal

pub step-requires : goal.step-requires
step-requires g c =
    record { expected = event_comes_on c.args.bot.now c.args.hands.now c.args.action.now c.in_ok-event.event c.now-moment.result c.requires.ready c.requires.action c.in_ok-event.ensures.event }

pub returns-clause-turn : goal.returns-clause-turn
returns-clause-turn g c = (
  c.in_ok-event.event,
  c.now-moment.result,
  takes_turn c.args.bot.now c.step.new.self c.args.action.now c.in_ok-event.event c.now-moment.result
      (bot_world c.args.hands.now (g.W.Dialer.state c.args.dialer.now) (g.R.Runner.state c.args.runner.now) (g.C.Clock.ahead c.args.clock.now) (g.C.Clock.waited c.args.clock.now))
      c.bot_turn.new.hands (g.W.Dialer.state c.bot_turn.new.dialer) (g.R.Runner.state c.bot_turn.new.runner)
      (g.C.Clock.ahead c.bot_turn.new.clock) (g.C.Clock.ahead c.now-moment.new.self) (g.C.Clock.waited c.bot_turn.new.clock) (g.C.Clock.waited c.now-moment.new.self)
      c.requires.action c.in_ok-event.ensures.turn c.now-moment.ensures.moments c.now-moment.ensures.waited c.step.ensures.state,
)

pub returns-clause-ready : goal.returns-clause-ready
returns-clause-ready g c =
    let w : BotWorld = bot_world c.args.hands.now (g.W.Dialer.state c.args.dialer.now) (g.R.Runner.state c.args.runner.now) (g.C.Clock.ahead c.args.clock.now) (g.C.Clock.waited c.args.clock.now) in
    let b : BotWorld = bot_world c.bot_turn.new.hands (g.W.Dialer.state c.bot_turn.new.dialer) (g.R.Runner.state c.bot_turn.new.runner) (g.C.Clock.ahead c.now-moment.new.self) (g.C.Clock.waited c.now-moment.new.self) in
    ready_after c.args.bot.now c.step.new.self c.args.action.now c.in_ok-event.event c.now-moment.result w b c.requires.ready c.requires.action c.in_ok-event.ensures.event
    (takes_turn c.args.bot.now c.step.new.self c.args.action.now c.in_ok-event.event c.now-moment.result w
    c.bot_turn.new.hands (g.W.Dialer.state c.bot_turn.new.dialer) (g.R.Runner.state c.bot_turn.new.runner)
    (g.C.Clock.ahead c.bot_turn.new.clock) (g.C.Clock.ahead c.now-moment.new.self) (g.C.Clock.waited c.bot_turn.new.clock) (g.C.Clock.waited c.now-moment.new.self)
    c.requires.action c.in_ok-event.ensures.turn c.now-moment.ensures.moments c.now-moment.ensures.waited c.step.ensures.state)

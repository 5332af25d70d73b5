use Rattle.std.proofs.Common.{◌≡◌, ℕ, List}
use Rattle.bot_core.specs.declared.bot_event.BotEvent.{BotEvent}
use Rattle.bot_core.specs.Table.{action_of}
use Rattle.bot_turns.specs.Turns.{bot_world}
use Rattle.bot_turns.specs.Ends.{StillTells}
use Rattle.bot_turns.specs.Runs.{HasTaken, HandsFit}
use Rattle.bot_turns.proofs.RunLemmas.{steps_left}
use Rattle.bot_turns.proofs.running.take_turns.Given as goal

abbrev pub invariant-loop-action : goal.invariant-loop-action
invariant-loop-action g l =
    ((events : List (BotEvent × ℕ))
    × HasTaken l.fn.limits (bot_world l.fn.hands (g.W.Dialer.state l.fn.dialer) (g.R.Runner.state l.fn.runner) (g.C.Clock.ahead l.fn.clock) (g.C.Clock.waited l.fn.clock)) events
    l.bot (bot_world l.hands (g.W.Dialer.state l.dialer) (g.R.Runner.state l.runner) (g.C.Clock.ahead l.clock) (g.C.Clock.waited l.clock)))
    × HandsFit l.bot l.hands × (l.action ≡ action_of l.bot) × StillTells (g.R.Runner.state l.fn.runner) (g.R.Runner.state l.runner)

abbrev pub decreases-loop-action : goal.decreases-loop-action
decreases-loop-action g l = steps_left l.bot

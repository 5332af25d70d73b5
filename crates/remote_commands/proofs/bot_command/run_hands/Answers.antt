use Rattle.std.proofs.Common.{List, ℕ, Ok, refl, subst}
use Rattle.bot_core.specs.declared.bot_limits.BotLimits.{BotLimits}
use Rattle.runners.specs.declared.call.RunnerCall.TheVariants as call
use Rattle.runners.specs.Calls.{Performs}
use Rattle.bot_turns.specs.Turns.{bot_world}
use Rattle.bot_turns.specs.Runs.{RunsBot}
use Rattle.remote_commands.specs.BotCommands.{ran}
use Rattle.remote_commands.proofs.bot_command.run_hands.Goals as goal

pub returns-in-Ok-run_bot : goal.returns-in-Ok-run_bot
returns-in-Ok-run_bot g c = λ files store listener o fit limits new. ran fit (record {
  hands = c.args.hands.now;
  left = c.run_bot.new.hands;
  opened = g.R.Runner.state c.open.new.self;
  stopped = c.in-Ok-run_bot.stopped;
  new = new;
  opens = subst (λ (id : List ℕ). Performs (Ok tt) (g.R.Runner.state c.args.runner.now) (g.R.Runner.state c.open.new.self) (call.Open id)) new.id c.in-Ok.ensures;
  runs = subst
      (λ (l : BotLimits). RunsBot l
      (bot_world c.args.hands.now (g.W.Dialer.state c.args.dialer.now) (g.R.Runner.state c.open.new.self) (g.C.Clock.ahead c.args.clock.now) (g.C.Clock.waited c.args.clock.now))
      (bot_world c.run_bot.new.hands (g.W.Dialer.state c.run_bot.new.dialer) (g.R.Runner.state c.run_bot.new.runner) (g.C.Clock.ahead c.run_bot.new.clock) (g.C.Clock.waited c.run_bot.new.clock))
      c.in-Ok-run_bot.stopped)
      limits c.in-Ok-run_bot.ensures.runs;
  prints = c.print_stop.ensures;
}) (record { files = refl; store = refl; listener = refl })

use Rattle.command_words.specs.Commands.{options_of}
use Rattle.remote_commands.proofs.OptionFaults.{bot_told}
use Rattle.remote_commands.proofs.bot_command.run_bot_command.Goals as goal

pub returns-in-Err : goal.returns-in-Err
returns-in-Err g c = λ files store listener.
    bot_told files store (g.L.Link.state c.args.console.now) (g.L.Link.state c.print_option_fault.new.console) (g.C.Clock.ahead c.args.clock.now) listener (g.W.Dialer.state c.args.dialer.now)
    (g.C.Clock.waited c.args.clock.now) (g.R.Runner.state c.args.runner.now) c.print_option_fault.result (options_of c.args.words.now) c.in-Err.why c.in-Err.ensures.fits c.print_option_fault.ensures

use Rattle.std.proofs.Common.{rules}
use Rattle.client_commands.specs.Commands.{is_output}
use Rattle.client_commands.specs.Steps.{world}
use Rattle.client_commands.proofs.Following.{output_so, no_output}
use Rattle.client_commands.proofs.output.print_bytes.Goals as goal

pub returns-then-is_output : goal.returns-then-is_output
returns-then-is_output g c = λ server place next dialer aside.
    output_so server next c.args.bytes.now (world dialer (g.L.Link.state c.args.console.now) aside) (world dialer (g.L.Link.state c.print_part.new.console) aside)
    (is_output c.args.reply.now) c.print_part.result (search rules) (c.print_part.ensures server next dialer aside)

pub returns-else-is_output : goal.returns-else-is_output
returns-else-is_output g c = λ server place next dialer aside. no_output server next c.args.bytes.now _ (is_output c.args.reply.now) (search rules)

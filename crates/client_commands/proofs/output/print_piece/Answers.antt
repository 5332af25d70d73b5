use Rattle.client_commands.specs.Plans.{lacks_memory}
use Rattle.client_commands.specs.Commands.{fetched}
use Rattle.client_commands.specs.Requests.{stdout_call}
use Rattle.client_commands.proofs.Following.{carried}
use Rattle.client_commands.proofs.output.print_piece.Goals as goal

pub returns-in_default : goal.returns-in_default
returns-in_default g c = λ aside next. lacks_memory _ _

pub returns-in-Ok-ask : goal.returns-in-Ok-ask
returns-in-Ok-ask g c = λ aside next.
    carried (λ _. next) _ c.print_bytes.result (c.in-Ok-ask.ensures (stdout_call c.args.id.now c.args.offset) aside c.in-Ok.ensures (fetched next))
    (rw c.as_slice.ensures at c.print_bytes.ensures c.args.server.now c.in-Ok-ask.answer.place next (g.W.Dialer.state c.ask.new.dialer) aside)

pub returns : goal.returns
returns g c = λ aside next. c.in-Err.ensures (stdout_call c.args.id.now c.args.offset) aside c.in-Ok.ensures (fetched next)

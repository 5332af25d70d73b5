use Rattle.client_commands.specs.Commands.{printed}
use Rattle.client_commands.specs.Plans.{lacks_memory}
use Rattle.client_commands.proofs.once.print_answer.Goals as goal

pub returns-in_default : goal.returns-in_default
returns-in_default g c = λ call aside posts. lacks_memory _ _

pub returns-in-Ok-ask : goal.returns-in-Ok-ask
returns-in-Ok-ask g c = λ call aside posts.
    c.in-Ok-ask.ensures call aside (rw c.in-Ok.is at posts) (λ place reply bytes. printed (g.S.ShowReply.text c.args.shown.now place reply)) _ _
    (c.print_reply.ensures c.args.server.now (g.W.Dialer.state c.ask.new.dialer) aside)

pub returns : goal.returns
returns g c = λ call aside posts.
    c.in-Err.ensures call aside (rw c.in-Ok.is at posts) (λ place reply bytes. printed (g.S.ShowReply.text c.args.shown.now place reply))

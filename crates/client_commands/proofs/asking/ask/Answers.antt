use Rattle.client_commands.specs.Plans.{unless_refused}
use Rattle.client_commands.proofs.asking.ask.Goals as goal

pub returns-in-Ok-Good : goal.returns-in-Ok-Good
returns-in-Ok-Good g c = λ call aside posts good v status f.
    c.in-Ok-Good.ensures call posts (unless_refused good) (g.L.Link.state c.args.console.now) aside v status (rw c.in-Ok-Good.field-0-is f)

pub returns-in-Ok-No : goal.returns-in-Ok-No
returns-in-Ok-No g c = λ call aside posts good.
    c.in-Ok-No.ensures call posts (unless_refused good) (g.L.Link.state c.args.console.now) aside _ _
    (rw c.in-Ok-No.field-0-is (rw c.name.ensures at c.print_code.ensures c.args.server.now (g.W.Dialer.state c.send.new.dialer) aside))

pub returns : goal.returns
returns g c = λ call aside posts good. c.in-Err.ensures call posts (unless_refused good) (g.L.Link.state c.args.console.now) aside

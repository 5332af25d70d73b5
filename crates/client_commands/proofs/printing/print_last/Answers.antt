use Rattle.client_commands.specs.Plans.{end, ends}
use Rattle.client_commands.proofs.printing.print_last.Goals as goal

pub returns-in-Ok : goal.returns-in-Ok
returns-in-Ok g c = λ server dialer aside. c.in-Ok.ensures server (end c.args.status) dialer aside _ _ (ends c.args.status _)

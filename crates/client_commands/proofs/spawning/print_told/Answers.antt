use Rattle.client_commands.specs.Plans.{ends}
use Rattle.client_commands.proofs.spawning.print_told.Goals as goal

pub returns-in-Good : goal.returns-in-Good
returns-in-Good g c = λ server dialer aside. rw c.in-Good.is (ends 9 _)

pub returns-in-No : goal.returns-in-No
returns-in-No g c = λ server dialer aside. rw c.in-No.is (rw c.name.ensures at c.print_code.ensures server dialer aside)

use Rattle.client_commands.specs.Plans.{ends}
use Rattle.client_commands.proofs.batch_files.print_fault.Goals as goal

pub returns-in-Memory : goal.returns-in-Memory
returns-in-Memory g c = λ server dialer aside. rw c.in-Memory.is (ends 5 _)

pub returns-in-Broken : goal.returns-in-Broken
returns-in-Broken g c = λ server dialer aside. rw c.in-Broken.is (c.print_broken.ensures server dialer aside)

use Rattle.client_commands.proofs.batch_files.read_noted.Goals as goal

pub returns-in-Some : goal.returns-in-Some
returns-in-Some g c = λ server next dialer aside. rw c.in-Some.is (rw c.as_slice.ensures.value at c.read_named.ensures server next dialer aside)

pub returns-in-None : goal.returns-in-None
returns-in-None g c = λ server next dialer aside. rw c.in-None.is (c.print_broken.ensures server dialer aside)

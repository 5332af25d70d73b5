use Rattle.client_commands.specs.Plans.{lacks_memory}
use Rattle.client_commands.proofs.printing.print_refusal.Goals as goal

pub returns-in-Err : goal.returns-in-Err
returns-in-Err g c = λ server dialer aside. lacks_memory _ _

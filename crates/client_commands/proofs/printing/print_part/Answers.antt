use Rattle.client_commands.proofs.Following.{printed_part, failed_part}
use Rattle.client_commands.proofs.printing.print_part.Goals as goal

pub returns-in-Ok : goal.returns-in-Ok
returns-in-Ok g c = λ server next dialer aside. printed_part next c.in-Ok.ensures.sends c.in-Ok.ensures.flushed

pub returns-in-Err : goal.returns-in-Err
returns-in-Err g c = λ server next dialer aside. failed_part next c.in-Err.ensures.sends

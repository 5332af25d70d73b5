use Rattle.std.proofs.Common.{◌∙◌}
use Rattle.client_commands.specs.Plans.{lacks_memory}
use Rattle.client_commands.proofs.batch_collecting.print_refused.Goals as goal

pub returns-in-Ok : goal.returns-in-Ok
returns-in-Ok g c = λ server next dialer aside. rw (c.as_bytes.ensures.value ∙ c.in-Ok.ensures) at c.print_part.ensures server next dialer aside

pub returns-in-Err : goal.returns-in-Err
returns-in-Err g c = λ server next dialer aside. lacks_memory _ _

use Rattle.std.proofs.Common.{rules}
use Rattle.link_writer.proofs.printing.print.Goals as goal

pub returns-in-Err : goal.returns-in-Err
returns-in-Err g c = search rules

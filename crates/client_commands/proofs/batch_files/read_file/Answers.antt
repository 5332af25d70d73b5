use Rattle.std.proofs.Common.{Ok, Err}
use Rattle.client_commands.specs.Batches.{once_read}
use Rattle.client_commands.proofs.Batching.{batch_read_on}
use Rattle.client_commands.proofs.batch_files.read_file.Goals as goal

pub returns-in-Ok : goal.returns-in-Ok
returns-in-Ok g c = λ server next dialer aside. batch_read_on _ _ (once_read next) (Ok c.in-Ok.batch) c.in-Ok.ensures

pub returns-in-Err : goal.returns-in-Err
returns-in-Err g c = λ server next dialer aside. batch_read_on _ _ (once_read next) (Err c.in-Err.fault) c.in-Err.ensures _ _ (c.print_fault.ensures server dialer aside)

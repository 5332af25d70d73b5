use Rattle.std.proofs.Common.{option_map}
use Rattle.client_commands.proofs.Batching.{recalled_on, recalled_end}
use Rattle.client_commands.proofs.batch_files.recall.Goals as goal

pub returns-in-Ok : goal.returns-in-Ok
returns-in-Ok g c = λ server next dialer aside. recalled_on c.args.batch c.read_again.new.self (option_map (λ x. x.now) c.args.progress) next c.in-Ok.ensures

pub returns-in-Err : goal.returns-in-Err
returns-in-Err g c = λ server next dialer aside.
    recalled_end c.args.batch c.read_again.new.self (option_map (λ x. x.now) c.args.progress) next c.in-Err.fault c.in-Err.ensures (c.print_fault.ensures server dialer aside)

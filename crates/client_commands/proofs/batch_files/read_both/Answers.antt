use Rattle.std.proofs.Common.{Some}
use Rattle.client_commands.specs.Batches.{recalling}
use Rattle.client_commands.proofs.Following.{carried}
use Rattle.client_commands.proofs.batch_files.read_both.Goals as goal

pub returns-in-Ok : goal.returns-in-Ok
returns-in-Ok g c = λ server next dialer aside.
    carried next _ c.recall.result (c.in-Ok.ensures server (λ b. recalling b (Some c.args.progress.now) next) dialer aside) (c.recall.ensures server next dialer aside)

pub returns-in-Err : goal.returns-in-Err
returns-in-Err g c = λ server next dialer aside. c.in-Err.ensures server (λ b. recalling b (Some c.args.progress.now) next) dialer aside

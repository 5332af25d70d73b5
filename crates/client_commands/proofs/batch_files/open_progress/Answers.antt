use Rattle.client_commands.specs.Batches.{recalling}
use Rattle.client_commands.specs.Steps.{aside_of}
use Rattle.client_commands.proofs.Following.{carried}
use Rattle.client_commands.proofs.batch_files.open_progress.Goals as goal

pub returns-in-Ok : goal.returns-in-Ok
returns-in-Ok g c = λ server next dialer waited.
    carried next _ c.recall.result (c.in-Ok.ensures server (λ progress. recalling c.args.batch progress next) dialer waited)
    (rw c.bytes_of.ensures at c.recall.ensures server next dialer (aside_of waited (g.F.Files.state c.load_progress.new.files)))

pub returns-in-Err : goal.returns-in-Err
returns-in-Err g c = λ server next dialer waited. c.in-Err.ensures server (λ progress. recalling c.args.batch progress next) dialer waited

use Rattle.client_commands.specs.Batches.{loading_done, reading_named}
use Rattle.client_commands.specs.Steps.{aside_of}
use Rattle.client_commands.proofs.Following.{carried, through}
use Rattle.client_commands.proofs.batch_files.open_named.Goals as goal

pub returns-in-Err : goal.returns-in-Err
returns-in-Err g c = λ server next dialer waited. c.in-Err.ensures server (λ text. loading_done c.args.done.now (λ progress. reading_named text progress next)) dialer waited

pub returns-in-Ok-load_progress : goal.returns-in-Ok-load_progress
returns-in-Ok-load_progress g c = λ server next dialer waited.
    carried next _ c.read_noted.result (through (c.in-Ok.ensures server (λ text. loading_done c.args.done.now (λ progress. reading_named text progress next)) dialer waited)
    (c.in-Ok-load_progress.ensures server (λ progress. reading_named c.in-Ok.text.items progress next) dialer waited))
    (rw c.deref.ensures.value at c.read_noted.ensures server next dialer (aside_of waited (g.F.Files.state c.load_progress.new.files)))

pub returns : goal.returns
returns g c = λ server next dialer waited.
    c.in-Ok.ensures server (λ text. loading_done c.args.done.now (λ progress. reading_named text progress next)) dialer waited _ _
    (c.in-Err-load_progress.ensures server (λ progress. reading_named c.in-Ok.text.items progress next) dialer waited)

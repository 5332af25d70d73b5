use Rattle.client_commands.specs.Batches.{once_read, opening_progress}
use Rattle.client_commands.specs.Plans.{read_batch}
use Rattle.client_commands.specs.Steps.{aside_of}
use Rattle.client_commands.proofs.Following.{carried, through}
use Rattle.client_commands.proofs.batch_files.open_batch.Goals as goal

pub returns-in-Err : goal.returns-in-Err
returns-in-Err g c = λ server next dialer waited. c.in-Err.ensures server (λ text. read_batch text c.args.name.now (once_read (λ b. opening_progress c.args.done.now b next))) dialer waited

pub returns-in-Ok-read_file : goal.returns-in-Ok-read_file
returns-in-Ok-read_file g c = λ server next dialer waited.
    carried next _ c.open_progress.result (through (c.in-Ok.ensures server (λ text. read_batch text c.args.name.now (once_read (λ b. opening_progress c.args.done.now b next))) dialer waited)
    (rw c.deref.ensures.value at c.in-Ok-read_file.ensures server (λ b. opening_progress c.args.done.now b next) dialer (aside_of waited (g.F.Files.state c.load_file.new.files))))
    (c.open_progress.ensures server next dialer waited)

pub returns : goal.returns
returns g c = λ server next dialer waited.
    c.in-Ok.ensures server (λ text. read_batch text c.args.name.now (once_read (λ b. opening_progress c.args.done.now b next))) dialer waited _ _
    (rw c.deref.ensures.value at c.in-Err-read_file.ensures server (λ b. opening_progress c.args.done.now b next) dialer (aside_of waited (g.F.Files.state c.load_file.new.files)))

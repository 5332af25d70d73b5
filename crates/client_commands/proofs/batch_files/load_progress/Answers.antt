use Rattle.std.proofs.Common.{Ok, Err}
use Rattle.sw_base.specs.declared.file_fault.FileFault.TheVariants.{Failed, Memory, TooLong}
use Rattle.client_commands.specs.Plans.{ends}
use Rattle.client_commands.specs.Steps.{aside_of}
use Rattle.client_commands.proofs.Following.{loaded_on}
use Rattle.client_commands.proofs.batch_files.load_progress.Goals as goal

pub returns-in-Ok : goal.returns-in-Ok
returns-in-Ok g c = λ server next dialer waited. loaded_on _ _ _ (Ok c.in-Ok.found) c.in-Ok.ensures

pub returns-in-Err-TooLong : goal.returns-in-Err-TooLong
returns-in-Err-TooLong g c = λ server next dialer waited. loaded_on _ _ _ (Err TooLong) (rw c.in-Err-TooLong.field-0-is at c.in-Err-TooLong.ensures) _ _
    (c.print_refusal.ensures server dialer (aside_of waited (g.F.Files.state c.load.new.self)))

pub returns-in-Err-Failed : goal.returns-in-Err-Failed
returns-in-Err-Failed g c = λ server next dialer waited. loaded_on _ _ _ (Err Failed) (rw c.in-Err-Failed.field-0-is at c.in-Err-Failed.ensures) _ _ (ends 4 _)

pub returns-in-Err-Memory : goal.returns-in-Err-Memory
returns-in-Err-Memory g c = λ server next dialer waited. loaded_on _ _ _ (Err Memory) (rw c.in-Err-Memory.field-0-is at c.in-Err-Memory.ensures) _ _ (ends 5 _)

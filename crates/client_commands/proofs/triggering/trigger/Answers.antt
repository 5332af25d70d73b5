use Rattle.std.proofs.Common.{Some, None, Ok, Err}
use Rattle.sw_base.specs.declared.file_fault.FileFault.TheVariants.{Failed, Memory, TooLong}
use Rattle.client_commands.specs.Plans.{ends}
use Rattle.client_commands.specs.Requests.{new_task_call}
use Rattle.client_commands.specs.Steps.{aside_of}
use Rattle.client_commands.proofs.Following.{loaded_on}
use Rattle.client_commands.proofs.triggering.trigger.Goals as goal

pub returns-in-Ok-Some : goal.returns-in-Ok-Some
returns-in-Ok-Some g c = λ waited. loaded_on _ _ _ (Ok (Some c.in-Ok-Some.body)) (rw c.in-Ok-Some.field-0-is at c.in-Ok-Some.ensures) _ _
    (c.print_answer.ensures (new_task_call c.in-Ok-Some.body.items) (aside_of waited (g.F.Files.state c.load.new.self)) c.new_task_post.ensures)

pub returns-in-Ok-None : goal.returns-in-Ok-None
returns-in-Ok-None g c = λ waited. loaded_on _ _ _ (Ok None) (rw c.in-Ok-None.field-0-is at c.in-Ok-None.ensures) _ _
    (c.print_refusal.ensures c.args.server.now (g.W.Dialer.state c.args.dialer.now) (aside_of waited (g.F.Files.state c.load.new.self)))

pub returns-in-Err-TooLong : goal.returns-in-Err-TooLong
returns-in-Err-TooLong g c = λ waited. loaded_on _ _ _ (Err TooLong) (rw c.in-Err-TooLong.field-0-is at c.in-Err-TooLong.ensures) _ _
    (c.print_refusal-in-Err-TooLong.ensures c.args.server.now (g.W.Dialer.state c.args.dialer.now) (aside_of waited (g.F.Files.state c.load.new.self)))

pub returns-in-Err-Failed : goal.returns-in-Err-Failed
returns-in-Err-Failed g c = λ waited. loaded_on _ _ _ (Err Failed) (rw c.in-Err-Failed.field-0-is at c.in-Err-Failed.ensures) _ _ (ends 4 _)

pub returns-in-Err-Memory : goal.returns-in-Err-Memory
returns-in-Err-Memory g c = λ waited. loaded_on _ _ _ (Err Memory) (rw c.in-Err-Memory.field-0-is at c.in-Err-Memory.ensures) _ _ (ends 5 _)

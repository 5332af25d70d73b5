use Rattle.client_commands.specs.Plans.{lacks_memory}
use Rattle.client_commands.specs.Steps.{aside_of}
use Rattle.client_commands.proofs.Batching.{at_any_ok, next_there, told_again, told_leaves, told_on}
use Rattle.client_commands.proofs.Following.{carried}
use Rattle.client_commands.proofs.spawning.keep_told.Goals as goal

pub returns-in-Ok-Done-clause-follows : goal.returns-in-Ok-Done-clause-follows
returns-in-Ok-Done-clause-follows g c = λ server next dialer waited.
    carried (λ _. next c.told.new.self) _ c.save_progress.result (told_on c.args.done.now c.args.batch.now c.told.new.self next c.args.told.now (rw c.in-Ok-Done.field-0-is at c.in-Ok-Done.ensures.marks))
    (c.save_progress.ensures server (next c.told.new.self) dialer (g.L.Link.state c.args.console.now) waited)

pub returns-in-Ok-Done-clause-left : goal.returns-in-Ok-Done-clause-left
returns-in-Ok-Done-clause-left g c =
    at_any_ok c.save_progress.result (told_leaves c.args.batch.now c.told.new.self c.args.told.now (next_there c.args.batch.now c.requires.next) (rw c.in-Ok-Done.field-0-is at c.in-Ok-Done.ensures.marks))

pub returns-in-Ok-Again-clause-follows : goal.returns-in-Ok-Again-clause-follows
returns-in-Ok-Again-clause-follows g c = λ server next dialer waited.
    told_again c.args.done.now c.args.batch.now next c.args.told.now (rw c.in-Ok-Again.field-0-is at c.in-Ok-Again.ensures.marks).0
    (c.print_told.ensures server dialer (aside_of waited (g.F.Files.state c.args.files.now)))

pub returns-in-Err-clause-follows : goal.returns-in-Err-clause-follows
returns-in-Err-clause-follows g c = λ server next dialer waited. lacks_memory _ _

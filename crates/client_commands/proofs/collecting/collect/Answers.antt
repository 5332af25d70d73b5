use Rattle.client_commands.specs.Commands.{delivering}
use Rattle.client_commands.specs.Plans.{lacks_memory}
use Rattle.client_commands.specs.Steps.{aside_of}
use Rattle.client_commands.proofs.collecting.collect.Goals as goal

pub returns-in_default : goal.returns-in_default
returns-in_default g c = λ files. lacks_memory _ _

pub returns-in-Ok-await_end : goal.returns-in-Ok-await_end
returns-in-Ok-await_end g c = λ files.
    c.in-Ok-await_end.ensures c.args.id.now files (delivering c.args.id.now) c.in-Ok.ensures _ _ (c.deliver.ensures (aside_of (g.C.Clock.waited c.await_end.new.clock) files))

pub returns : goal.returns
returns g c = λ files. c.in-Err.ensures c.args.id.now files (delivering c.args.id.now) c.in-Ok.ensures

use Rattle.std.proofs.Common.{sym}
use Rattle.client_commands.specs.Batches.{after_line, line_call}
use Rattle.client_commands.specs.Plans.{lacks_memory}
use Rattle.client_commands.specs.Steps.{aside_of}
use Rattle.client_commands.proofs.Batching.{nothing_told}
use Rattle.client_commands.proofs.Following.{carried}
use Rattle.client_commands.proofs.spawning.send_line.Goals as goal

pub returns-in_default-clause-follows : goal.returns-in_default-clause-follows
returns-in_default-clause-follows g c = λ waited next. lacks_memory _ _

pub returns-in-Err-clause-follows : goal.returns-in-Err-clause-follows
returns-in-Err-clause-follows g c = λ waited next.
    c.in-Err.ensures (line_call c.args.batch.now c.args.line) c.in-Ok.ensures (after_line c.args.done.now c.args.batch.now next) (g.L.Link.state c.args.console.now) (aside_of waited (g.F.Files.state c.args.files.now))

pub returns-in-Some-clause-follows : goal.returns-in-Some-clause-follows
returns-in-Some-clause-follows g c = λ waited next.
    carried (λ _. next c.keep_told.new.batch) _ c.keep_told.result
    (c.in-Ok-send.ensures (line_call c.args.batch.now c.args.line) c.in-Ok.ensures (after_line c.args.done.now c.args.batch.now next) (g.L.Link.state c.args.console.now) (aside_of waited (g.F.Files.state c.args.files.now)))
    (c.keep_told.ensures.follows c.args.server.now next (g.W.Dialer.state c.send.new.dialer) waited)

pub returns-clause-follows : goal.returns-clause-follows
returns-clause-follows g c = λ waited next.
    c.in-Ok-send.ensures (line_call c.args.batch.now c.args.line) c.in-Ok.ensures (after_line c.args.done.now c.args.batch.now next) (g.L.Link.state c.args.console.now) (aside_of waited (g.F.Files.state c.args.files.now)) _ _
    (nothing_told c.args.done.now c.args.batch.now next c.in-Ok-send.told (sym c.in-None.ensures))

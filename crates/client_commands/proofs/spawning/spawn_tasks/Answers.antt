use Rattle.std.proofs.Common.{◌∙◌}
use Rattle.client_commands.specs.Batches.{lines_left, sending}
use Rattle.client_commands.specs.Plans.{lacks_memory}
use Rattle.client_commands.specs.Steps.{aside_of}
use Rattle.client_commands.proofs.Batching.{spawned}
use Rattle.client_commands.proofs.spawning.spawn_tasks.Goals as goal

pub returns-in_default : goal.returns-in_default
returns-in_default g c = λ waited. lacks_memory _ _

pub returns-in-Err : goal.returns-in-Err
returns-in-Err g c = λ waited. spawned c.as_str-done.result.now c.args.path.now c.args.name.now (c.as_str-done.ensures.value ∙ c.in-Ok.ensures)
    (c.in-Err.ensures c.args.server.now (λ b. sending c.as_str-done.result.now (lines_left b) b) (g.W.Dialer.state c.args.dialer.now) waited)

pub returns-in-Ok-send_lines : goal.returns-in-Ok-send_lines
returns-in-Ok-send_lines g c = λ waited. spawned c.as_str-done.result.now c.args.path.now c.args.name.now (c.as_str-done.ensures.value ∙ c.in-Ok.ensures)
    (c.in-Ok-open_batch.ensures c.args.server.now (λ b. sending c.as_str-done.result.now (lines_left b) b) (g.W.Dialer.state c.args.dialer.now) waited _ _
    (c.in-Ok-send_lines.ensures waited _ _ (c.print_marks.ensures c.args.server.now (g.W.Dialer.state c.send_lines.new.dialer) (aside_of waited (g.F.Files.state c.send_lines.new.files)))))

pub returns : goal.returns
returns g c = λ waited. spawned c.as_str-done.result.now c.args.path.now c.args.name.now (c.as_str-done.ensures.value ∙ c.in-Ok.ensures)
    (c.in-Ok-open_batch.ensures c.args.server.now (λ b. sending c.as_str-done.result.now (lines_left b) b) (g.W.Dialer.state c.args.dialer.now) waited _ _ (c.in-Err-send_lines.ensures waited))

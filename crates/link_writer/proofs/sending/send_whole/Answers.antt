use Rattle.std.proofs.Common.{◌∙◌, ◌++◌, sym, take, ap, rules}
use Rattle.std.proofs.lemmas.List.{take-append-drop}
use Rattle.link_writer.proofs.Pieces.{more_written}
use Rattle.link_writer.proofs.sending.send_whole.Goals as goal

pub writes-preserved : goal.writes-preserved
writes-preserved g c = let m = c.in-Ok.ensures in more_written c.writes.invariant m.moves m.input m.faults (sym (take-append-drop c.in-Ok.n c.writes.rest.now) ∙ ap (λ l. take c.in-Ok.n c.writes.rest.now ++ l) (sym c.split_at.ensures.back))

pub returns-in-Err : goal.returns-in-Err
returns-in-Err g c = search rules

-- The line is the entry's, and the blobs change as those of the machine will.
use Rattle.std.proofs.Common.{arith, ap, sym, subst, ◌∙◌}
use Rattle.std.proofs.lemmas.Grind.{common_steps}
use Rattle.std.specs.Option.{option_map}
use Rattle.entry_lines.specs.Lines.{entry_of_line}
use Rattle.swarm_history.specs.Records.{KeepsEntry}
use Rattle.swarm_history.proofs.KeptMachines.{content_is, keeps_entry}
use Rattle.swarm_history.proofs.adding.keep.Goals as goal

pub returns-in-Ok-append-clause-keeps : goal.returns-in-Ok-append-clause-keeps
returns-in-Ok-append-clause-keeps g c =
    let k = g.M.Machine.kept c.args.machine.now in
    let bytes = option_map (λ b. b.now) c.args.bytes in
    subst (KeepsEntry k c.args.entry.now bytes (g.K.Keeper.tables c.args.keeper.now)) (sym c.in-Ok-append.ensures.kept)
    (keeps_entry k (g.K.Keeper.tables c.args.keeper.now) c.args.entry.now c.as_str.result.now c.unwrap_or-content.result.now bytes
    c.added_digest-added.result c.dropped_digest-dropped.result
    (ap entry_of_line c.as_str.ensures ∙ c.in-Ok.ensures.reads_back)
    (content_is c.args.bytes _ c.unwrap_or-content.result c.unwrap_or-content.ensures)
    c.added_digest-added.ensures c.dropped_digest-dropped.ensures)

pub returns-in-Err-Memory-clause-failed : goal.returns-in-Err-Memory-clause-failed
returns-in-Err-Memory-clause-failed g c = grind (arith, common_steps)

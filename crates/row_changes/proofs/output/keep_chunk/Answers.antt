-- Where the chunk doesn't go on from the output, the rows stay.
use Rattle.std.proofs.Common.{◌≡◌, None, map-id, sym, ◌∙◌}
use Rattle.swarm_model.specs.Effects.{fresh_chunk}
use Rattle.row_changes.specs.Output.{run_of}
use Rattle.row_changes.proofs.output.keep_chunk.Goals as goal

pub returns-in_default-clause-rows : goal.returns-in_default-clause-rows
returns-in_default-clause-rows c =
    let none : fresh_chunk (run_of c.args.rows.now.items c.args.no) c.args.chunk ≡ None = rw (← c.deref.ensures.value) (sym c.fresh_chunk.ensures ∙ c.in_default.is) in
    rw none (sym (map-id c.args.rows.now.items))

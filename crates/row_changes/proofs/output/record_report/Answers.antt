-- Two changes of one row.
use Rattle.std.proofs.Common.{ap, ◌∙◌, map, List}
use Rattle.std.proofs.lemmas.Simd.{map-map}
use Rattle.swarm_model.specs.declared.task_row.TaskRow.{TaskRow}
use Rattle.swarm_model.specs.Effects.{ended_run_at, chunk_at, if_some, fresh_chunk}
use Rattle.row_changes.specs.Output.{run_of}
use Rattle.row_changes.proofs.output.record_report.Goals as goal

pub returns-clause-rows : goal.returns-clause-rows
returns-clause-rows c =
    let chunk = if_some (chunk_at c.args.no) (fresh_chunk (run_of c.args.rows.now.items c.args.no) c.args.chunk) in
    let end = if_some (ended_run_at c.args.moment c.args.no c.args.chunk) c.args.last in
    c.finish_if_some.ensures.rows ∙ ap (λ (rows : List TaskRow). map end rows) c.keep_chunk.ensures.rows ∙ map-map end chunk c.args.rows.now.items

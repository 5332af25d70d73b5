-- The scan looks among the chunks that are asked for.
use Rattle.std.proofs.Common.{sym, ◌∙◌}
use Rattle.swarm_model.specs.Blobs.{lacks_chunk}
use Rattle.swarm_model.specs.Output.{lies_within}
use Rattle.pool_queries.proofs.Filtered.{find-filter}
use Rattle.pool_queries.proofs.output.gone_chunk.Goals as goal

pub returns : goal.returns
returns g c =
    c.first_gone.ensures
    ∙ sym (find-filter (lies_within c.args.from c.args.to) (lacks_chunk (g.P.ReadQueries.state c.args.pool.now)) c.args.chunks.now)

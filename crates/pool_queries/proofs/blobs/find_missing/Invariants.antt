use Rattle.std.proofs.Common.{◌≡◌, take}
use Rattle.std.specs.List.{filter}
use Rattle.swarm_model.specs.Answers.{is_missing}
use Rattle.pool_queries.proofs.blobs.find_missing.Given as goal

abbrev pub invariant-loop-blob : goal.invariant-loop-blob
invariant-loop-blob g l = l.missing.items ≡ filter (is_missing (g.P.ReadQueries.state l.pool)) (take l.blob-index l.blobs)

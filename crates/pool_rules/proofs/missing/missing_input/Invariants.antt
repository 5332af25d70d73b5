use Rattle.std.proofs.Common.{◌≡◌, drop}
use Rattle.swarm_model.specs.Blobs.{missing_file, inputs_of}
use Rattle.pool_rules.proofs.missing.missing_input.Given as goal

abbrev pub invariant-loop-place : goal.invariant-loop-place
invariant-loop-place g l =
    missing_file (g.P.ReadQueries.state l.pool) (inputs_of (drop l.place l.slices)) ≡
    missing_file (g.P.ReadQueries.state l.pool) (inputs_of l.slices)

use Rattle.std.proofs.Common.{◌≡◌, drop}
use Rattle.swarm_model.specs.Reuse.{reuse_from}
use Rattle.pool_rules.proofs.reusing.reuse.Given as goal

abbrev pub invariant-loop-place : goal.invariant-loop-place
invariant-loop-place g l =
    reuse_from (g.P.ReadQueries.state l.pool) l.moment l.place (drop l.place l.slices) ≡
    reuse_from (g.P.ReadQueries.state l.pool) l.moment 0 l.slices

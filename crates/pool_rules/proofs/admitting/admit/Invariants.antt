use Rattle.std.proofs.Common.{◌≡◌, drop}
use Rattle.std.specs.List.{position_from}
use Rattle.swarm_model.specs.Slices.{is_open}
use Rattle.pool_rules.proofs.admitting.admit.Given as goal

abbrev pub invariant-loop-place : goal.invariant-loop-place
invariant-loop-place g l =
    position_from (is_open (g.P.ReadQueries.state l.pool)) l.place (drop l.place l.slices) ≡
    position_from (is_open (g.P.ReadQueries.state l.pool)) l.from (drop l.from l.slices)

use Rattle.bot_registry.specs.Demands.{AreCounted}
use Rattle.bot_registry.proofs.demand.Demands.add_sets.Given as goal

abbrev pub invariant-loop-slice : goal.invariant-loop-slice
invariant-loop-slice l = AreCounted l.rows l.self

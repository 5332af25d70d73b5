use Rattle.std.proofs.Common.{◌≡◌, ◌++◌, take, drop, map}
use Rattle.bot_registry.specs.Demands.{recounted}
use Rattle.bot_registry.proofs.demand.recount.Given as goal

abbrev pub invariant-loop-demand : goal.invariant-loop-demand
invariant-loop-demand l = l.demands ≡ map (recounted l.dims l.more) (take l.demand-index l.initial.demands) ++ drop l.demand-index l.initial.demands

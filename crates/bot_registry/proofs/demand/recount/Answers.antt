-- One set more is counted anew.
use Rattle.std.proofs.Common.{arith}
use Rattle.std.proofs.lemmas.List.Edits.{map_over_more}
use Rattle.bot_registry.specs.Demands.{recounted}
use Rattle.bot_registry.proofs.demand.recount.Goals as goal

pub loop-demand-preserved : goal.loop-demand-preserved
loop-demand-preserved c =
    rw (c.recount_one.ensures, ← c.demand-item.is)
    (map_over_more (recounted c.args.dims.now c.args.more) c.args.demands.now c.loop-demand.demands c.loop-demand.demand-index c.demand-item.result
    (omega arith) c.loop-demand.invariant c.demand-item.is)

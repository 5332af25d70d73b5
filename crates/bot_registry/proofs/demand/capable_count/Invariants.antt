use Rattle.std.proofs.Common.{◌≡◌, take}
use Rattle.std.specs.List.{count_by}
use Rattle.swarm_model.specs.Slices.{could_run}
use Rattle.bot_registry.proofs.demand.capable_count.Given as goal

abbrev pub invariant-loop-bot : goal.invariant-loop-bot
invariant-loop-bot l = l.count ≡ count_by (could_run l.dims) (take l.bot-index l.rows)

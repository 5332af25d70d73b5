use Rattle.std.proofs.Common.{◌≡◌, ◌+◌, take, drop, map}
use Rattle.std.specs.List.{All, count_by}
use Rattle.swarm_model.specs.Slices.{could_run}
use Rattle.row_changes.specs.Bots.{silent_bot_if}
use Rattle.bot_registry.proofs.demand.remove_runners.Given as goal

abbrev pub invariant-loop-bot : goal.invariant-loop-bot
invariant-loop-bot l =
    All (λ demand. demand.count ≡ count_by (could_run demand.dims) (map (silent_bot_if l.task) (take l.bot-index l.rows)) + count_by (could_run demand.dims) (drop l.bot-index l.rows)) l.demands

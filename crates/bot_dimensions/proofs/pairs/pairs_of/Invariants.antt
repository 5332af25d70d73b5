use Rattle.std.proofs.Common.{◌≡◌, map}
use Rattle.bot_dimensions.specs.Pairs.{pair_of}
use Rattle.bot_dimensions.proofs.pairs.pairs_of.Given as goal

abbrev pub invariant-loop-item : goal.invariant-loop-item
invariant-loop-item l = l.pairs.items ≡ map pair_of (map (λ item. item.now) l.yielded)

use Rattle.std.proofs.Common.{◌≡◌, ◌++◌, drop}
use Rattle.bot_dimensions.specs.Groups.{values_of}
use Rattle.bot_dimensions.proofs.groups.values_of.Given as goal

abbrev pub invariant-loop-pair : goal.invariant-loop-pair
invariant-loop-pair l = l.values.items ++ values_of l.key (drop l.pair-index l.pairs) ≡ values_of l.key l.pairs

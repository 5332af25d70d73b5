use Rattle.std.proofs.Common.{◌≡◌, ◌++◌, take, drop}
use Rattle.bot_dimensions.specs.Groups.{groups_behind, groups_of}
use Rattle.bot_dimensions.proofs.groups.list_groups.Given as goal

abbrev pub invariant-loop-place : goal.invariant-loop-place
invariant-loop-place l = l.groups.items ++ groups_behind (take l.place l.pairs) (drop l.place l.pairs) ≡ groups_of l.pairs

use Rattle.std.proofs.Common.{◌-◌, map}
use Rattle.content_store.specs.Slots.{digest_of}
use Rattle.content_store.proofs.Found.{IsBetween}
use Rattle.content_store.proofs.searching.place_of.Given as goal

abbrev pub invariant-loop-low : goal.invariant-loop-low
invariant-loop-low l = IsBetween (map digest_of l.slots.items) l.digest l.low l.high

abbrev pub decreases-loop-low : goal.decreases-loop-low
decreases-loop-low l = l.high - l.low

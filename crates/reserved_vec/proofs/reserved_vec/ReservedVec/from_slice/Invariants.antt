use Rattle.std.proofs.Common.{◌≡◌, take}
use Rattle.reserved_vec.proofs.reserved_vec.ReservedVec.from_slice.Given as goal

abbrev pub invariant-loop-item : goal.invariant-loop-item
invariant-loop-item g l = l.list ≡ take l.item-index l.items

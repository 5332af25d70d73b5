-- There are as many items as places.
use Rattle.std.proofs.Common.{ap, length, arith}
use Rattle.placed_list.specs.Plain.{PlacedListState}
use Rattle.placed_list.proofs.Listing.{length-items_at}
use Rattle.placed_list.proofs.placed_list.PlacedList.len.Goals as goal

pub returns : goal.returns
returns g c =
    omega (arith, c.len.ensures, length-items_at c.self.inside.items.items c.self.inside.order.items c.self.invariant.places.in_order, ap (λ (s : PlacedListState _). length s.items) c.self.view_is)

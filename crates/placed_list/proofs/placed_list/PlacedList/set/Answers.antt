-- The item at the place that the order has there is another.
use Rattle.std.proofs.Common.{◌<◌, ◌∙◌, sym, ap, subst, ℕ, length, set, arith}
use Rattle.placed_list.specs.Plain.{PlacedListState}
use Rattle.placed_list.proofs.Listing.{length-items_at}
use Rattle.placed_list.proofs.Places.{items-set}
use Rattle.placed_list.proofs.placed_list.PlacedList.set.Goals as goal

pub index-place-requires : goal.index-place-requires
index-place-requires g c =
    omega (arith, c.requires, length-items_at c.self.inside.items.items c.self.inside.order.items c.self.invariant.places.in_order, ap (λ (s : PlacedListState _). length s.items) c.self.view_is)

pub index_mut-requires : goal.index_mut-requires
index_mut-requires g c =
    let items = c.self.inside.items.items in
    let order = c.self.inside.order.items in
    let place = c.index-place.result.now in
    let low : c.args.index < length order = omega (arith, c.requires, length-items_at items order c.self.invariant.places.in_order, ap (λ (s : PlacedListState _). length s.items) c.self.view_is) in
    let under : place < length items = subst (λ (p : ℕ). p < length items) (sym c.index-place.ensures) (c.self.invariant.places.in_order c.args.index place low) in
    omega (arith, under)

pub returns-clause-items : goal.returns-clause-items
returns-clause-items g c =
    let items = c.self.inside.items.items in
    let order = c.self.inside.order.items in
    let low : c.args.index < length order = omega (arith, c.requires, length-items_at items order c.self.invariant.places.in_order, ap (λ (s : PlacedListState _). length s.items) c.self.view_is) in
    items-set items order c.self.inside.free.items c.args.index c.index-place.result.now c.args.item c.self.invariant.places low (sym c.index-place.ensures)
    ∙ ap (λ (s : PlacedListState _). set s.items c.args.index c.args.item) c.self.view_is

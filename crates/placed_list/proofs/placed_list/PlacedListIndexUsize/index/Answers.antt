-- The item lies at the place that the order has there.
use Rattle.std.proofs.Common.{◌<◌, ◌∙◌, sym, ap, subst, ℕ, length, get_or, arith}
use Rattle.placed_list.specs.Plain.{PlacedListState}
use Rattle.placed_list.proofs.Listing.{length-items_at, get_or-items_at}
use Rattle.placed_list.proofs.placed_list.PlacedListIndexUsize.index.Goals as goal

pub index-requires : goal.index-requires
index-requires g c =
    omega (arith, c.requires, length-items_at c.self.inside.items.items c.self.inside.order.items c.self.invariant.places.in_order, ap (λ (s : PlacedListState _). length s.items) c.self.view_is)

pub index-requires-2 : goal.index-requires-2
index-requires-2 g c =
    let order = c.self.inside.order.items in
    let place = c.index.result.now in
    let low : c.args.index < length order =
    omega (arith, c.requires, length-items_at c.self.inside.items.items order c.self.invariant.places.in_order, ap (λ (s : PlacedListState _). length s.items) c.self.view_is) in
    let under : place < length c.self.inside.items.items =
    subst (λ (p : ℕ). p < length c.self.inside.items.items) (sym c.index.ensures) (c.self.invariant.places.in_order c.args.index place low) in
    omega (arith, under)

pub returns : goal.returns
returns g c =
    let order = c.self.inside.order.items in
    let items = c.self.inside.items.items in
    let place = c.index.result.now in
    let item = c.index-2.result.now in
    let low : c.args.index < length order =
    omega (arith, c.requires, length-items_at items order c.self.invariant.places.in_order, ap (λ (s : PlacedListState _). length s.items) c.self.view_is) in
    c.index-2.ensures ∙ sym (get_or-items_at items order c.args.index place item c.self.invariant.places.in_order low (sym c.index.ensures))
    ∙ ap (λ (s : PlacedListState _). get_or s.items c.args.index item) c.self.view_is

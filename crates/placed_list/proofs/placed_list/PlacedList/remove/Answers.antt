-- The place of the item is given up.
use Rattle.std.proofs.Common.{◌<◌, ◌∙◌, sym, ap, subst, ℕ, List, length, get_or, arith}
use Rattle.std.specs.List.{remove}
use Rattle.placed_list.specs.Plain.{PlacedListState}
use Rattle.placed_list.specs.Places.{items_at}
use Rattle.placed_list.proofs.Listing.{length-items_at, get_or-items_at, items_at-remove}
use Rattle.placed_list.proofs.Places.{given_up}
use Rattle.placed_list.proofs.placed_list.PlacedList.remove.Goals as goal

pub remove-place-requires : goal.remove-place-requires
remove-place-requires g c =
    omega (arith, c.requires, length-items_at c.self.inside.items.items c.self.inside.order.items c.self.invariant.places.in_order, ap (λ (s : PlacedListState _). length s.items) c.self.view_is)

pub index-requires : goal.index-requires
index-requires g c =
    let items = c.self.inside.items.items in
    let order = c.self.inside.order.items in
    let place = c.remove-place.result in
    let low : c.args.index < length order = omega (arith, c.requires, length-items_at items order c.self.invariant.places.in_order, ap (λ (s : PlacedListState _). length s.items) c.self.view_is) in
    let under : place < length items = subst (λ (p : ℕ). p < length items) (sym c.remove-place.ensures.value) (c.self.invariant.places.in_order c.args.index place low) in
    omega (arith, under)

pub invariant_of-self : goal.invariant_of-self
invariant_of-self g c =
    let kept = c.self.invariant in
    let items = c.self.inside.items.items in
    let order = c.self.inside.order.items in
    let place = c.remove-place.result in
    let low : c.args.index < length order = omega (arith, c.requires, length-items_at items order kept.places.in_order, ap (λ (s : PlacedListState _). length s.items) c.self.view_is) in
    record {
      places = rw (c.remove-place.ensures.items, c.push_reserved.ensures.items) (given_up (length items) order c.self.inside.free.items kept.places c.args.index place low (sym c.remove-place.ensures.value));
      few = kept.few;
      items_room = kept.items_room;
      order_room = omega (arith, kept.order_room, c.remove-place.ensures.room);
      free_room = omega (arith, kept.free_room, c.push_reserved.ensures.capacity);
    }

pub returns-clause-value : goal.returns-clause-value
returns-clause-value g c =
    let items = c.self.inside.items.items in
    let order = c.self.inside.order.items in
    let item = c.index.result.now in
    let low : c.args.index < length order = omega (arith, c.requires, length-items_at items order c.self.invariant.places.in_order, ap (λ (s : PlacedListState _). length s.items) c.self.view_is) in
    c.index.ensures ∙ sym (get_or-items_at items order c.args.index c.remove-place.result item c.self.invariant.places.in_order low (sym c.remove-place.ensures.value))
    ∙ ap (λ (s : PlacedListState _). get_or s.items c.args.index item) c.self.view_is

pub returns-clause-items : goal.returns-clause-items
returns-clause-items g c =
    let items = c.self.inside.items.items in
    let order = c.self.inside.order.items in
    ap (λ (l : List ℕ). items_at items l) c.remove-place.ensures.items
    ∙ items_at-remove items order c.args.index c.index.result.now c.self.invariant.places.in_order
    ∙ ap (λ (s : PlacedListState _). remove s.items c.args.index) c.self.view_is

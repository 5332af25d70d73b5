-- The item lies at a place that was free, or behind all others.
use Rattle.std.proofs.Common.{◌≡◌, ◌≤◌, ◌∙◌, sym, ap, subst, ℕ, List, [], ◌∷◌, ◌++◌, ◌+◌, length, set, arith}
use Rattle.std.specs.List.{insert}
use Rattle.std.proofs.lemmas.List.{length-set, length_push, nil_from_length}
use Rattle.placed_list.specs.Plain.{PlacedListState}
use Rattle.placed_list.specs.Places.{items_at, ArePlaces}
use Rattle.placed_list.proofs.Listing.{length-items_at}
use Rattle.placed_list.proofs.Places.{used_again, added, items-used_again, items-added}
use Rattle.placed_list.proofs.placed_list.PlacedList.insert_reserved.Goals as goal

pub insert_reserved-requires-clause-index : goal.insert_reserved-requires-clause-index
insert_reserved-requires-clause-index g c =
    omega (arith, c.requires.index, length-items_at c.self.inside.items.items c.self.inside.order.items c.self.invariant.places.in_order, ap (λ (s : PlacedListState _). length s.items) c.self.view_is)

pub invariant_of-self : goal.invariant_of-self
invariant_of-self g c =
    let kept = c.self.invariant in
    let items = c.self.inside.items.items in
    let order = c.self.inside.order.items in
    let free = c.pop.new.self.items in
    let place = c.in-Some.place in
    let long = length-set items place c.args.item in
    let index : c.args.index ≤ length order = omega (arith, c.requires.index, length-items_at items order kept.places.in_order, ap (λ (s : PlacedListState _). length s.items) c.self.view_is) in
    let was : ArePlaces (length items) order (free ++ place ∷ []) = subst (λ (l : List ℕ). ArePlaces (length items) order l) c.in-Some.ensures.items kept.places in
    record {
      places = rw (long, c.insert_reserved.ensures.items) (used_again (length items) order free place was c.args.index index);
      few = omega (arith, kept.few, long);
      items_room = kept.items_room;
      order_room = omega (arith, kept.order_room, c.insert_reserved.ensures.room);
      free_room = omega (arith, kept.free_room, c.in-Some.ensures.capacity);
    }

pub push_reserved-requires : goal.push_reserved-requires
push_reserved-requires g c =
    let kept = c.self.invariant in
    omega (
      arith,
      c.requires.room,
      length-items_at c.self.inside.items.items c.self.inside.order.items kept.places.in_order,
      ap (λ (s : PlacedListState _). length s.items) c.self.view_is,
      ap (λ (s : PlacedListState _). s.room) c.self.view_is,
      kept.places.all,
      kept.items_room,
      c.in-None.ensures.cases,
    )

pub insert_reserved-requires-in-None-clause-index : goal.insert_reserved-requires-in-None-clause-index
insert_reserved-requires-in-None-clause-index g c =
    omega (arith, c.requires.index, length-items_at c.self.inside.items.items c.self.inside.order.items c.self.invariant.places.in_order, ap (λ (s : PlacedListState _). length s.items) c.self.view_is)

pub insert_reserved-requires-in-None-clause-room : goal.insert_reserved-requires-in-None-clause-room
insert_reserved-requires-in-None-clause-room g c =
    let kept = c.self.invariant in
    omega (
      arith,
      c.requires.room,
      length-items_at c.self.inside.items.items c.self.inside.order.items kept.places.in_order,
      ap (λ (s : PlacedListState _). length s.items) c.self.view_is,
      ap (λ (s : PlacedListState _). s.room) c.self.view_is,
      kept.order_room,
    )

pub invariant_of-self-in-None : goal.invariant_of-self-in-None
invariant_of-self-in-None g c =
    let kept = c.self.invariant in
    let items = c.self.inside.items.items in
    let order = c.self.inside.order.items in
    let place = c.len-place.result in
    let end : place ≡ length items = omega (arith, c.len-place.ensures) in
    let long : length c.push_reserved.new.self.items ≡ length items + 1 = ap (λ (l : List _). length l) c.push_reserved.ensures.items ∙ length_push items c.args.item in
    let size : length order ≡ length c.args.self.now.items = sym (length-items_at items order kept.places.in_order) ∙ ap (λ (s : PlacedListState _). length s.items) c.self.view_is in
    let index : c.args.index ≤ length order = omega (arith, c.requires.index, size) in
    let room : c.self.inside.room ≡ c.args.self.now.room = ap (λ (s : PlacedListState _). s.room) c.self.view_is in
    let none : length c.self.inside.free.items ≡ 0 = omega (arith, c.in-None.ensures.cases) in
    let left : length c.pop.new.self.items ≡ 0 = omega (arith, c.in-None.ensures.cases) in
    let was : ArePlaces (length items) order [] = subst (λ (l : List ℕ). ArePlaces (length items) order l) (nil_from_length c.self.inside.free.items none) kept.places in
    record {
      places = rw (long, c.insert_reserved-in-None.ensures.items, end, nil_from_length c.pop.new.self.items left) (added (length items) order c.args.index was index);
      few = omega (arith, c.requires.room, size, room, kept.places.all, none, long);
      items_room = omega (arith, kept.items_room, c.push_reserved.ensures.capacity);
      order_room = omega (arith, kept.order_room, c.insert_reserved-in-None.ensures.room);
      free_room = omega (arith, kept.free_room, c.in-None.ensures.capacity);
    }

pub returns-in-Some-clause-items : goal.returns-in-Some-clause-items
returns-in-Some-clause-items g c =
    let items = c.self.inside.items.items in
    let order = c.self.inside.order.items in
    let free = c.pop.new.self.items in
    let place = c.in-Some.place in
    let was : ArePlaces (length items) order (free ++ place ∷ []) = subst (λ (l : List ℕ). ArePlaces (length items) order l) c.in-Some.ensures.items c.self.invariant.places in
    ap (λ (l : List ℕ). items_at (set items place c.args.item) l) c.insert_reserved.ensures.items
    ∙ items-used_again items order free place c.args.index c.args.item was
    ∙ ap (λ (s : PlacedListState _). insert s.items c.args.index c.args.item) c.self.view_is

pub returns-in-None-clause-items : goal.returns-in-None-clause-items
returns-in-None-clause-items g c =
    let items = c.self.inside.items.items in
    let order = c.self.inside.order.items in
    let end : c.len-place.result ≡ length items = omega (arith, c.len-place.ensures) in
    let none : length c.self.inside.free.items ≡ 0 = omega (arith, c.in-None.ensures.cases) in
    let was : ArePlaces (length items) order [] = subst (λ (l : List ℕ). ArePlaces (length items) order l) (nil_from_length c.self.inside.free.items none) c.self.invariant.places in
    rw (c.push_reserved.ensures.items, c.insert_reserved-in-None.ensures.items, end)
    (items-added items order c.args.index c.args.item was ∙ ap (λ (s : PlacedListState _). insert s.items c.args.index c.args.item) c.self.view_is)
